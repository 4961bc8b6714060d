use Rattle.std.proofs.Common.{◌∙◌, sym}
use Rattle.std.proofs.lemmas.List.{length-map}
use Rattle.iio_script.specs.Keeps.{keeping_view}
use Rattle.iio_script.proofs.KeptLaws.{both_kept, described_keeps, takes_kept, told_alone, told_cut, told_faulty}
use Rattle.iio_script.proofs.keeping.keep_input.Goals as goal

pub returns-in-Ok-Described-clause-keeps : goal.returns-in-Ok-Described-clause-keeps
returns-in-Ok-Described-clause-keeps g c =
    both_kept keeping_view c.args.watched.now _ c.args.count c.in-Ok-Described.desc c.in-Ok-Described.first c.open.new.lines (g.S.Source.left c.args.input.now)
    (g.S.Source.left c.open.new.source) (g.S.Source.left c.keep_described.new.input) c.keep_described.result
    (c.requires ∙ sym (length-map c.args.drivers.items _)) c.open.ensures.hand (rw c.in-Ok-Described.field-0-is at c.in-Ok-Described.ensures.opening)
    (λ input front more follows looked. c.keep_described.ensures.keeps input front more follows looked)

pub returns-in-Ok-Described-clause-taken : goal.returns-in-Ok-Described-clause-taken
returns-in-Ok-Described-clause-taken g c =
    described_keeps keeping_view c.args.watched.now _ c.args.count c.in-Ok-Described.desc c.in-Ok-Described.first c.open.new.lines
    (g.S.Source.left c.args.input.now) (g.S.Source.left c.open.new.source) (g.S.Source.left c.keep_described.new.input) c.keep_described.result
    (c.requires ∙ sym (length-map c.args.drivers.items _)) c.open.ensures.hand (rw c.in-Ok-Described.field-0-is at c.in-Ok-Described.ensures.opening)
    (λ input front more follows looked. c.keep_described.ensures.keeps input front more follows looked)

pub returns-in-Ok-Alone-clause-keeps : goal.returns-in-Ok-Alone-clause-keeps
returns-in-Ok-Alone-clause-keeps g c =
    told_alone c.args.watched.now _ c.args.count c.in-Ok-Alone.field-0-0 c.new-in-Ok-Alone.result.items (g.S.Source.left c.args.input.now)
    (c.requires ∙ sym (length-map c.args.drivers.items _)) c.new-in-Ok-Alone.ensures.items
    (rw c.in-Ok-Alone.field-0-is at c.in-Ok-Alone.ensures.opening)

pub returns-in-Ok-Refused-clause-keeps : goal.returns-in-Ok-Refused-clause-keeps
returns-in-Ok-Refused-clause-keeps g c =
    told_faulty c.args.watched.now _ c.args.count c.in-Ok-Refused.line c.in-Ok-Refused.why (g.S.Source.left c.args.input.now)
    (g.S.Source.left c.open.new.source) (c.requires ∙ sym (length-map c.args.drivers.items _))
    (rw c.in-Ok-Refused.field-0-is at c.in-Ok-Refused.ensures.opening)

pub returns-in-Ok-Cut-clause-keeps : goal.returns-in-Ok-Cut-clause-keeps
returns-in-Ok-Cut-clause-keeps g c =
    told_cut c.args.watched.now _ c.args.count (g.S.Source.left c.args.input.now) (c.requires ∙ sym (length-map c.args.drivers.items _))
    (rw c.in-Ok-Cut.field-0-is at c.in-Ok-Cut.ensures.opening)

pub returns-in-Ok-Alone-clause-taken : goal.returns-in-Ok-Alone-clause-taken
returns-in-Ok-Alone-clause-taken g c = takes_kept (g.S.Source.left c.args.input.now) (g.S.Source.left c.open.new.source) c.open.ensures.taken

pub returns-in-Ok-Refused-clause-taken : goal.returns-in-Ok-Refused-clause-taken
returns-in-Ok-Refused-clause-taken g c = takes_kept (g.S.Source.left c.args.input.now) (g.S.Source.left c.open.new.source) c.open.ensures.taken

pub returns-in-Ok-Cut-clause-taken : goal.returns-in-Ok-Cut-clause-taken
returns-in-Ok-Cut-clause-taken g c = takes_kept (g.S.Source.left c.args.input.now) (g.S.Source.left c.open.new.source) c.open.ensures.taken

pub returns-in-Err-clause-taken : goal.returns-in-Err-clause-taken
returns-in-Err-clause-taken g c = takes_kept (g.S.Source.left c.args.input.now) (g.S.Source.left c.open.new.source) c.open.ensures.taken
