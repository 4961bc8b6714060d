use Rattle.std.proofs.Common.{Err, ◌∙◌, sym, ap}
use Rattle.std.proofs.lemmas.List.{length-map}
use Rattle.iio_script.proofs.OutcomeLaws.{all_told, both_told, runs_alone, runs_cut, runs_described, runs_failed, runs_none, runs_nothing, runs_refused, takes_of}
use Rattle.iio_script.proofs.script.play_input.Goals as goal

pub returns-in_default-clause-runs : goal.returns-in_default-clause-runs
returns-in_default-clause-runs g c =
    runs_nothing _ (g.S.Source.left c.args.input.now) (g.K.Sink.written c.args.output.now)

pub returns-in-Ok-Described-clause-runs : goal.returns-in-Ok-Described-clause-runs
returns-in-Ok-Described-clause-runs g c =
    both_told _ _ _ (g.S.Source.left c.args.input.now)
    (λ input opens unended. runs_described _ c.args.count c.in-Ok-Described.desc c.in-Ok-Described.first input c.open.new.lines
    (g.S.Source.left c.open.new.source) (g.S.Source.left c.play_described.new.input) (g.K.Sink.written c.args.output.now)
    (g.K.Sink.written c.play_described.new.output) c.play_described.result
    (c.requires ∙ sym (length-map c.args.drivers.items _)) c.open.ensures.hand opens unended
    (λ front more follows at looked. c.play_described.ensures.played input front more follows at looked))
    (rw c.in-Ok-Described.field-0-is at c.in-Ok-Described.ensures.opening) c.open.ensures.unended

pub returns-in-Ok-Alone-clause-runs : goal.returns-in-Ok-Alone-clause-runs
returns-in-Ok-Alone-clause-runs g c =
    all_told _ _ _ _ (g.S.Source.left c.args.input.now)
    (λ input opens takes unended. runs_alone _ c.args.count c.in-Ok-Alone.field-0-0 input (g.S.Source.left c.open.new.source)
    (g.K.Sink.written c.args.output.now) (c.requires ∙ sym (length-map c.args.drivers.items _)) opens takes unended)
    (rw c.in-Ok-Alone.field-0-is at c.in-Ok-Alone.ensures.opening) c.open.ensures.taken c.open.ensures.unended

pub returns-in-Ok-Refused-clause-runs : goal.returns-in-Ok-Refused-clause-runs
returns-in-Ok-Refused-clause-runs g c =
    all_told _ _ _ _ (g.S.Source.left c.args.input.now)
    (λ input opens takes unended. runs_refused _ c.args.count c.in-Ok-Refused.line c.in-Ok-Refused.why input (g.S.Source.left c.open.new.source)
    (g.K.Sink.written c.args.output.now) (g.K.Sink.written c.end_refused.new.output) c.end_refused.result (c.requires ∙ sym (length-map c.args.drivers.items _))
    opens takes unended c.end_refused.ensures.refused c.end_refused.ensures.prints) (rw c.in-Ok-Refused.field-0-is at c.in-Ok-Refused.ensures.opening)
    c.open.ensures.taken c.open.ensures.unended

pub returns-in-Ok-Cut-clause-runs : goal.returns-in-Ok-Cut-clause-runs
returns-in-Ok-Cut-clause-runs g c =
    all_told _ _ _ _ (g.S.Source.left c.args.input.now)
    (λ input opens takes unended. runs_cut _ c.args.count input (g.S.Source.left c.open.new.source) (g.K.Sink.written c.args.output.now)
    (g.K.Sink.written c.end_cut.new.output) c.end_cut.result (c.requires ∙ sym (length-map c.args.drivers.items _)) opens takes unended
    c.end_cut.ensures.prints) (rw c.in-Ok-Cut.field-0-is at c.in-Ok-Cut.ensures.opening) c.open.ensures.taken c.open.ensures.unended

pub returns-in-Err-Failed-clause-runs : goal.returns-in-Err-Failed-clause-runs
returns-in-Err-Failed-clause-runs g c =
    all_told _ _ _ _ (g.S.Source.left c.args.input.now)
    (λ input fails takes unended. runs_failed _ c.args.count input (g.S.Source.left c.open.new.source) (g.K.Sink.written c.args.output.now)
    (c.requires ∙ sym (length-map c.args.drivers.items _)) fails takes unended) (c.open.ensures.fault (c.in-Err-Failed.is ∙ ap Err c.in-Err-Failed.field-0-is))
    c.open.ensures.taken c.open.ensures.unended

pub returns-clause-runs : goal.returns-clause-runs
returns-clause-runs g c =
    both_told _ _ _ (g.S.Source.left c.args.input.now)
    (λ input takes unended. runs_none _ c.args.count input (g.S.Source.left c.open.new.source) (g.K.Sink.written c.args.output.now)
    (c.requires ∙ sym (length-map c.args.drivers.items _)) (takes_of input (g.S.Source.left c.open.new.source) takes) unended) c.open.ensures.taken
    c.open.ensures.unended
