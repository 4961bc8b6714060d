use Rattle.iio_script.specs.Keeps.{keeping_view}
use Rattle.iio_worlds.specs.Solo.{solo_outcome_of, twice}
use Rattle.iio_solo.proofs.SoloEnds.{any_status, kept_status, kept_writes, no_read_fault, no_usage, nothing_failed, nothing_memory}
use Rattle.iio_solo.proofs.solo.Goals as goal

pub returns-in-Ok-clause-worlds : goal.returns-in-Ok-clause-worlds
returns-in-Ok-clause-worlds g c =
    kept_writes c.solo_law.ensures.twice c.args.name.now _ (keeping_view c.in-Ok.kept) c.write_kept.result (g.S.Source.left c.args.input.now)
    (g.K.Sink.written c.args.output.now) (g.K.Sink.written c.write_kept.new.output) c.in-Ok.ensures.keeps c.write_kept.ensures.prints

pub returns-in-Ok-clause-status : goal.returns-in-Ok-clause-status
returns-in-Ok-clause-status g c =
    kept_status c.solo_law.ensures.twice c.args.name.now _ (keeping_view c.in-Ok.kept) c.write_kept.result (g.S.Source.left c.args.input.now)
    (g.K.Sink.written c.args.output.now) (g.K.Sink.written c.write_kept.new.output) c.in-Ok.ensures.keeps c.write_kept.ensures.prints

pub returns-in-Ok-clause-words : goal.returns-in-Ok-clause-words
returns-in-Ok-clause-words g c =
    λ is. no_usage (twice (keeping_view c.in-Ok.kept)) c.write_kept.result c.write_kept.ensures.prints.0 c.write_kept.ensures.prints.2 is

pub returns-in-Ok-clause-nothing : goal.returns-in-Ok-clause-nothing
returns-in-Ok-clause-nothing g c =
    λ is. absurd (no_read_fault (twice (keeping_view c.in-Ok.kept)) c.write_kept.result c.write_kept.ensures.prints.0 c.write_kept.ensures.prints.2 is)

pub returns-in-Err-Failed-clause-worlds : goal.returns-in-Err-Failed-clause-worlds
returns-in-Err-Failed-clause-worlds g c =
    nothing_failed (λ input. solo_outcome_of c.args.name.now _ input) (g.S.Source.left c.args.input.now) (g.K.Sink.written c.args.output.now)

pub returns-in-Err-Mem-clause-worlds : goal.returns-in-Err-Mem-clause-worlds
returns-in-Err-Mem-clause-worlds g c =
    nothing_memory (λ input. solo_outcome_of c.args.name.now _ input) (g.S.Source.left c.args.input.now) (g.K.Sink.written c.args.output.now)

pub returns-in-Err-Failed-clause-status : goal.returns-in-Err-Failed-clause-status
returns-in-Err-Failed-clause-status g c = any_status (g.S.Source.left c.args.input.now)

pub returns-in-Err-Mem-clause-status : goal.returns-in-Err-Mem-clause-status
returns-in-Err-Mem-clause-status g c = any_status (g.S.Source.left c.args.input.now)
