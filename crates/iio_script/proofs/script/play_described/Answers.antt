use Rattle.iio_script.proofs.RunLaws.{whole_fault, whole_none, whole_written}
use Rattle.iio_script.proofs.script.play_described.Goals as goal

pub returns-in_default-clause-played : goal.returns-in_default-clause-played
returns-in_default-clause-played g c = λ input front more follows at looked.
    whole_none _ _ input c.args.lines.now (g.S.Source.left c.args.input.now) (g.K.Sink.written c.args.output.now) c.requires.hand follows

pub returns-in_default-new-clause-played : goal.returns-in_default-new-clause-played
returns-in_default-new-clause-played g c = λ input front more follows at looked.
    whole_none _ _ input c.args.lines.now (g.S.Source.left c.args.input.now) (g.K.Sink.written c.args.output.now) c.requires.hand follows

pub returns-in-Ok-play_steps-clause-played : goal.returns-in-Ok-play_steps-clause-played
returns-in-Ok-play_steps-clause-played g c = λ input front more follows at looked.
    whole_written _ _ input c.in-Ok-play_steps.status c.end_with.result c.play_steps.new.out.items (g.S.Source.left c.args.input.now)
    (g.S.Source.left c.play_steps.new.input) (g.K.Sink.written c.args.output.now) (g.K.Sink.written c.play_steps.new.output)
    (g.K.Sink.written c.end_with.new.output)
    (c.in-Ok-play_steps.ensures.played _ input front more c.in-Ok-new.ensures.stands c.in-Ok.ensures follows at looked) c.end_with.ensures.writes

pub returns-clause-played : goal.returns-clause-played
returns-clause-played g c = λ input front more follows at looked.
    whole_fault _ _ input c.in-Err.fault c.play_steps.new.out.items (g.S.Source.left c.args.input.now)
    (g.S.Source.left c.play_steps.new.input) (g.K.Sink.written c.args.output.now) (g.K.Sink.written c.play_steps.new.output)
    (c.in-Err.ensures.played _ input front more c.in-Ok-new.ensures.stands c.in-Ok.ensures follows at looked) c.in-Err.ensures.over
