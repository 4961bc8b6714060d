use Rattle.iio_script.specs.Ends.{views_of}
use Rattle.iiod_program.specs.Does.{streams_of}
use Rattle.iiod_program.proofs.EndLaws.{ends_played, played_text}
use Rattle.iiod_program.proofs.serving.run_with.Goals as goal

pub returns : goal.returns
returns g c = λ words. ends_played _ _ _ _ _ c.requires
    (played_text (views_of g.S.Source.left g.S.Source.faults g.K.Sink.written g.K.Sink.faults) c.args.words.now _ c.run.result
    (streams_of c.args.input.now c.args.output.now) (streams_of c.run.new.input c.run.new.output) c.run.ensures.does words)
