use Rattle.iio_output.proofs.PlaybackLemmas.{plays_written}
use Rattle.iio_output.proofs.out.Out.write.Goals as goal

pub returns-clause-playback : goal.returns-clause-playback
returns-clause-playback c =
    rw (← c.self.view_is)
    (rw (c.in-Some.is, c.write.ensures.written) (λ x plays. plays_written c.in-Some.writer c.self.inside.underruns c.args.bytes.now x plays))
