use Rattle.iio_output.proofs.PlaybackLemmas.{plays_next}
use Rattle.iio_output.proofs.out.Out.next.Goals as goal

pub returns-clause-playback : goal.returns-clause-playback
returns-clause-playback c =
    plays_next c.args.self.now c.give-answer.new.self c.count.new.self c.give-answer.result c.args.out.now c.give-answer.new.out c.give-answer.ensures.answer
    c.give-answer.ensures.scan c.give-answer.ensures.given c.count.ensures
