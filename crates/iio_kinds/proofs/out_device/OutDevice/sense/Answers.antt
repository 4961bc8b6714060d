use Rattle.iio_kinds.proofs.OutLemmas.{look_fires, look_stays}
use Rattle.iio_kinds.proofs.out_device.OutDevice.sense.Goals as goal

pub returns-then-self-clause-answer : goal.returns-then-self-clause-answer
returns-then-self-clause-answer c = look_fires c.args.self.now c.args._t c.if-self.true

pub returns-then-self-clause-station : goal.returns-then-self-clause-station
returns-then-self-clause-station c = look_stays c.args.self.now c.args._t
