use Rattle.iio_kinds.proofs.MeanGathers.{mean_look_stays}
use Rattle.iio_kinds.proofs.mean_device.MeanDevice.sense.Goals as goal

pub returns-clause-station : goal.returns-clause-station
returns-clause-station c = mean_look_stays c.args.self.now c.args._t
