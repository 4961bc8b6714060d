use Rattle.iio_kinds.proofs.OutLemmas.{data_below}
use Rattle.iio_kinds.proofs.out_device.OutDevice.start.Goals as goal

pub start-requires-clause-channel : goal.start-requires-clause-channel
start-requires-clause-channel c = data_below c.args.self.now.out.shape c.args.mask.bits c.requires.channel
