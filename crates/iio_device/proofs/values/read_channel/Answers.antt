use Rattle.std.proofs.Common.{arith}
use Rattle.std.proofs.lemmas.Grind.{elements}
use Rattle.iio_device.proofs.values.read_channel.Goals as goal

pub returns-in-Scale : goal.returns-in-Scale
returns-in-Scale g c = grind (arith, elements)

pub returns-in-Offset : goal.returns-in-Offset
returns-in-Offset g c = grind (arith, elements)

pub returns-in-Calibscale : goal.returns-in-Calibscale
returns-in-Calibscale g c = grind (arith, elements)
