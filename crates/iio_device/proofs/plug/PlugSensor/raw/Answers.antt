use Rattle.std.proofs.Common.{w64}
use Rattle.std.proofs.lemmas.Int.{to_z-of_z}
use Rattle.iio_device.proofs.plug.PlugSensor.raw.Goals as goal

pub returns-in-Own-clause-value : goal.returns-in-Own-clause-value
returns-in-Own-clause-value g c = rw c.in-Own.is (rw (to_z-of_z w64 c.args.t c.ranges.t) at c.raw.ensures.value)
