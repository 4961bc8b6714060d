use Rattle.std.proofs.Common.{w64, to_z, of_z}
use Rattle.iio_event.specs.Monitor.{channel_at}
use Rattle.iio_device.proofs.SensingLemmas.{fired-few}
use Rattle.iio_device.proofs.sensing.sense_one.Goals as goal

pub returns-clause-few : goal.returns-clause-few
returns-clause-few g c =
    rw c.sense.ensures.count (fired-few (to_z w64 (of_z w64 c.in_ok-value.value)) (to_z w64 (of_z w64 c.args.t)) (channel_at c.args.c c.args.monitor.now))
