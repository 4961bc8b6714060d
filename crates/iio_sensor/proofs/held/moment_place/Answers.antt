use Rattle.std.proofs.Common.{arith}
use Rattle.std.proofs.lemmas.Grind.{common_steps}
use Rattle.iio_sensor.proofs.held.moment_place.Goals as goal

pub place-requires-clause-channel : goal.place-requires-clause-channel
place-requires-clause-channel c = grind (arith, common_steps)
