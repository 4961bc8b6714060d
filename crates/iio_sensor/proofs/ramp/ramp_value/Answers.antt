use Rattle.std.proofs.Common.{arith}
use Rattle.std.proofs.lemmas.Grind.{common_steps}
use Rattle.iio_sensor.proofs.ramp.ramp_value.Goals as goal

pub bounds-biases-c : goal.bounds-biases-c
bounds-biases-c c = grind (arith, common_steps)
