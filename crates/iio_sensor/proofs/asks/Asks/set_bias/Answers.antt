use Rattle.std.proofs.Common.{arith}
use Rattle.std.specs.Int.{w64}
use Rattle.std.proofs.lemmas.Int.{to_z-of_z}
use Rattle.iio_sensor.proofs.Biases.{bias_set}
use Rattle.iio_sensor.proofs.asks.Asks.set_bias.Goals as goal

pub returns-clause-bias : goal.returns-clause-bias
returns-clause-bias c = rw (to_z-of_z w64 c.args.v c.ranges.v) (bias_set c.args.self.now.biases c.args.c c.args.v (omega arith))
