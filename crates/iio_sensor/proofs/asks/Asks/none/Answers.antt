use Rattle.iio_sensor.proofs.Biases.{bias_none}
use Rattle.iio_sensor.proofs.asks.Asks.none.Goals as goal

pub returns-clause-bias : goal.returns-clause-bias
returns-clause-bias c = bias_none
