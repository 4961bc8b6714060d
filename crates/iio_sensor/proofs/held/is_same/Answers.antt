use Rattle.std.proofs.Common.{rules}
use Rattle.iio_sensor.proofs.held.is_same.Goals as goal

pub returns : goal.returns
returns c = λ same. search (rules, same)
