use Rattle.std.proofs.Common.{arith}
use Rattle.std.proofs.lemmas.Grind.{common_steps}
use Rattle.iio_sensor.proofs.held.copy_types.Goals as goal

pub listed : goal.listed
listed c = grind (arith, common_steps)

pub bounds-types-c : goal.bounds-types-c
bounds-types-c c = grind (arith, common_steps)

pub loop-c-preserved : goal.loop-c-preserved
loop-c-preserved c = grind (arith, common_steps)

pub returns : goal.returns
returns c = grind (arith, common_steps)
