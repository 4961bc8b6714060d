use Rattle.std.proofs.Common.{arith}
use Rattle.std.proofs.lemmas.Grind.{common_steps}
use Rattle.iio_derive.proofs.members.seat_at.Goals as goal

pub returns-then-number-len-clause-sized : goal.returns-then-number-len-clause-sized
returns-then-number-len-clause-sized c = grind (arith, common_steps)

pub returns-clause-seated : goal.returns-clause-seated
returns-clause-seated c = grind (arith, common_steps)

pub returns-clause-sized : goal.returns-clause-sized
returns-clause-sized c = grind (arith, common_steps)
