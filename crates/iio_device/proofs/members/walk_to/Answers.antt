use Rattle.std.proofs.Common.{arith}
use Rattle.std.proofs.lemmas.Grind.{common_steps}
use Rattle.iio_device.proofs.members.walk_to.Goals as goal

pub loop-i-preserved : goal.loop-i-preserved
loop-i-preserved c = grind (arith, common_steps)

pub returns-then-members-i-clause-live : goal.returns-then-members-i-clause-live
returns-then-members-i-clause-live c = grind (arith, common_steps)

pub returns-then-members-i-clause-at : goal.returns-then-members-i-clause-at
returns-then-members-i-clause-at c = grind (arith, common_steps)

pub returns-then-members-i-clause-member : goal.returns-then-members-i-clause-member
returns-then-members-i-clause-member c = grind (arith, common_steps)

pub returns-clause-live : goal.returns-clause-live
returns-clause-live c = grind (arith, common_steps)

pub returns-clause-none : goal.returns-clause-none
returns-clause-none c = grind (arith, common_steps)
