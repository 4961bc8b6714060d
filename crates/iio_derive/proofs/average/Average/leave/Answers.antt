use Rattle.std.proofs.Common.{arith}
use Rattle.std.proofs.lemmas.Grind.{common_steps}
use Rattle.iio_derive.proofs.average.Average.leave.Goals as goal

pub index_mut-requires : goal.index_mut-requires
index_mut-requires c = grind (arith, common_steps)

pub invariant_of-self : goal.invariant_of-self
invariant_of-self c = grind (arith, common_steps)

pub invariant_of-self-else-not-has_member : goal.invariant_of-self-else-not-has_member
invariant_of-self-else-not-has_member c = grind (arith, common_steps)

pub returns-then-not-has_member : goal.returns-then-not-has_member
returns-then-not-has_member c = grind (arith, common_steps)

pub returns-else-not-has_member : goal.returns-else-not-has_member
returns-else-not-has_member c = grind (arith, common_steps)
