use Rattle.std.proofs.Common.{arith}
use Rattle.std.proofs.lemmas.Grind.{common_steps}
use Rattle.iio_derive.proofs.members.free_place.Goals as goal

pub returns-clause-free : goal.returns-clause-free
returns-clause-free c = grind (arith, common_steps)
