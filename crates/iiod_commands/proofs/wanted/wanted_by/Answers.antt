use Rattle.std.proofs.Common.{arith}
use Rattle.std.proofs.lemmas.Grind.{common_steps}
use Rattle.iiod_commands.proofs.wanted.wanted_by.Goals as goal

pub read-requires-clause-some : goal.read-requires-clause-some
read-requires-clause-some c = grind (arith, common_steps)

pub returns-clause-may_open : goal.returns-clause-may_open
returns-clause-may_open c = grind (arith, common_steps)
