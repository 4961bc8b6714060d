use Rattle.std.proofs.Common.{arith}
use Rattle.std.proofs.lemmas.Grind.{common_steps}
use Rattle.iiod_commands.proofs.wanted.mask_wanted_by.Goals as goal

pub read-requires-clause-some : goal.read-requires-clause-some
read-requires-clause-some c = grind (arith, common_steps)
