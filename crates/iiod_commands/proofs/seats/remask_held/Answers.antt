use Rattle.std.proofs.Common.{arith}
use Rattle.std.proofs.lemmas.Grind.{common_steps, elements}
use Rattle.iiod_commands.proofs.seats.remask_held.Goals as goal

pub remask-requires-clause-may_open : goal.remask-requires-clause-may_open
remask-requires-clause-may_open g c = grind (arith, common_steps)

pub returns-in-Ok-remask-clause-held : goal.returns-in-Ok-remask-clause-held
returns-in-Ok-remask-clause-held g c = grind (arith, common_steps)

pub returns-in-Ok-remask-clause-told : goal.returns-in-Ok-remask-clause-told
returns-in-Ok-remask-clause-told g c = grind (arith, elements)
