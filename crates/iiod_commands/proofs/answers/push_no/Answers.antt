use Rattle.std.proofs.Common.{arith}
use Rattle.iiod_commands.proofs.ShortLaws.{short_memory}
use Rattle.iiod_commands.proofs.answers.push_no.Goals as goal

pub returns-in-Server-clause-answers : goal.returns-in-Server-clause-answers
returns-in-Server-clause-answers c server space = c.number.ensures.room (omega (arith, space, short_memory))
