use Rattle.std.proofs.Common.{arith, rules, vec_capacity}
use Rattle.iiod_reply.specs.Reply.{FitsInRoom, Refusal, text_of}
use Rattle.iiod_commands.proofs.ShortLaws.{short_refusal}
use Rattle.iiod_commands.proofs.answers.push_refusal.Goals as goal

pub returns-clause-room : goal.returns-clause-room
returns-clause-room c space =
    let fits : FitsInRoom (text_of (Refusal c.args.errno)) c.args.out.now.items (vec_capacity c.args.out.now) c.number-2.result = search rules in
    fits (omega (arith, space, short_refusal c.args.errno))
