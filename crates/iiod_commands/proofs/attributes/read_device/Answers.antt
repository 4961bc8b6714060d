use Rattle.std.proofs.Common.{◌<◌, ◌^◌, rules}
use Rattle.iiod_commands.specs.Targets.{named_of_code}
use Rattle.iiod_commands.proofs.AttributeLaws.{said_short, short_fixed}
use Rattle.iiod_commands.proofs.attributes.read_device.Goals as goal

pub returns-in-Err-clause-told : goal.returns-in-Err-clause-told
returns-in-Err-clause-told g c = λ client.
    said_short _ _ _ client _ (named_of_code c.args.target) c.in-Number.v (rw c.in-Number.is at c.in_ok-n.ensures.told)

pub returns-in-Ok-clause-text : goal.returns-in-Ok-clause-text
returns-in-Ok-clause-text g c =
    let small : c.in-Number.v.whole < 2 ^ 32 = search rules in
    rw c.in-Ok.ensures.text (short_fixed c.in-Number.v small)
