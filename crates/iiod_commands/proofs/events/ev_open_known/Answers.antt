use Rattle.std.proofs.Common.{rules, sym, ◌∙◌}
use Rattle.iiod_reply.specs.Reply.{Refusal}
use Rattle.iiod_commands.specs.Acts.{ev_open_at, zero_reply}
use Rattle.iiod_commands.specs.Client.{client_of}
use Rattle.iiod_commands.proofs.EventLaws.{at_input, at_other, opened, opened_is}
use Rattle.iiod_commands.proofs.events.ev_open_known.Goals as goal

pub returns-then-not-is_input-clause-told : goal.returns-then-not-is_input-clause-told
returns-then-not-is_input-clause-told g c =
    let client = client_of g.I.Iio.seen c.args.client.now in
    at_other ev_open_at opened opened_is _ _ client c.args.dev (Refusal c.unknown_refusal.result)
    (sym c.is_input.ensures ∙ c.if-not-is_input.true) c.unknown_refusal.ensures.told

pub returns-in_err-reserve-clause-told : goal.returns-in_err-reserve-clause-told
returns-in_err-reserve-clause-told g c =
    let client = client_of g.I.Iio.seen c.args.client.now in
    at_input ev_open_at opened opened_is _ _ client c.args.dev _ _ _
    (sym c.is_input.ensures ∙ c.if-not-is_input.false) (search rules)

pub returns-in_err-ev_open-clause-told : goal.returns-in_err-ev_open-clause-told
returns-in_err-ev_open-clause-told g c =
    let client = client_of g.I.Iio.seen c.args.client.now in
    at_input ev_open_at opened opened_is _ _ client c.args.dev _ _ _
    (sym c.is_input.ensures ∙ c.if-not-is_input.false) (search rules)

pub returns-clause-told : goal.returns-clause-told
returns-clause-told g c =
    let client = client_of g.I.Iio.seen c.args.client.now in
    at_input ev_open_at opened opened_is _ _ client c.args.dev zero_reply _ _
    (sym c.is_input.ensures ∙ c.if-not-is_input.false) (search rules)
