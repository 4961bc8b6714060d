use Rattle.std.proofs.Common.{Ok, Some, rules, sym, ◌∙◌}
use Rattle.iio_text.specs.declared.errors.Errno.TheVariants.{EAGAIN}
use Rattle.iiod_reply.specs.Reply.{Refusal}
use Rattle.iiod_commands.specs.Acts.{ev_read_at, event_reply}
use Rattle.iiod_commands.specs.Client.{client_of}
use Rattle.iiod_commands.proofs.EventLaws.{at_input, at_other, read, read_is}
use Rattle.iiod_commands.proofs.events.ev_read_known.Goals as goal

pub returns-then-not-is_input-clause-told : goal.returns-then-not-is_input-clause-told
returns-then-not-is_input-clause-told g c =
    let client = client_of g.I.Iio.seen c.args.client.now in
    at_other ev_read_at read read_is _ _ client c.args.dev (Refusal c.unknown_refusal.result)
    (sym c.is_input.ensures ∙ c.if-not-is_input.true) c.unknown_refusal.ensures.told

pub returns-in_err-event-clause-told : goal.returns-in_err-event-clause-told
returns-in_err-event-clause-told g c =
    let client = client_of g.I.Iio.seen c.args.client.now in
    at_input ev_read_at read read_is _ _ client c.args.dev _ _ _
    (sym c.is_input.ensures ∙ c.if-not-is_input.false) (search rules)

pub returns-in-Some-clause-told : goal.returns-in-Some-clause-told
returns-in-Some-clause-told g c =
    let client = client_of g.I.Iio.seen c.args.client.now in
    at_input ev_read_at read read_is _ _ client c.args.dev (event_reply (Ok (Some c.in-Some.event))) _ _
    (sym c.is_input.ensures ∙ c.if-not-is_input.false) (search rules)

pub returns-in-None-clause-told : goal.returns-in-None-clause-told
returns-in-None-clause-told g c =
    let client = client_of g.I.Iio.seen c.args.client.now in
    at_input ev_read_at read read_is _ _ client c.args.dev (Refusal EAGAIN) _ _
    (sym c.is_input.ensures ∙ c.if-not-is_input.false) (search rules)
