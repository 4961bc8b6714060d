use Rattle.std.proofs.Common.{sym, ◌∙◌}
use Rattle.iiod_reply.specs.Reply.{Refusal}
use Rattle.iiod_commands.specs.Acts.{remask_at}
use Rattle.iiod_commands.specs.Client.{client_of}
use Rattle.iiod_commands.proofs.ServeLaws.{known, not_known}
use Rattle.iiod_commands.proofs.buffers.remask_known.Goals as goal

pub returns-then-not-is_input-clause-told : goal.returns-then-not-is_input-clause-told
returns-then-not-is_input-clause-told g c =
    let front = g.I.Iio.front (g.I.Iio.kept c.args.iio.now) in
    let client = client_of g.I.Iio.seen c.args.client.now in
    not_known _ _ client c.args.dev (λ m. remask_at front m client c.args.text.now c.args.dev) (Refusal c.unknown_refusal.result)
    (sym c.is_input.ensures ∙ c.if-not-is_input.true) c.unknown_refusal.ensures.told

pub returns-clause-told : goal.returns-clause-told
returns-clause-told g c =
    let front = g.I.Iio.front (g.I.Iio.kept c.args.iio.now) in
    let client = client_of g.I.Iio.seen c.args.client.now in
    known _ _ _ client _ c.args.dev (λ m. remask_at front m client c.args.text.now c.args.dev) _ (sym c.is_input.ensures ∙ c.if-not-is_input.false)
    c.remask_at.ensures.told
