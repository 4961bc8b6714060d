use Rattle.std.proofs.Common.{◌==◌, not, rules, sym, ◌∙◌}
use Rattle.std.proofs.lemmas.List.Elements.{All-filter}
use Rattle.iiod_reply.specs.Reply.{Refusal}
use Rattle.iiod_commands.specs.Acts.{ev_close_at, zero_reply}
use Rattle.iiod_commands.specs.Client.{IsHolding, client_of}
use Rattle.iiod_commands.proofs.EventLaws.{at_input, at_other, closed, closed_is}
use Rattle.iiod_commands.proofs.events.ev_close_known.Goals as goal

pub returns-then-not-is_input-clause-told : goal.returns-then-not-is_input-clause-told
returns-then-not-is_input-clause-told g c =
    let client = client_of g.I.Iio.seen c.args.client.now in
    at_other ev_close_at closed closed_is _ _ client c.args.dev (Refusal c.unknown_refusal.result)
    (sym c.is_input.ensures ∙ c.if-not-is_input.true) c.unknown_refusal.ensures.told

pub returns-in_err-ensure-clause-told : goal.returns-in_err-ensure-clause-told
returns-in_err-ensure-clause-told g c =
    let client = client_of g.I.Iio.seen c.args.client.now in
    at_input ev_close_at closed closed_is _ _ client c.args.dev _ _ _
    (sym c.is_input.ensures ∙ c.if-not-is_input.false) (search rules)

pub returns-in_err-ev_close-clause-told : goal.returns-in_err-ev_close-clause-told
returns-in_err-ev_close-clause-told g c =
    let client = client_of g.I.Iio.seen c.args.client.now in
    at_input ev_close_at closed closed_is _ _ client c.args.dev _ _ _
    (sym c.is_input.ensures ∙ c.if-not-is_input.false) (search rules)

pub returns-clause-told : goal.returns-clause-told
returns-clause-told g c =
    let client = client_of g.I.Iio.seen c.args.client.now in
    at_input ev_close_at closed closed_is _ _ client c.args.dev zero_reply _ _
    (sym c.is_input.ensures ∙ c.if-not-is_input.false) (search rules)

pub returns-clause-client : goal.returns-clause-client
returns-clause-client g c = record {
  seats = rw c.ev_close.ensures.kept c.requires.client.seats;
  apart = c.requires.client.apart;
  holdings = rw (c.ev_close.ensures.kept, c.forget_holding.ensures)
      (All-filter (λ d. not (d == c.args.dev)) (IsHolding (g.I.Iio.front (g.I.Iio.kept c.args.iio.now))) c.args.client.now.holdings.items
      c.requires.client.holdings);
}
