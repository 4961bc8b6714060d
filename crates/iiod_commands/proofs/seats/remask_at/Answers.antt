use Rattle.std.proofs.Common.{ℕ, ◌≡◌, ◌∙◌, true, ap, arith, rules}
use Rattle.std.proofs.lemmas.Grind.{common_steps}
use Rattle.std.proofs.lemmas.List.Elements.{All-set}
use Rattle.iio_desc.specs.Kind.{is_input}
use Rattle.iio_core.specs.Front.{kind_at}
use Rattle.iiod_commands.specs.Client.{IsHeld, client_of}
use Rattle.iiod_commands.proofs.SeatsLaws.{apart_under_mask, dev_is, remask_comes, remasks_by}
use Rattle.iiod_commands.proofs.seats.remask_at.Goals as goal

pub returns-clause-client : goal.returns-clause-client
returns-clause-client g c = record {
  seats = rw c.remask_held.ensures.kept
      (All-set (IsHeld g.I.Iio.seen (g.I.Iio.front (g.I.Iio.kept c.args.iio.now))) c.args.client.now.held.items c.in-Some.i c.remask_held.new.h
      (rw c.remask_held.ensures.kept at c.remask_held.ensures.held) c.requires.client.seats);
  apart =
      apart_under_mask g.I.Iio.seen c.args.client.now.held.items c.in-Some.i c.remask_held.new.h c.index_mut.result.now (search rules) c.index_mut.ensures.value
      c.remask_held.ensures.dev c.requires.client.apart;
  holdings = rw c.remask_held.ensures.kept c.requires.client.holdings;
}

pub returns-clause-told : goal.returns-clause-told
returns-clause-told g c =
    let at = c.place.ensures.place g.I.Iio.seen in
    let here : c.plugged.result ≡ true = grind (arith, common_steps) in
    remask_comes g.I.Iio.seen _ _ _ (client_of g.I.Iio.seen c.args.client.now) c.args.dev c.in-Some.i _ c.args.client.now.held.items c.index_mut.result.now
    c.remask_held.new.h c.remask_held.result
    (search (rules, at)) (search rules) c.index_mut.ensures.value (rw here at c.plugged.ensures) c.remask_held.ensures.moves
    c.remask_held.ensures.told

pub returns-clause-moves : goal.returns-clause-moves
returns-clause-moves g c =
    let at = c.place.ensures.place g.I.Iio.seen in
    remasks_by g.I.Iio.seen _ _ _ (client_of g.I.Iio.seen c.args.client.now) c.args.dev c.in-Some.i _ c.args.client.now.held.items c.index_mut.result.now
    c.remask_held.new.h c.remask_held.result
    (search (rules, at)) (search rules) c.index_mut.ensures.value c.remask_held.ensures.moves

pub remask_held-requires-clause-input : goal.remask_held-requires-clause-input
remask_held-requires-clause-input g c =
    ap (λ (d : ℕ). is_input (kind_at (g.I.Iio.front (g.I.Iio.kept c.args.iio.now)) d))
    (dev_is g.I.Iio.seen c.args.dev c.in-Some.i c.args.client.now.held.items c.index_mut.result.now (search rules) (search rules) c.index_mut.ensures.value)
    ∙ c.requires.input
