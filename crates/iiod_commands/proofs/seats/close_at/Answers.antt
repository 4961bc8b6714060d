use Rattle.std.proofs.Common.{rules, ◌+◌}
use Rattle.std.proofs.lemmas.List.Elements.{All-append, All-drop, All-take}
use Rattle.iiod_commands.specs.Client.{IsHeld, client_of}
use Rattle.iiod_commands.proofs.SeatsLaws.{apart_removed, closes, leaves}
use Rattle.iiod_commands.proofs.seats.close_at.Goals as goal

pub returns-clause-client : goal.returns-clause-client
returns-clause-client g c =
    let held = c.args.client.now.held.items in
    let is = IsHeld g.I.Iio.seen (g.I.Iio.front (g.I.Iio.kept c.args.iio.now)) in
    record {
      seats = rw (c.remove.ensures.by_index.2, c.close.ensures.kept)
          (All-append is _ _ (All-take is c.in-Some.i held c.requires.client.seats) (All-drop is (c.in-Some.i + 1) held c.requires.client.seats));
      apart = apart_removed g.I.Iio.seen held _ c.in-Some.i c.requires.client.apart c.remove.ensures.items;
      holdings = rw c.close.ensures.kept c.requires.client.holdings;
    }

pub returns-clause-told : goal.returns-clause-told
returns-clause-told g c =
    let at = c.place.ensures.place g.I.Iio.seen in
    closes g.I.Iio.seen _ _ _ (client_of g.I.Iio.seen c.args.client.now) c.args.dev c.in-Some.i c.args.client.now.held.items _ c.remove.result
    (search (rules, at)) (search rules)
    c.remove.ensures.value c.remove.ensures.items (rw (c.into_seat-at.ensures.dev, c.into_seat-at.ensures.seat) at c.close.ensures.told)

pub returns-clause-moves : goal.returns-clause-moves
returns-clause-moves g c =
    let at = c.place.ensures.place g.I.Iio.seen in
    leaves g.I.Iio.seen _ _ (client_of g.I.Iio.seen c.args.client.now) c.args.dev c.in-Some.i c.args.client.now.held.items _ (search (rules, at))
    c.remove.ensures.items
