use Rattle.std.proofs.lemmas.List.Elements.{All-push}
use Rattle.iiod_commands.specs.Client.{IsHeld}
use Rattle.iiod_commands.proofs.SeatsLaws.{apart_joined}
use Rattle.iiod_commands.proofs.seats.join.Goals as goal

pub returns-clause-client : goal.returns-clause-client
returns-clause-client g c = record {
  seats = rw (c.push_reserved.ensures.items, c.reserve.ensures.items, c.in_ok-seat.ensures.kept)
      (All-push (IsHeld g.I.Iio.seen (g.I.Iio.front (g.I.Iio.kept c.args.iio.now))) c.args.client.now.held.items _ c.requires.client.seats
      (record {
        opened = c.requires.may_open;
        sized = c.requires.size;
        some = c.requires.some;
        owned = c.in_ok-seat.ensures.seat.owned;
      }));
  apart =
      apart_joined g.I.Iio.seen c.args.client.now.held.items _ _ _ c.requires.client.apart c.requires.free c.reserve.ensures.items
      c.push_reserved.ensures.items;
  holdings = rw c.in_ok-seat.ensures.kept c.requires.client.holdings;
}
