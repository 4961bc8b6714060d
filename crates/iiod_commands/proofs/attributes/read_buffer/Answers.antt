use Rattle.std.proofs.Common.{ap, rules, List}
use Rattle.std.proofs.lemmas.List.Elements.{All-set}
use Rattle.iiod_commands.specs.Client.{SeatState, IsHeld, seat_state_of, client_of, trace_of, with_seats}
use Rattle.iiod_commands.proofs.AttributeLaws.{counted, held_under}
use Rattle.iiod_commands.proofs.SeatsLaws.{apart_set, map_set_same}
use Rattle.iiod_commands.proofs.attributes.read_buffer.Goals as goal

pub returns-clause-client : goal.returns-clause-client
returns-clause-client g c = record {
  seats = rw c.buffer_number.ensures.kept
      (All-set (IsHeld g.I.Iio.seen (g.I.Iio.front (g.I.Iio.kept c.args.iio.now))) c.args.client.now.held.items c.in-Some.i c.buffer_number.new.h
      (rw c.buffer_number.ensures.kept at c.buffer_number.ensures.held) c.requires.client.seats);
  apart =
      apart_set g.I.Iio.seen c.args.client.now.held.items c.in-Some.i c.buffer_number.new.h c.index_mut.result.now (search rules) c.index_mut.ensures.value
      c.buffer_number.ensures.bare c.requires.client.apart;
  holdings = rw c.buffer_number.ensures.kept c.requires.client.holdings;
}

pub returns-clause-same : goal.returns-clause-same
returns-clause-same g c =
    ap (λ (bs : List SeatState). with_seats bs (client_of g.I.Iio.seen c.args.client.now))
    (map_set_same g.I.Iio.seen (seat_state_of g.I.Iio.seen) c.args.client.now.held.items c.in-Some.i c.buffer_number.new.h c.index_mut.result.now (search rules)
    c.index_mut.ensures.value c.buffer_number.ensures.bare)

pub returns-clause-traces : goal.returns-clause-traces
returns-clause-traces g c =
    map_set_same g.I.Iio.seen (trace_of g.I.Iio.seen) c.args.client.now.held.items c.in-Some.i c.buffer_number.new.h c.index_mut.result.now (search rules)
    c.index_mut.ensures.value c.buffer_number.ensures.trace

pub returns-clause-told : goal.returns-clause-told
returns-clause-told g c =
    let at = c.place.ensures.place g.I.Iio.seen in
    counted g.I.Iio.seen _ _ (client_of g.I.Iio.seen c.args.client.now) c.args.dev c.in-Some.i _ c.args.attribute c.args.client.now.held.items
    c.index_mut.result.now
    (search (rules, at)) (search rules) c.index_mut.ensures.value
    (held_under g.I.Iio.seen _ c.args.client.now.held.items c.in-Some.i c.index_mut.result.now (search rules) c.index_mut.ensures.value c.requires.client.seats)
    c.buffer_number.ensures.value c.buffer_number.ensures.told
