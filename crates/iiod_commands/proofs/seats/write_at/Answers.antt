use Rattle.std.proofs.Common.{ℕ, ◌∙◌, List, ap, rules, arith}
use Rattle.std.proofs.lemmas.Grind.{elements}
use Rattle.std.proofs.lemmas.List.Elements.{All-set}
use Rattle.iio_desc.specs.Kind.{is_output}
use Rattle.iio_core.specs.Front.{kind_at}
use Rattle.iiod_commands.specs.Client.{SeatState, IsHeld, seat_state_of, client_of, trace_of, with_seats}
use Rattle.iiod_commands.proofs.SeatsLaws.{apart_set, dev_is, map_set_same, writes_at}
use Rattle.iiod_commands.proofs.seats.write_at.Goals as goal

pub returns-clause-client : goal.returns-clause-client
returns-clause-client g c = record {
  seats = rw c.write_held.ensures.kept
      (All-set (IsHeld g.I.Iio.seen (g.I.Iio.front (g.I.Iio.kept c.args.iio.now))) c.args.client.now.held.items c.in-Some.i c.write_held.new.h
      (rw c.write_held.ensures.kept at c.write_held.ensures.held) c.requires.client.seats);
  apart =
      apart_set g.I.Iio.seen c.args.client.now.held.items c.in-Some.i c.write_held.new.h c.index_mut.result.now (search rules) c.index_mut.ensures.value
      c.write_held.ensures.bare c.requires.client.apart;
  holdings = rw c.write_held.ensures.kept c.requires.client.holdings;
}

pub returns-clause-same : goal.returns-clause-same
returns-clause-same g c =
    ap (λ (bs : List SeatState). with_seats bs (client_of g.I.Iio.seen c.args.client.now))
    (map_set_same g.I.Iio.seen (seat_state_of g.I.Iio.seen) c.args.client.now.held.items c.in-Some.i c.write_held.new.h c.index_mut.result.now (search rules)
    c.index_mut.ensures.value c.write_held.ensures.bare)

pub returns-clause-traces : goal.returns-clause-traces
returns-clause-traces g c =
    map_set_same g.I.Iio.seen (trace_of g.I.Iio.seen) c.args.client.now.held.items c.in-Some.i c.write_held.new.h c.index_mut.result.now (search rules)
    c.index_mut.ensures.value c.write_held.ensures.trace

pub returns-clause-told : goal.returns-clause-told
returns-clause-told g c =
    writes_at g.I.Iio.seen _ _ _ (client_of g.I.Iio.seen c.args.client.now) c.args.dev c.in-Some.i c.args.payload.now c.args.client.now.held.items
    c.index_mut.result.now _
    (search rules) (search rules) c.index_mut.ensures.value c.write_held.ensures.told

pub write_held-requires-clause-written : goal.write_held-requires-clause-written
write_held-requires-clause-written g c =
    ap (λ (d : ℕ). is_output (kind_at (g.I.Iio.front (g.I.Iio.kept c.args.iio.now)) d))
    (dev_is g.I.Iio.seen c.args.dev c.in-Some.i c.args.client.now.held.items c.index_mut.result.now (search rules) (search rules) c.index_mut.ensures.value)
    ∙ c.requires.written

pub write_held-requires-clause-held : goal.write_held-requires-clause-held
write_held-requires-clause-held g c = grind (arith, elements)
