use Rattle.std.proofs.Common.{ℕ, ◌∙◌, List, ap, rules}
use Rattle.std.proofs.lemmas.List.Elements.{All-set}
use Rattle.iio_text.specs.declared.errors.Errno.TheVariants.{EBADF}
use Rattle.iiod_reply.specs.Reply.{Refusal}
use Rattle.iio_desc.specs.Kind.{is_output}
use Rattle.iio_core.specs.Front.{kind_at}
use Rattle.iiod_commands.specs.Client.{SeatState, IsHeld, seat_state_of, client_of, with_seats}
use Rattle.iiod_commands.proofs.SeatsLaws.{apart_set, dev_is, map_set_same, read_nowhere, reads_at}
use Rattle.iiod_commands.proofs.seats.read_at.Goals as goal

pub returns-in_ok-push_refusal-in-None-clause-read : goal.returns-in_ok-push_refusal-in-None-clause-read
returns-in_ok-push_refusal-in-None-clause-read g c = (Refusal EBADF, search rules, tt, read_nowhere _ _ _ _ (search rules))

pub returns-in-Some-clause-client : goal.returns-in-Some-clause-client
returns-in-Some-clause-client g c = record {
  seats = rw c.read_held.ensures.kept
      (All-set (IsHeld g.I.Iio.seen (g.I.Iio.front (g.I.Iio.kept c.args.iio.now))) c.args.client.now.held.items c.in-Some.i c.read_held.new.h
      (rw c.read_held.ensures.kept at c.read_held.ensures.held) c.requires.client.seats);
  apart =
      apart_set g.I.Iio.seen c.args.client.now.held.items c.in-Some.i c.read_held.new.h c.index_mut.result.now (search rules) c.index_mut.ensures.value
      c.read_held.ensures.bare c.requires.client.apart;
  holdings = rw c.read_held.ensures.kept c.requires.client.holdings;
}

pub returns-in-Some-clause-same : goal.returns-in-Some-clause-same
returns-in-Some-clause-same g c =
    ap (λ (bs : List SeatState). with_seats bs (client_of g.I.Iio.seen c.args.client.now))
    (map_set_same g.I.Iio.seen (seat_state_of g.I.Iio.seen) c.args.client.now.held.items c.in-Some.i c.read_held.new.h c.index_mut.result.now (search rules)
    c.index_mut.ensures.value c.read_held.ensures.bare)

pub returns-in-Some-clause-read : goal.returns-in-Some-clause-read
returns-in-Some-clause-read g c =
    reads_at g.I.Iio.seen _ c.args.dev _ c.in-Some.i _ _ (client_of g.I.Iio.seen c.args.client.now) _ c.args.client.now.held.items c.index_mut.result.now
    c.read_held.new.h _ _ _
    (search rules) (search rules) c.index_mut.ensures.value c.read_held.ensures.read

pub read_held-requires-clause-read : goal.read_held-requires-clause-read
read_held-requires-clause-read g c =
    ap (λ (d : ℕ). is_output (kind_at (g.I.Iio.front (g.I.Iio.kept c.args.iio.now)) d))
    (dev_is g.I.Iio.seen c.args.dev c.in-Some.i c.args.client.now.held.items c.index_mut.result.now (search rules) (search rules) c.index_mut.ensures.value)
    ∙ c.requires.read
