use Rattle.std.proofs.Common.{ap, refl, ◌∙◌}
use Rattle.iiod_connection.specs.Place.{place_of}
use Rattle.iiod_connection.proofs.LinkLaws.{so_end, so_more, so_none}
use Rattle.iiod_connection.proofs.serve.talk.Goals as goal

pub loop-init : goal.loop-init
loop-init g c = record {
  manner = c.requires.manner;
  kept = refl;
  client = c.requires.client;
  look = tt;
  settled = c.requires.settled;
  faults = refl;
  so_far =
      so_none (g.B.Iio.front (g.B.Iio.kept c.args.iio.now)) (place_of g.B.Iio.seen (g.B.Iio.told c.args.iio.now) c.args.session.now)
      (g.L.Link.left c.args.link.now) (g.L.Link.written c.args.link.now);
}

pub returns-in-Err-clause-served : goal.returns-in-Err-clause-served
returns-in-Err-clause-served g c =
    let inv = c.loop.invariant in
    so_end (g.B.Iio.front (g.B.Iio.kept c.args.iio.now)) (g.B.Iio.front (g.B.Iio.kept c.loop.iio))
    (place_of g.B.Iio.seen (g.B.Iio.told c.args.iio.now) c.args.session.now) (place_of g.B.Iio.seen (g.B.Iio.told c.loop.iio) c.loop.session)
    (place_of g.B.Iio.seen (g.B.Iio.told c.turn.new.iio) c.turn.new.session) (g.L.Link.left c.args.link.now) (g.L.Link.written c.args.link.now)
    (g.L.Link.left c.loop.link) (g.L.Link.written c.loop.link) (g.L.Link.left c.recv.new.self) (g.L.Link.written c.recv.new.self)
    (g.L.Link.left c.turn.new.link) (g.L.Link.written c.turn.new.link) c.recv.new.out c.in-Ok.count c.in-Err.end (ap g.B.Iio.front inv.kept) inv.so_far
    c.in-Ok.ensures.next c.recv.ensures.written c.in-Err.ensures.turns

pub loop-preserved : goal.loop-preserved
loop-preserved g c =
    let inv = c.loop.invariant in
    record {
      manner = c.turn.ensures.manner;
      kept = c.turn.ensures.kept ∙ inv.kept;
      client = c.turn.ensures.client;
      look = c.turn.ensures.look;
      settled = c.in_default-turn.ensures.turns.1;
      faults = c.in_default-turn.ensures.faults ∙ c.in-Ok.ensures.steady ∙ inv.faults;
      so_far =
          so_more (g.B.Iio.front (g.B.Iio.kept c.args.iio.now)) (g.B.Iio.front (g.B.Iio.kept c.loop.iio))
          (place_of g.B.Iio.seen (g.B.Iio.told c.args.iio.now) c.args.session.now) (place_of g.B.Iio.seen (g.B.Iio.told c.loop.iio) c.loop.session)
          (place_of g.B.Iio.seen (g.B.Iio.told c.turn.new.iio) c.turn.new.session) (g.L.Link.left c.args.link.now) (g.L.Link.written c.args.link.now)
          (g.L.Link.left c.loop.link) (g.L.Link.written c.loop.link) (g.L.Link.left c.recv.new.self) (g.L.Link.written c.recv.new.self)
          (g.L.Link.left c.turn.new.link) (g.L.Link.written c.turn.new.link) c.recv.new.out c.in-Ok.count c.in_default-turn.field-0 (ap g.B.Iio.front inv.kept)
          inv.so_far c.in-Ok.ensures.next c.recv.ensures.written c.in_default-turn.ensures.turns c.turn.ensures.left;
    }
