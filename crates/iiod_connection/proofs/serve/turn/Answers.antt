use Rattle.std.proofs.Common.{rules, ◌≡◌, Err, ap, arith, ◌∙◌}
use Rattle.std.proofs.lemmas.Grind.{common_steps}
use Rattle.iiod_connection.specs.Place.{place_of}
use Rattle.iiod_connection.proofs.TalkLaws.{part_err, part_more}
use Rattle.iiod_connection.proofs.serve.turn.Goals as goal

pub returns-in_err-hear-clause-turns : goal.returns-in_err-hear-clause-turns
returns-in_err-hear-clause-turns g c =
    let inv = c.loop-done.invariant in
    let e = c.in_err-hear.field-0.0 in
    let is : c.from_residual.result ≡ Err e = search rules in
    rw is (part_err (g.B.Iio.front (g.B.Iio.kept c.args.iio.now)) (g.B.Iio.front (g.B.Iio.kept c.loop-done.iio))
    (place_of g.B.Iio.seen (g.B.Iio.told c.args.iio.now) c.args.session.now) (place_of g.B.Iio.seen (g.B.Iio.told c.loop-done.iio) c.loop-done.session)
    (place_of g.B.Iio.seen (g.B.Iio.told c.hear.new.iio) c.hear.new.session) c.args.bytes.now c.loop-done.done c.part_end-until.result
    (g.L.Link.written c.args.link.now) (g.L.Link.written c.loop-done.link) (g.L.Link.written c.hear.new.link) e
    (ap g.B.Iio.front inv.kept) (omega (arith, c.part_end-until.ensures.more)) inv.sends c.in_err-hear.ensures.turns)

pub loop-done-preserved : goal.loop-done-preserved
loop-done-preserved g c =
    let inv = c.loop-done.invariant in
    record {
      manner = c.hear.ensures.manner;
      kept = c.hear.ensures.kept ∙ inv.kept;
      client = c.hear.ensures.client;
      look = c.hear.ensures.look;
      settled = c.in_ok-hear.ensures.turns.1;
      left = c.hear.ensures.left ∙ inv.left;
      faults = c.in_ok-hear.ensures.faults ∙ inv.faults;
      within = c.part_end-until.ensures.within;
      sends =
          part_more (g.B.Iio.front (g.B.Iio.kept c.args.iio.now)) (g.B.Iio.front (g.B.Iio.kept c.loop-done.iio))
          (place_of g.B.Iio.seen (g.B.Iio.told c.args.iio.now) c.args.session.now) (place_of g.B.Iio.seen (g.B.Iio.told c.loop-done.iio) c.loop-done.session)
          (place_of g.B.Iio.seen (g.B.Iio.told c.hear.new.iio) c.hear.new.session) c.args.bytes.now c.loop-done.done c.part_end-until.result
          (g.L.Link.written c.args.link.now) (g.L.Link.written c.loop-done.link) (g.L.Link.written c.hear.new.link) c.in_ok-hear.field-0
          (ap g.B.Iio.front inv.kept) (omega (arith, c.part_end-until.ensures.more)) inv.sends c.in_ok-hear.ensures.turns;
    }

pub loop-done-init : goal.loop-done-init
loop-done-init g c = grind (arith, common_steps)

pub returns-clause-turns : goal.returns-clause-turns
returns-clause-turns g c = grind (arith, common_steps)
