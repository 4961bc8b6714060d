use Rattle.std.proofs.Common.{rules, arith, ◌≡◌, ◌<◌, ◌∙◌, [], length, subst, refl, Ok, Err}
use Rattle.std.proofs.lemmas.Grind.{common_steps}
use Rattle.iiod_session.specs.declared.going.Going.{Going}
use Rattle.iiod_connection.specs.Place.{place_of}
use Rattle.iiod_connection.specs.Talks.{SendsOnce, StandsBy}
use Rattle.iiod_connection.proofs.TalkLaws.{once_err, sends_on, sends_once, turns_cut}
use Rattle.iiod_connection.proofs.serve.settle.Goals as goal

pub returns-in-On-clause-turns : goal.returns-in-On-clause-turns
returns-in-On-clause-turns g c =
    let inv = c.loop.invariant in (
      inv.sends,
      subst (λ (w : Going). StandsBy (g.B.Iio.front (g.B.Iio.kept c.args.iio.now)) w (place_of g.B.Iio.seen (g.B.Iio.told c.loop.iio) c.loop.session))
          c.in-On.is inv.stands,
    )

pub returns-in-Ended-clause-turns : goal.returns-in-Ended-clause-turns
returns-in-Ended-clause-turns g c =
    let inv = c.loop.invariant in (
      [],
      [],
      refl,
      inv.sends,
      subst
          (λ (w : Going). StandsBy (g.B.Iio.front (g.B.Iio.kept c.args.iio.now)) w (place_of g.B.Iio.seen (g.B.Iio.told c.loop.iio) c.loop.session))
          c.in-Ended.is
          inv.stands,
    )

pub returns-in_err-going-clause-turns : goal.returns-in_err-going-clause-turns
returns-in_err-going-clause-turns g c =
    let inv = c.loop.invariant in
    let front = g.B.Iio.front (g.B.Iio.kept c.args.iio.now) in
    let a = place_of g.B.Iio.seen (g.B.Iio.told c.args.iio.now) c.args.session.now in
    let m = place_of g.B.Iio.seen (g.B.Iio.told c.loop.iio) c.loop.session in
    let b = place_of g.B.Iio.seen (g.B.Iio.told c.try_again.new.iio) c.try_again.new.session in
    let mid = g.L.Link.written c.loop.link in
    let new = g.L.Link.written c.try_again.new.link in
    let e = c.in_err-going.field-0.0 in
    let is : c.from_residual.result ≡ Err e = search rules in
    let s = subst (λ k. SendsOnce (g.B.Iio.front k) m [] mid b new (Err e)) inv.kept c.in_err-going.ensures.sends in
    rw is (turns_cut front a m b [] [] [] [] (g.L.Link.written c.args.link.now) mid new e refl inv.sends (once_err front m b [] mid new e s))

pub try_again-requires-clause-there : goal.try_again-requires-clause-there
try_again-requires-clause-there g c =
    let inv = c.loop.invariant in
    let front = g.B.Iio.front (g.B.Iio.kept c.args.iio.now) in
    let m = place_of g.B.Iio.seen (g.B.Iio.told c.loop.iio) c.loop.session in
    rw inv.kept (subst (λ (w : Going). StandsBy front w m) c.in-Waits.is inv.stands)

pub loop-preserved : goal.loop-preserved
loop-preserved g c =
    let inv = c.loop.invariant in
    let front = g.B.Iio.front (g.B.Iio.kept c.args.iio.now) in
    let a = place_of g.B.Iio.seen (g.B.Iio.told c.args.iio.now) c.args.session.now in
    let m = place_of g.B.Iio.seen (g.B.Iio.told c.loop.iio) c.loop.session in
    let b = place_of g.B.Iio.seen (g.B.Iio.told c.try_again.new.iio) c.try_again.new.session in
    let mid = g.L.Link.written c.loop.link in
    let new = g.L.Link.written c.try_again.new.link in
    let s = subst (λ k. SendsOnce (g.B.Iio.front k) m [] mid b new (Ok c.in_ok-going.going)) inv.kept c.in_ok-going.ensures.sends in
    record {
      manner = c.try_again.ensures.manner;
      kept = c.try_again.ensures.kept ∙ inv.kept;
      client = c.try_again.ensures.client;
      look = c.try_again.ensures.look;
      left = c.try_again.ensures.left ∙ inv.left;
      faults = c.in_ok-going.ensures.faults ∙ inv.faults;
      sends = sends_on front a m b [] [] (g.L.Link.written c.args.link.now) mid new inv.sends (sends_once front m b [] mid new c.in_ok-going.going s);
      stands = s.3;
    }

pub loop-init : goal.loop-init
loop-init g c = grind (arith, common_steps) steps 4000000
