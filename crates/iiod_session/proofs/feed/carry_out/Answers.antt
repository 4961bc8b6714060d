use Rattle.std.proofs.Common.{◌≡◌, [], ap, arith, drop, length, sym}
use Rattle.std.proofs.lemmas.Grind.{common_steps}
use Rattle.iiod_grammar.specs.Lines.{LinesRecord}
use Rattle.iiod_grammar.specs.Scans.{scan_on}
use Rattle.iiod_session.specs.Session.{stream_by}
use Rattle.iiod_session.specs.Watch.{is_waiting, scene_of}
use Rattle.iiod_session.specs.declared.going.Going.TheVariants.{On}
use Rattle.iiod_session.proofs.FeedLaws.{feeds_more}
use Rattle.iiod_session.proofs.HearLaws.{again_feeds, ended_feeds, none_begun, resumed}
use Rattle.iiod_session.proofs.feed.carry_out.Goals as goal

pub returns-in-Ended-clause-hears : goal.returns-in-Ended-clause-hears
returns-in-Ended-clause-hears g c = rw c.in-Ended.is (ended_feeds _ _ _ _ c.args.bytes.now c.args.bytes.now)

pub returns-then-is_empty-clause-hears : goal.returns-then-is_empty-clause-hears
returns-then-is_empty-clause-hears g c =
    let kept = rw c.in-Waits.is at c.requires.ready in
    let none : c.args.bytes.now ≡ [] = grind (arith, common_steps) in
    rw c.in-Waits.is (again_feeds _ _ _ _ _ _ _ _ c.args.bytes.now On none
    (rw c.in-On-2.is at (c.in_ok-going-in-Waits.ensures.hears c.args.lines.now kept.0 kept.1)))

pub returns-then-is_empty-clause-ready : goal.returns-then-is_empty-clause-ready
returns-then-is_empty-clause-ready g c = let kept = rw c.in-Waits.is at c.requires.ready in ap (λ (z : LinesRecord). z.overlong) kept.0

pub returns-then-is_empty-clause-all : goal.returns-then-is_empty-clause-all
returns-then-is_empty-clause-all g c on =
    let kept = rw c.in-Waits.is at c.requires.ready in
    let none : c.args.bytes.now ≡ [] = grind (arith, common_steps) in
    (ap length (sym none), none_begun c.args.lines.now c.args.pending.now kept.0)

pub returns-else-is_empty-clause-hears : goal.returns-else-is_empty-clause-hears
returns-else-is_empty-clause-hears g c =
    let kept = rw c.in-Waits.is at c.requires.ready in
    rw c.in-Waits.is
    (resumed _ _ _ _ (λ r. scene_of g.I.Iio.seen (g.I.Iio.told c.carry_on-in-On-2.new.iio) c.carry_on-in-On-2.new.client c.carry_on-in-On-2.new.watch
    (is_waiting r.1)) _ _ _ _ _ c.args.bytes.now
    (λ r. scan_on (stream_by r.1 c.carry_on-in-On-2.new.lines c.carry_on-in-On-2.new.pending) (drop r.0 c.args.bytes.now)) _
    (rw c.in-On-2.is at (c.in_ok-going-in-Waits.ensures.hears c.args.lines.now kept.0 kept.1))
    (rw c.hear_again.ensures.kept at c.carry_on-in-On-2.ensures.hears))

pub returns-in_default-clause-hears : goal.returns-in_default-clause-hears
returns-in_default-clause-hears g c =
    let kept = rw c.in-Waits.is at c.requires.ready in
    rw c.in-Waits.is (feeds_more _ _ _ _ c.args.bytes.now c.in_ok-going-in-Waits.going c.in_default.not-On
    (c.in_ok-going-in-Waits.ensures.hears c.args.lines.now kept.0 kept.1))
