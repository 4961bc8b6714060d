use Rattle.std.proofs.Common.{rules, ◌≡◌, ◌+◌, ◌<◌, length, arith}
use Rattle.iio_device.specs.declared.membership.Membership.{Membership}
use Rattle.iio_device.specs.Groups.{scan_for}
use Rattle.iio_device.specs.Members.{WasOffered}
use Rattle.iio_device.proofs.MoveLemmas.{moved_more, moved_all, moved_next}
use Rattle.iio_device.proofs.members.offer_all.Goals as goal

pub offer_one-requires-clause-sized : goal.offer_one-requires-clause-sized
offer_one-requires-clause-sized g c =
    let tail = g.Q.Tail in
    moved_next (λ a b. WasOffered tail
    (scan_for c.args.active.bits c.args.union.now c.args.groups.now a.mask.bits) a b)
    (λ (m : Membership g.row.Q.Denot). length (scan_for c.args.active.bits c.args.union.now c.args.groups.now m.mask.bits) ≡ tail.size m.tail) _ _ _ _
    c.requires.sized c.loop-i.invariant.moved (search rules) c.index_mut.ensures.value

pub offer_one-requires-clause-fewer : goal.offer_one-requires-clause-fewer
offer_one-requires-clause-fewer g c =
    let tail = g.Q.Tail in
    moved_next (λ a b. WasOffered tail
    (scan_for c.args.active.bits c.args.union.now c.args.groups.now a.mask.bits) a b)
    (λ (m : Membership g.row.Q.Denot). tail.taken m.tail + tail.lost m.tail < 18446744073709551615) _ _ _ _
    c.requires.fewer c.loop-i.invariant.moved (search rules) c.index_mut.ensures.value

pub loop-i-preserved : goal.loop-i-preserved
loop-i-preserved g c =
    let tail = g.Q.Tail in
    record {
      moved =
          moved_more (λ a b. WasOffered tail
          (scan_for c.args.active.bits c.args.union.now c.args.groups.now a.mask.bits) a b) _ _ _ c.index_mut.result.now _ _
          c.loop-i.invariant.moved (search rules) c.index_mut.ensures.value c.offer_one.ensures;
      all = c.loop-i.invariant.all;
      within = search rules;
      placed = search rules;
    }

pub returns-clause-offered : goal.returns-clause-offered
returns-clause-offered g c =
    let tail = g.Q.Tail in
    moved_all (λ a b. WasOffered tail
    (scan_for c.args.active.bits c.args.union.now c.args.groups.now a.mask.bits) a b) _ _ _
    c.loop-i.invariant.moved (omega (arith, c.loop-i.invariant.all))
