use Rattle.std.proofs.Common.{rules, ◌≡◌, ◌<◌, ◌^◌, true, subst}
use Rattle.std.proofs.lemmas.Nat.{or_lt}
use Rattle.iio_layout.specs.Shape.{count_of}
use Rattle.iio_mask.specs.Mask.{is_within, union_of, union_of_all}
use Rattle.iio_device.specs.Members.{masks_of}
use Rattle.iio_device.proofs.MaskLemmas.{some_more, union_below, within_trans}
use Rattle.iio_device.proofs.SoundLemmas.{members_below}
use Rattle.iio_device.proofs.WantedLemmas.{active_within}
use Rattle.iio_device.proofs.roster.Roster.active_with.Goals as goal

pub returns-then-is_some-clause-contains : goal.returns-then-is_some-clause-contains
returns-then-is_some-clause-contains g c =
    let tail = g.Q.Tail in
    let roster = c.args.self.now in
    let same : union_of c.args.mask.bits (union_of_all (masks_of roster.members.items)) ≡ union_of_all (masks_of roster.members.items) = search rules in
    active_within tail roster.shape roster.active roster.captures roster.next c.args.mask.bits roster.members.items
    roster.groups.items roster.sound same

pub returns-clause-contains : goal.returns-clause-contains
returns-clause-contains g c =
    let roster = c.args.self.now in
    let second : is_within (union_of_all (masks_of roster.members.items)) c.union-wanted.result.bits ≡ true =
    subst (λ u. is_within u c.union-wanted.result.bits ≡ true) roster.united c.union-wanted.ensures.second in
    some_more _ (λ m. (is_within c.args.mask.bits m.bits ≡ true) × (is_within (union_of_all (masks_of roster.members.items)) m.bits ≡ true)) c.active.result
    c.active.ensures.contains
    (λ m h. (within_trans _ c.union-wanted.result.bits _ c.union-wanted.ensures.first h, within_trans _ c.union-wanted.result.bits _ second h))

pub returns-clause-below : goal.returns-clause-below
returns-clause-below g c =
    let tail = g.Q.Tail in
    let roster = c.args.self.now in
    let low =
    union_below (count_of roster.shape) roster.members.items
    (members_below tail roster.shape roster.captures roster.next roster.members.items roster.sound.each) in
    let both : c.union-wanted.result.bits < 2 ^ count_of roster.shape =
    rw (c.union-wanted.ensures.value, roster.united)
    (or_lt (count_of roster.shape) c.args.mask.bits (union_of_all (masks_of roster.members.items)) c.requires low) in
    c.active.ensures.below both
