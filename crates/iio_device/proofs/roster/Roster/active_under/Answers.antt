use Rattle.std.proofs.Common.{rules, ◌==◌, ◌^◌, ◌<◌, ◌≡◌, not, true}
use Rattle.std.proofs.lemmas.List.Elements.{All-filter}
use Rattle.std.proofs.lemmas.Nat.{or_lt}
use Rattle.iio_layout.specs.Shape.{count_of}
use Rattle.iio_mask.specs.Mask.{is_within, union_of_all}
use Rattle.iio_device.specs.declared.membership.Membership.{Membership}
use Rattle.iio_device.specs.Members.{masks_of, without}
use Rattle.iio_device.proofs.MaskLemmas.{some_more, union_below, within_trans}
use Rattle.iio_device.proofs.SoundLemmas.{members_below}
use Rattle.iio_device.proofs.roster.Roster.active_under.Goals as goal

pub returns-clause-own : goal.returns-clause-own
returns-clause-own g c =
    some_more _ (λ m. is_within c.args.mask.bits m.bits ≡ true) c.active.result c.active.ensures.contains
    (λ m h. within_trans _ c.union.result.bits _ (search rules) h)

pub returns-clause-below : goal.returns-clause-below
returns-clause-below g c =
    let tail = g.Q.Tail in
    let roster = c.args.self.now in
    let others = without c.args.number roster.members.items in
    let low = union_below (count_of roster.shape) others
    (All-filter (λ (m : Membership g.row.Q.Denot). not (m.number == c.args.number)) (λ m. m.mask.bits < 2 ^ count_of roster.shape) roster.members.items
    (members_below tail roster.shape roster.captures roster.next roster.members.items roster.sound.each)) in
    let both = or_lt (count_of roster.shape) c.args.mask.bits (union_of_all (masks_of others)) c.requires low in
    search rules
