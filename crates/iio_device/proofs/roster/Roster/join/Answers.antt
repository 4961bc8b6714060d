use Rattle.std.proofs.lemmas.Grind.{common_steps}
use Rattle.std.proofs.Common.{rules, ◌≡◌, ◌+◌, ◌<◌, ◌^◌, ◌-◌, ◌∷◌, [], length, Some, refl, ap, ◌∙◌, arith}
use Rattle.std.proofs.lemmas.List.{length-append}
use Rattle.iio_mask.specs.Mask.{union_of, union_of_all}
use Rattle.iio_layout.specs.Active.{active_of}
use Rattle.iio_device.specs.declared.membership.Membership.{Membership}
use Rattle.iio_device.specs.Members.{masks_of}
use Rattle.iio_device.specs.Sound.{IsMember, bits_of}
use Rattle.iio_device.proofs.SoundLemmas.{groups_within, sound_joins}
use Rattle.iio_device.proofs.WantedLemmas.{push_union}
use Rattle.iio_device.proofs.roster.Roster.join.Goals as goal

pub remake_for-requires-clause-within : goal.remake_for-requires-clause-within
remake_for-requires-clause-within g c =
    let tail = g.Q.Tail in
    let roster = c.prepare.new.self in
    groups_within tail roster.shape _ c.in-Ok.made.0.bits roster.members.items roster.groups.items roster.sound.grouped (search rules)

pub invariant_of-self : goal.invariant_of-self
invariant_of-self g c =
    let tail = g.Q.Tail in
    let roster = c.prepare.new.self in
    let m : Membership g.row.Q.Denot = record { number = roster.next; mask = c.args.mask; joined = roster.captures; tail = c.args.tail } in
    let found : bits_of (Some c.in-Ok.made.0) ≡ active_of roster.shape (union_of c.args.mask.bits (union_of_all (masks_of roster.members.items))) =
    search rules in
    let fresh = c.requires.fresh in
    let small : length roster.members.items < 2 ^ 32 - 1 = search rules in
    let longer = length-append roster.members.items (m ∷ []) in
    let is : IsMember tail roster.shape roster.captures (roster.next + 1) m =
    record { numbered = omega arith; below = search rules; channel = search rules; counted = omega (arith, fresh); sized = search rules } in
    record {
      sound = rw (c.push_reserved.ensures.items, c.add_group.ensures, c.remake_for.ensures.remade)
          (sound_joins tail roster.shape roster.active c.in-Ok.made.0 roster.captures roster.next roster.members.items
          roster.groups.items m c.in-Ok.made.1
          roster.sound found (search rules) (omega (arith, small, longer)) refl is c.in-Ok.ensures.group c.in-Ok.ensures.none);
      sized = c.asked_size_after-size.ensures;
      roomy = roster.roomy;
      placed = search rules;
      united = rw c.push_reserved.ensures.items (c.union-self.ensures.value ∙ ap (union_of c.args.mask.bits) roster.united ∙ push_union roster.members.items m);
    }

pub add_group-requires : goal.add_group-requires
add_group-requires g c = grind (arith, common_steps)
