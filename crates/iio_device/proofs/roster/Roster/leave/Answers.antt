use Rattle.std.proofs.Common.{rules, ◌≡◌, ◌==◌, ◌<◌, ◌^◌, not, length, filter, slice_index_or, IfSome, Some, option_map, unwrap_or, true, false, refl, sym, ap, ◌∙◌}
use Rattle.std.proofs.lemmas.List.Elements.{All-filter}
use Rattle.iio_mask.specs.Mask.{is_within, union_of_all}
use Rattle.iio_layout.specs.Shape.{count_of}
use Rattle.iio_device.specs.declared.membership.Membership.{Membership}
use Rattle.iio_device.specs.Active.{active_for}
use Rattle.iio_device.specs.Groups.{GroupRecord, IsGroup}
use Rattle.iio_device.specs.Members.{is_wanted, masks_of, member_of, without}
use Rattle.iio_device.specs.Sound.{bits_of}
use Rattle.iio_device.proofs.ApartLemmas.{removed_is}
use Rattle.iio_device.proofs.MaskLemmas.{some_more}
use Rattle.iio_device.proofs.SoundLemmas.{kept_within, members_below, sound_leaves_at}
use Rattle.iio_device.proofs.WantedLemmas.{all_left, dropped_is, shared_union, sound_leaves_shared, wanted_left}
use Rattle.iio_device.proofs.roster.Roster.leave.Goals as goal

pub invariant_of-self-then-is_wanted : goal.invariant_of-self-then-is_wanted
invariant_of-self-then-is_wanted g c =
    let tail = g.Q.Tail in
    let roster = c.args.self.now in
    let members = roster.members.items in
    let rest = c.remove-tail.new.self.items in
    let gone = c.remove-tail.result in
    let within : c.in_ok-at.at < length members = rw (sym c.deref.ensures.value) c.in_ok-at.ensures.within in
    let shared : is_wanted rest gone.mask.bits ≡ true = rw (sym c.deref-2.ensures.value) (sym c.is_wanted.ensures ∙ c.if-is_wanted.true) in
    record {
      sized = roster.sized;
      roomy = roster.roomy;
      placed = search rules;
      united = roster.united ∙ shared_union members rest c.in_ok-at.at gone within c.remove-tail.ensures.value c.remove-tail.ensures.by_index.2 shared;
      sound =
          (sound_leaves_shared tail roster.shape roster.active roster.captures roster.next members rest c.in_ok-at.at gone
          roster.groups.items roster.sound
          within c.remove-tail.ensures.value c.remove-tail.ensures.by_index.2 shared).1;
    }

pub returns-then-is_wanted : goal.returns-then-is_wanted
returns-then-is_wanted g c =
    let tail = g.Q.Tail in
    let roster = c.args.self.now in
    let members = roster.members.items in
    let rest = c.remove-tail.new.self.items in
    let gone = c.remove-tail.result in
    let within : c.in_ok-at.at < length members = rw (sym c.deref.ensures.value) c.in_ok-at.ensures.within in
    let shared : is_wanted rest gone.mask.bits ≡ true = rw (sym c.deref-2.ensures.value) (sym c.is_wanted.ensures ∙ c.if-is_wanted.true) in
    let ruled =
    (sound_leaves_shared tail roster.shape roster.active roster.captures roster.next members rest c.in_ok-at.at gone
    roster.groups.items roster.sound
    within c.remove-tail.ensures.value c.remove-tail.ensures.by_index.2 shared).0 in
    let at : (slice_index_or members c.in_ok-at.at gone).number ≡ c.args.number = rw (sym c.deref.ensures.value) (c.in_ok-at.ensures.at gone) in
    let found : member_of c.args.number members ≡ Some (slice_index_or members c.in_ok-at.at gone) =
    rw (sym c.deref.ensures.value) (c.in_ok-at.ensures.member gone) in
    let number : gone.number ≡ c.args.number = ap (λ (m : Membership g.row.Q.Denot). m.number) c.remove-tail.ensures.value ∙ at in
    let removed : rest ≡ without c.args.number members =
    c.remove-tail.ensures.by_index.2
    ∙ removed_is (λ (m : Membership g.row.Q.Denot). m.number) members c.in_ok-at.at gone roster.sound.numbers within c.remove-tail.ensures.value
    ∙ ap (λ n. without n members) number in (
      ap (option_map (λ (m : Membership g.row.Q.Denot). m.tail)) found ∙ ap (λ (m : Membership g.row.Q.Denot). Some m.tail) (sym c.remove-tail.ensures.value),
      rw (ruled, removed) refl,
    )

pub active_for-active-requires-clause-each : goal.active_for-active-requires-clause-each
active_for-active-requires-clause-each g c =
    let tail = g.Q.Tail in
    let roster = c.args.self.now in
    let members = roster.members.items in
    let rest = c.remove-tail.new.self.items in
    let gone = c.remove-tail.result in
    let within : c.in_ok-at.at < length members = rw (sym c.deref.ensures.value) c.in_ok-at.ensures.within in
    rw c.deref-4.ensures.value
    (all_left (λ (m : Membership g.row.Q.Denot). m.mask.bits < 2 ^ count_of roster.shape) members rest c.in_ok-at.at gone within c.remove-tail.ensures.value
    c.remove-tail.ensures.by_index.2
    (members_below tail roster.shape roster.captures roster.next members roster.sound.each))

pub remake_for-requires-clause-within : goal.remake_for-requires-clause-within
remake_for-requires-clause-within g c =
    let tail = g.Q.Tail in
    let roster = c.args.self.now in
    let members = roster.members.items in
    let rest = c.remove-tail.new.self.items in
    let gone = c.remove-tail.result in
    let within : c.in_ok-at.at < length members = rw (sym c.deref.ensures.value) c.in_ok-at.ensures.within in
    let none : is_wanted rest gone.mask.bits ≡ false = rw (sym c.deref-2.ensures.value) (sym c.is_wanted.ensures ∙ c.if-is_wanted.false) in
    let kept : c.drop_group.new.groups.items ≡ filter (λ (x : GroupRecord). is_wanted rest x.mask) roster.groups.items =
    c.drop_group.ensures.kept
    ∙ dropped_is (λ mask. is_wanted rest mask) gone.mask.bits roster.groups.items
    (wanted_left members rest c.in_ok-at.at gone roster.groups.items within c.remove-tail.ensures.value c.remove-tail.ensures.by_index.2
    roster.sound.grouped.used) none in
    let contains : IfSome c.active_for-active.result (λ m. is_within (union_of_all (masks_of rest)) m.bits ≡ true) =
    rw (sym c.deref-4.ensures.value) c.active_for-active.ensures.contains in
    some_more (λ m. is_within (union_of_all (masks_of rest)) m.bits ≡ true) _ c.active_for-active.result contains
    (λ m h. rw kept (kept_within tail rest roster.groups.items m.bits h))

pub remake_for-requires-clause-made : goal.remake_for-requires-clause-made
remake_for-requires-clause-made g c =
    let roster = c.args.self.now in
    rw c.drop_group.ensures.kept
    (All-filter (λ (x : GroupRecord). not (x.mask == c.remove-tail.result.mask.bits)) (IsGroup roster.shape (unwrap_or (bits_of roster.active) 0))
    roster.groups.items roster.sound.grouped.each)

pub invariant_of-self-2 : goal.invariant_of-self-2
invariant_of-self-2 g c =
    let tail = g.Q.Tail in
    let roster = c.args.self.now in
    let members = roster.members.items in
    let rest = c.remove-tail.new.self.items in
    let gone = c.remove-tail.result in
    let within : c.in_ok-at.at < length members = rw (sym c.deref.ensures.value) c.in_ok-at.ensures.within in
    let none : is_wanted rest gone.mask.bits ≡ false = rw (sym c.deref-2.ensures.value) (sym c.is_wanted.ensures ∙ c.if-is_wanted.false) in
    let kept : c.drop_group.new.groups.items ≡ filter (λ (x : GroupRecord). is_wanted rest x.mask) roster.groups.items =
    c.drop_group.ensures.kept
    ∙ dropped_is (λ mask. is_wanted rest mask) gone.mask.bits roster.groups.items
    (wanted_left members rest c.in_ok-at.at gone roster.groups.items within c.remove-tail.ensures.value c.remove-tail.ensures.by_index.2
    roster.sound.grouped.used) none in
    let ruled : bits_of c.active_for-active.result ≡ active_for roster.shape (masks_of rest) =
    rw (sym c.deref-4.ensures.value) c.active_for-active.ensures.value in
    record {
      sized = c.asked_size_after-size.ensures;
      roomy = roster.roomy;
      placed = search rules;
      united = c.union_mask-wanted.ensures ∙ ap (λ ms. union_of_all (masks_of ms)) c.deref-3.ensures.value;
      sound = rw (c.remake_for.ensures.remade, kept)
          (sound_leaves_at tail roster.shape roster.active c.active_for-active.result roster.captures roster.next members rest
          c.in_ok-at.at gone roster.groups.items roster.sound within c.remove-tail.ensures.value c.remove-tail.ensures.by_index.2 ruled
          c.active_for-active.ensures.below);
    }

pub returns : goal.returns
returns g c =
    let tail = g.Q.Tail in
    let roster = c.args.self.now in
    let members = roster.members.items in
    let rest = c.remove-tail.new.self.items in
    let gone = c.remove-tail.result in
    let within : c.in_ok-at.at < length members = rw (sym c.deref.ensures.value) c.in_ok-at.ensures.within in
    let ruled : bits_of c.active_for-active.result ≡ active_for roster.shape (masks_of rest) =
    rw (sym c.deref-4.ensures.value) c.active_for-active.ensures.value in
    let at : (slice_index_or members c.in_ok-at.at gone).number ≡ c.args.number = rw (sym c.deref.ensures.value) (c.in_ok-at.ensures.at gone) in
    let found : member_of c.args.number members ≡ Some (slice_index_or members c.in_ok-at.at gone) =
    rw (sym c.deref.ensures.value) (c.in_ok-at.ensures.member gone) in
    let number : gone.number ≡ c.args.number = ap (λ (m : Membership g.row.Q.Denot). m.number) c.remove-tail.ensures.value ∙ at in
    let removed : rest ≡ without c.args.number members =
    c.remove-tail.ensures.by_index.2
    ∙ removed_is (λ (m : Membership g.row.Q.Denot). m.number) members c.in_ok-at.at gone roster.sound.numbers within c.remove-tail.ensures.value
    ∙ ap (λ n. without n members) number in (
      ap (option_map (λ (m : Membership g.row.Q.Denot). m.tail)) found ∙ ap (λ (m : Membership g.row.Q.Denot). Some m.tail) (sym c.remove-tail.ensures.value),
      rw (ruled, removed) refl,
    )
