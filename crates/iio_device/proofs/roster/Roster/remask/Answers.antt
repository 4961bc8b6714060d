use Rattle.std.proofs.lemmas.Grind.{common_steps}
use Rattle.std.proofs.Common.{rules, ◌≡◌, ◌<◌, length, slice_index_or, option_map, unwrap_or, Some, sym, ap, ◌∙◌, arith}
use Rattle.std.proofs.lemmas.List.Elements.{All-filter}
use Rattle.iio_mask.specs.Mask.{union_of, union_of_all}
use Rattle.iio_layout.specs.Active.{active_of}
use Rattle.iio_device.specs.declared.membership.Membership.{Membership}
use Rattle.iio_device.specs.Groups.{GroupRecord, IsGroup}
use Rattle.iio_device.specs.Members.{is_wanted, masks_of, member_of, without}
use Rattle.iio_device.specs.Remasking.{active_under, begun_anew, remasked}
use Rattle.iio_device.specs.Roster.{Standing}
use Rattle.iio_device.specs.Sound.{bits_of}
use Rattle.iio_device.specs.Standing.{standing_of}
use Rattle.iio_device.proofs.RemaskLemmas.{anew_members, anew_sound, anew_within}
use Rattle.iio_device.proofs.WantedLemmas.{wanted_set}
use Rattle.iio_device.proofs.roster.Roster.remask.Goals as goal

pub keep_wanted-requires : goal.keep_wanted-requires
keep_wanted-requires g c =
    let roster = c.prepare_remask.new.self in
    let was = c.index.result.now in
    let same : c.deref.result.now ≡ roster.members.items =
    c.deref.ensures.value ∙ sym (ap (λ (s : Standing g.row.Q.Denot). s.members) c.prepare_remask.ensures.same) in
    let inside : c.in-Some.at < length roster.members.items = rw (sym same) c.in-Some.ensures.within in
    rw c.deref-2.ensures.value
    (wanted_set roster.members.items c.begin_anew_at-before.new.members.items c.in-Some.at was
    (begun_anew c.args.mask roster.captures c.args.tail (slice_index_or roster.members.items c.in-Some.at was)) roster.groups.items
    inside c.index.ensures (c.begin_anew_at-before.ensures.members was) roster.sound.grouped.used)

pub remake_for-requires-clause-within : goal.remake_for-requires-clause-within
remake_for-requires-clause-within g c =
    let tail = g.Q.Tail in
    let roster = c.prepare_remask.new.self in
    let d : Membership g.row.Q.Denot = record { number = 0; mask = c.args.mask; joined = 0; tail = c.args.tail } in
    let same : c.deref.result.now ≡ roster.members.items =
    c.deref.ensures.value ∙ sym (ap (λ (s : Standing g.row.Q.Denot). s.members) c.prepare_remask.ensures.same) in
    let inside : c.in-Some.at < length roster.members.items = rw (sym same) c.in-Some.ensures.within in
    let number : (slice_index_or roster.members.items c.in-Some.at d).number ≡ c.args.number = rw (sym same) (c.in-Some.ensures.at d) in
    rw (c.keep_wanted.ensures.kept, c.deref-2.ensures.value)
    (anew_within tail roster.shape roster.active roster.captures roster.next roster.members.items
    c.begin_anew_at-before.new.members.items c.in-Some.at c.args.number c.args.mask c.args.tail roster.groups.items d
    roster.sound inside number (c.begin_anew_at-before.ensures.members d) c.in-Ok.made.0.bits
    (rw (ap (λ (s : Standing g.row.Q.Denot). s.members) c.prepare_remask.ensures.same) c.in-Ok.ensures.within))

pub remake_for-requires-clause-made : goal.remake_for-requires-clause-made
remake_for-requires-clause-made g c =
    let roster = c.prepare_remask.new.self in
    rw (c.keep_wanted.ensures.kept, c.deref-2.ensures.value)
    (All-filter (λ (x : GroupRecord). is_wanted c.begin_anew_at-before.new.members.items x.mask) (IsGroup roster.shape (unwrap_or (bits_of roster.active) 0))
    roster.groups.items roster.sound.grouped.each)

pub invariant_of-self-2 : goal.invariant_of-self-2
invariant_of-self-2 g c =
    let tail = g.Q.Tail in
    let roster = c.prepare_remask.new.self in
    let d : Membership g.row.Q.Denot = record { number = 0; mask = c.args.mask; joined = 0; tail = c.args.tail } in
    let same : c.deref.result.now ≡ roster.members.items =
    c.deref.ensures.value ∙ sym (ap (λ (s : Standing g.row.Q.Denot). s.members) c.prepare_remask.ensures.same) in
    let inside : c.in-Some.at < length roster.members.items = rw (sym same) c.in-Some.ensures.within in
    let number : (slice_index_or roster.members.items c.in-Some.at d).number ≡ c.args.number = rw (sym same) (c.in-Some.ensures.at d) in
    let found : bits_of (Some c.in-Ok.made.0)
    ≡ active_of roster.shape (union_of c.args.mask.bits (union_of_all (masks_of (without c.args.number roster.members.items))))
    = c.in-Ok.ensures.active ∙ ap (λ (s : Standing g.row.Q.Denot). active_under c.args.number c.args.mask.bits s) (sym c.prepare_remask.ensures.same) in
    record {
      sound = rw (c.add_group.ensures, c.remake_for.ensures.remade, c.keep_wanted.ensures.kept, c.deref-2.ensures.value)
          (anew_sound tail roster.shape roster.active roster.captures roster.next roster.members.items
          c.begin_anew_at-before.new.members.items c.in-Some.at c.args.number c.args.mask c.args.tail roster.groups.items d
          roster.sound inside number (c.begin_anew_at-before.ensures.members d) c.in-Ok.made.0 c.in-Ok.made.1 found
          (search rules) (search rules) (search rules) (search rules) c.requires.fresh c.in-Ok.ensures.group c.in-Ok.ensures.none);
      sized = c.asked_size_after-size.ensures;
      roomy = roster.roomy;
      united = c.union_mask-self.ensures ∙ ap (λ ms. union_of_all (masks_of ms)) c.deref-3.ensures.value;
      placed = roster.placed ∙ sym (ap length (c.begin_anew_at-before.ensures.members d) ∙ search rules);
    }

pub returns : goal.returns
returns g c =
    let tail = g.Q.Tail in
    let roster = c.prepare_remask.new.self in
    let at = c.in-Some.at in
    let d : Membership g.row.Q.Denot = record { number = 0; mask = c.args.mask; joined = 0; tail = c.args.tail } in
    let stood = c.prepare_remask.ensures.same in
    let members = ap (λ (s : Standing g.row.Q.Denot). s.members) stood in
    let same : c.deref.result.now ≡ roster.members.items = c.deref.ensures.value ∙ sym members in
    let inside : at < length roster.members.items = rw (sym same) c.in-Some.ensures.within in
    let number : (slice_index_or roster.members.items at d).number ≡ c.args.number = rw (sym same) (c.in-Some.ensures.at d) in
    let found : member_of c.args.number c.args.self.now.members.items ≡ Some (slice_index_or c.args.self.now.members.items at d) =
    rw (sym c.deref.ensures.value) (c.in-Some.ensures.member d) in
    let after : c.begin_anew_at-before.new.members.items ≡ remasked c.args.number c.args.mask roster.captures c.args.tail roster.members.items
    =
    anew_members tail roster.shape roster.active roster.captures roster.next roster.members.items
    c.begin_anew_at-before.new.members.items at c.args.number c.args.mask c.args.tail roster.groups.items d
    roster.sound inside number (c.begin_anew_at-before.ensures.members d) in (
      c.in-Ok.ensures.accepted,
      ap (option_map (λ (m : Membership g.row.Q.Denot). m.tail)) found
          ∙ ap (λ (ms : _). Some (slice_index_or ms at d).tail) (sym members)
          ∙ ap Some (sym (c.begin_anew_at-before.ensures.before d)),
      ap (λ (s : Standing g.row.Q.Denot).
          (let z : Standing g.row.Q.Denot = record s { active = Some c.in-Ok.made.0.bits; members = c.begin_anew_at-before.new.members.items } in z)) stood
          ∙ ap (λ (a : _). (let z : Standing g.row.Q.Denot =
          record (standing_of c.args.self.now) { active = a; members = c.begin_anew_at-before.new.members.items } in z)) c.in-Ok.ensures.active
          ∙ ap (λ (ms : _). (let z : Standing g.row.Q.Denot =
          record (standing_of c.args.self.now) { active = active_under c.args.number c.args.mask.bits (standing_of c.args.self.now); members = ms } in z))
          (after ∙ ap (λ (s : Standing g.row.Q.Denot). remasked c.args.number c.args.mask s.captures c.args.tail s.members) stood),
    )

pub add_group-requires : goal.add_group-requires
add_group-requires g c = grind (arith, common_steps)
