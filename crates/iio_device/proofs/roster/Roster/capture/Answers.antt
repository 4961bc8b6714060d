use Rattle.std.proofs.Common.{◌≡◌, ap, take, true, unwrap_or, subst, ◌∙◌}
use Rattle.std.proofs.lemmas.List.{length-take-le}
use Rattle.std.proofs.lemmas.List.Elements.{length_all_zip}
use Rattle.iio_mask.specs.Mask.{is_within}
use Rattle.iio_layout.specs.Scan.{scan_of}
use Rattle.iio_device.specs.declared.membership.Membership.{Membership}
use Rattle.iio_device.specs.Groups.{GroupRecord, has_group, laid_out, scan_for}
use Rattle.iio_device.specs.Members.{WasOffered}
use Rattle.iio_device.specs.Sound.{bits_of}
use Rattle.iio_device.proofs.ApartLemmas.{distinct_map}
use Rattle.iio_device.proofs.OfferLemmas.{all_sized, laid_mask, member_within, scan_found-is, sound_captures, zip_more}
use Rattle.iio_device.proofs.WantedLemmas.{zip_union}
use Rattle.iio_device.proofs.roster.Roster.capture.Goals as goal

pub offer_all-requires-clause-sized : goal.offer_all-requires-clause-sized
offer_all-requires-clause-sized g c =
    let tail = g.Q.Tail in
    let roster = c.args.self.now in
    rw (c.deref-2.ensures.value, c.lay_out_all.ensures, c.asked-active.ensures.value)
    (all_sized tail roster.shape roster.active roster.captures roster.next roster.members.items
    roster.groups.items (take c.args.size c.deref.result.now) roster.sound
    (rw (c.deref.ensures.value) (length-take-le c.args.size roster.room.items c.requires.room ∙ c.requires.size)))

pub offer_all-requires-clause-apart : goal.offer_all-requires-clause-apart
offer_all-requires-clause-apart g c =
    let roster = c.args.self.now in
    let union = take c.args.size c.deref.result.now in
    rw (c.deref-2.ensures.value, c.lay_out_all.ensures)
    (distinct_map (λ (g : GroupRecord). g.mask) (laid_out c.asked-active.result.bits union) (laid_mask c.asked-active.result.bits union) roster.groups.items
    roster.sound.grouped.apart)

pub invariant_of-self : goal.invariant_of-self
invariant_of-self g c =
    let tail = g.Q.Tail in
    let roster = c.args.self.now in
    let union = take c.args.size c.deref.result.now in
    record {
      sized = roster.sized;
      roomy = roster.roomy;
      united =
          roster.united ∙ zip_union
          (λ a b. WasOffered tail
          (scan_for c.asked-active.result.bits union c.deref-2.result.now a.mask.bits) a b)
          roster.members.items c.offer_all.new.members.items (λ a b r. ap (λ (m : Membership g.row.Q.Denot). m.mask.bits) r.same) c.offer_all.ensures.offered;
      placed = c.offer_all.ensures.placed ∙ roster.placed ∙ length_all_zip _ _ _ c.offer_all.ensures.offered;
      sound = rw (c.lay_out_all.ensures, c.asked-active.ensures.value)
          (sound_captures tail
          (λ mask. scan_for c.asked-active.result.bits union c.deref-2.result.now mask) roster.shape roster.active roster.captures
          roster.next roster.members.items c.offer_all.new.members.items roster.groups.items union roster.sound c.offer_all.ensures.offered);
    }

pub returns-clause-offered : goal.returns-clause-offered
returns-clause-offered g c =
    let tail = g.Q.Tail in
    let roster = c.args.self.now in
    let active = unwrap_or (bits_of roster.active) 0 in
    let asked = c.asked-active.result.bits in
    let union = take c.args.size c.deref.result.now in
    λ values t wide is.
    zip_more (λ a b. WasOffered tail (scan_for asked union c.deref-2.result.now a.mask.bits) a b)
    (λ a b. WasOffered tail (scan_of roster.shape a.mask.bits values t) a b)
    (λ (m : Membership g.row.Q.Denot). (has_group roster.groups.items m.mask.bits ≡ true) × (is_within m.mask.bits active ≡ true))
    roster.members.items c.offer_all.new.members.items
    (λ a b own r.
    subst (λ s. WasOffered tail s a b)
    (ap (λ gs. scan_for asked union gs a.mask.bits) (c.deref-2.ensures.value ∙ c.lay_out_all.ensures)
    ∙ rw (c.asked-active.ensures.value)
    (scan_found-is roster.shape active a.mask.bits union roster.groups.items values t roster.sound.grouped.each own.0 own.1 wide
    (ap (take c.args.size) c.deref.ensures.value ∙ is))) r)
    c.offer_all.ensures.offered
    (λ k d within. (
      roster.sound.grouped.there k d within,
      member_within tail roster.shape roster.active roster.captures roster.next roster.members.items
          roster.groups.items roster.sound k d within,
    ))
