use Rattle.std.proofs.Common.{rules, ◌≡◌, ◌==◌, ◌<◌, true, false, length, slice_index_or, Some, refl, sym, ap, ◌∙◌, arith}
use Rattle.std.proofs.lemmas.Bool.{not-false, not-true}
use Rattle.iio_kfifo.specs.Queue.{Queue}
use Rattle.iio_layout.specs.Layout.{scan_size}
use Rattle.iio_device.specs.declared.membership.Membership.{Membership}
use Rattle.iio_device.specs.Members.{member_of}
use Rattle.iio_device.proofs.ApartLemmas.{none_passes, passes_at}
use Rattle.iio_device.proofs.TakeLemmas.{changes_one, keeps_drained_scans, sound_takes}
use Rattle.iio_device.proofs.WantedLemmas.{set_union}
use Rattle.iio_device.proofs.roster.Roster+Kfifo.take_scans.Goals as goal

pub returns-in_err-at-clause-takes : goal.returns-in_err-at-clause-takes
returns-in_err-at-clause-takes c =
    let none = none_passes (λ (m : Membership Queue). m.number) (λ m. m.mask.bits == c.args.mask.bits) c.args.self.now.members.items c.args.number
    (sym (rw c.deref.ensures.value at c.in_err-at.ensures.live)) in
    rw c.from_residual.ensures (none, refl, refl)

pub returns-then-ne-clause-takes : goal.returns-then-ne-clause-takes
returns-then-ne-clause-takes c =
    let members = c.args.self.now.members.items in
    let at = c.in_ok-at.at in
    let member = c.index.result.now in
    let within : at < length members = rw (sym c.deref.ensures.value) c.in_ok-at.ensures.within in
    let number : (slice_index_or members at member).number ≡ c.args.number = rw (sym c.deref.ensures.value) (c.in_ok-at.ensures.at member) in
    let passes = passes_at (λ (m : Membership Queue). m.number) (λ m. m.mask.bits == c.args.mask.bits) members at member c.args.self.now.sound.numbers within in
    let other : (member.mask.bits == c.args.mask.bits) ≡ false = not-true _ (sym c.if-ne.ensures) in
    ((rw number at passes) ∙ ap (λ (m : Membership Queue). m.mask.bits == c.args.mask.bits) (sym c.index.ensures) ∙ other, refl, refl)

pub invariant_of-self : goal.invariant_of-self
invariant_of-self c =
    let roster = c.args.self.now in
    let members = roster.members.items in
    let at = c.in_ok-at.at in
    let old = slice_index_or members at c.index.result.now in
    let new = slice_index_or c.take_scans_at.new.members.items at c.index.result.now in
    let within : at < length members = rw (sym c.deref.ensures.value) c.in_ok-at.ensures.within in
    record {
      sound = sound_takes roster.shape roster.active roster.captures roster.next members c.take_scans_at.new.members.items roster.groups.items at old new
          roster.sound within (ap (λ d. slice_index_or members at d) c.index.ensures)
          (keeps_drained_scans _ _ _ _ old new (c.take_scans_at.ensures.moved c.index.result.now)) (c.take_scans_at.ensures.others c.index.result.now);
      sized = roster.sized;
      roomy = roster.roomy;
      united =
          roster.united ∙ set_union members c.take_scans_at.new.members.items at old new within (ap (λ d. slice_index_or members at d) c.index.ensures)
          (c.take_scans_at.ensures.others c.index.result.now)
          (ap (λ (m : Membership Queue). m.mask.bits) (c.take_scans_at.ensures.moved c.index.result.now).same);
      placed = roster.placed ∙ sym (ap length (c.take_scans_at.ensures.others c.index.result.now) ∙ search rules);
    }

pub returns-clause-takes : goal.returns-clause-takes
returns-clause-takes c =
    let roster = c.args.self.now in
    let members = roster.members.items in
    let at = c.in_ok-at.at in
    let member = c.index.result.now in
    let old = slice_index_or members at member in
    let new = slice_index_or c.take_scans_at.new.members.items at member in
    let within : at < length members = rw (sym c.deref.ensures.value) c.in_ok-at.ensures.within in
    let found : member_of c.args.number members ≡ Some old = rw (sym c.deref.ensures.value) (c.in_ok-at.ensures.member member) in
    let number : old.number ≡ c.args.number = rw (sym c.deref.ensures.value) (c.in_ok-at.ensures.at member) in
    let passes = passes_at (λ (m : Membership Queue). m.number) (λ m. m.mask.bits == c.args.mask.bits) members at member roster.sound.numbers within in
    let same : (member.mask.bits == c.args.mask.bits) ≡ true = not-false _ (sym c.if-ne.ensures) in (
      (rw number at passes) ∙ ap (λ (m : Membership Queue). m.mask.bits == c.args.mask.bits) (sym c.index.ensures) ∙ same,
      refl,
      changes_one c.args.number _ members c.take_scans_at.new.members.items at old new within (ap (λ d. slice_index_or members at d) c.index.ensures) found
          (c.take_scans_at.ensures.moved member) (c.take_scans_at.ensures.others member),
    )

pub returns-clause-sized : goal.returns-clause-sized
returns-clause-sized c =
    let roster = c.args.self.now in
    let members = roster.members.items in
    let at = c.in_ok-at.at in
    let member = c.index.result.now in
    let old = slice_index_or members at member in
    let within : at < length members = rw (sym c.deref.ensures.value) c.in_ok-at.ensures.within in
    let same : (member.mask.bits == c.args.mask.bits) ≡ true = not-false _ (sym c.if-ne.ensures) in
    let mask : old.mask.bits ≡ c.args.mask.bits = ap (λ (m : Membership Queue). m.mask.bits) (sym c.index.ensures) ∙ grind (arith, same) in
    let sized : old.tail.size ≡ scan_size roster.shape c.args.mask.bits = (roster.sound.each at member within).sized ∙ ap (scan_size roster.shape) mask in
    rw sized at (c.take_scans_at.ensures.sized member)
