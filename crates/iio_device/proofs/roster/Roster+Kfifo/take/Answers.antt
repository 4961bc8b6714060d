use Rattle.std.proofs.Common.{rules, ◌≡◌, ◌<◌, length, slice_index_or, Some, refl, sym, ap, ◌∙◌}
use Rattle.iio_kfifo.specs.Queue.{Queue}
use Rattle.iio_layout.specs.Layout.{scan_size}
use Rattle.iio_device.specs.declared.membership.Membership.{Membership}
use Rattle.iio_device.specs.Members.{member_of}
use Rattle.iio_device.proofs.ApartLemmas.{eq_same}
use Rattle.iio_device.proofs.TakeLemmas.{changes_one, keeps_drained, sound_takes}
use Rattle.iio_device.proofs.WantedLemmas.{set_union}
use Rattle.iio_device.proofs.roster.Roster+Kfifo.take.Goals as goal

pub invariant_of-self : goal.invariant_of-self
invariant_of-self c =
    let roster = c.args.self.now in
    let members = roster.members.items in
    let at = c.in_ok-at.at in
    let old = slice_index_or members at c.index.result.now in
    let new = slice_index_or c.take_at.new.members.items at c.index.result.now in
    let within : at < length members = rw (sym c.deref.ensures.value) c.in_ok-at.ensures.within in
    record {
      sound = sound_takes roster.shape roster.active roster.captures roster.next members c.take_at.new.members.items roster.groups.items at old new
          roster.sound within (ap (λ d. slice_index_or members at d) c.index.ensures) (keeps_drained _ _ _ old new (c.take_at.ensures.moved c.index.result.now))
          (c.take_at.ensures.others c.index.result.now);
      sized = roster.sized;
      roomy = roster.roomy;
      united =
          roster.united ∙ set_union members c.take_at.new.members.items at old new within (ap (λ d. slice_index_or members at d) c.index.ensures)
          (c.take_at.ensures.others c.index.result.now)
          (ap (λ (m : Membership Queue). m.mask.bits) (c.take_at.ensures.moved c.index.result.now).same);
      placed = roster.placed ∙ sym (ap length (c.take_at.ensures.others c.index.result.now) ∙ search rules);
    }

pub returns : goal.returns
returns c =
    let roster = c.args.self.now in
    let members = roster.members.items in
    let at = c.in_ok-at.at in
    let old = slice_index_or members at c.index.result.now in
    let new = slice_index_or c.take_at.new.members.items at c.index.result.now in
    let within : at < length members = rw (sym c.deref.ensures.value) c.in_ok-at.ensures.within in
    let found : member_of c.args.number members ≡ Some old = rw (sym c.deref.ensures.value) (c.in_ok-at.ensures.member c.index.result.now) in
    let sized : old.tail.size ≡ scan_size roster.shape old.mask.bits = (roster.sound.each at c.index.result.now within).sized in (
      rw (found) (eq_same (length c.args.out.now) (scan_size roster.shape old.mask.bits)
          (c.if-out-size.false ∙ c.size.ensures ∙ ap (λ (m : Membership Queue). m.tail.size) c.index.ensures ∙ sized)),
      refl,
      changes_one c.args.number _ members c.take_at.new.members.items at old new within (ap (λ d. slice_index_or members at d) c.index.ensures) found
          (c.take_at.ensures.moved c.index.result.now) (c.take_at.ensures.others c.index.result.now),
    )
