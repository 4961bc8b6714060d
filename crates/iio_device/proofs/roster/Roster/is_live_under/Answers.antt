use Rattle.std.proofs.Common.{◌==◌, ◌≡◌, ◌<◌, length, slice_index_or, sym, ap, ◌∙◌}
use Rattle.iio_device.specs.declared.membership.Membership.{Membership}
use Rattle.iio_device.proofs.ApartLemmas.{none_passes, passes_at}
use Rattle.iio_device.proofs.roster.Roster.is_live_under.Goals as goal

pub returns-in-None : goal.returns-in-None
returns-in-None g c =
    sym (none_passes (λ (m : Membership g.row.Q.Denot). m.number) (λ m. m.mask.bits == c.args.mask.bits) c.args.self.now.members.items c.args.number
    (sym (rw c.deref.ensures.value at c.in-None.ensures.live)))

pub returns-in-Some : goal.returns-in-Some
returns-in-Some g c =
    let members = c.args.self.now.members.items in
    let member = c.index.result.now in
    let within : c.in-Some.at < length members = rw (sym c.deref.ensures.value) c.in-Some.ensures.within in
    let number : (slice_index_or members c.in-Some.at member).number ≡ c.args.number = rw (sym c.deref.ensures.value) (c.in-Some.ensures.at member) in
    let passes =
    passes_at (λ (m : Membership g.row.Q.Denot). m.number) (λ m. m.mask.bits == c.args.mask.bits) members c.in-Some.at member c.args.self.now.sound.numbers
    within in
    ap (λ (m : Membership g.row.Q.Denot). m.mask.bits == c.args.mask.bits) c.index.ensures ∙ sym (rw number at passes)
