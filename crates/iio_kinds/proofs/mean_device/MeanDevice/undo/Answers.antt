use Rattle.std.proofs.Common.{◌≡◌, subst, map, false, None}
use Rattle.iio_core.specs.Calls.{station_after_join}
use Rattle.iio_kinds.specs.Faults.{HasJoined}
use Rattle.iio_kinds.specs.MeanStation.{mean_member}
use Rattle.iio_kinds.specs.Seated.{IsSeating}
use Rattle.iio_kinds.proofs.SeatedLemmas.{undone_sound, undone_told}
use Rattle.iio_kinds.proofs.SeatLemmas.{told_with}
use Rattle.iio_kinds.proofs.mean_device.MeanDevice.undo.Goals as goal

pub invariant_of-self-2 : goal.invariant_of-self-2
invariant_of-self-2 c = record {
  sound =
      let old = c.args.self.now in
      rw (c.attachment_without-self.ensures, c.deref.ensures.value)
      (undone_sound old.average c.leave-was.new.self c.leave-was.result c.args.seat.mask c.args.seat.capacity old.captures old.next old.starts old.plugged
      old.totals c.pop.new.self.items c.in-Some.last
      c.leave-was.ensures (subst (IsSeating old.average old.captures old.next old.starts) c.in-Some.ensures.items old.sound)
      (subst (λ seats. HasJoined c.args.seat.mask c.args.seat.capacity
      (told_with old.average old.plugged old.starts old.next old.captures old.totals (map (mean_member old.average.seats) seats))) c.in-Some.ensures.items
      c.requires));
}

pub returns-clause-station : goal.returns-clause-station
returns-clause-station c before e =
    let old = c.args.self.now in
    rw (c.attachment_without-self.ensures, c.deref.ensures.value)
    (undone_told old.average c.leave-was.new.self c.leave-was.result c.args.seat.mask c.args.seat.capacity old.captures old.next old.starts old.plugged
    old.totals c.pop.new.self.items c.in-Some.last
    c.leave-was.ensures (subst (IsSeating old.average old.captures old.next old.starts) c.in-Some.ensures.items old.sound)
    (subst (λ seats. HasJoined c.args.seat.mask c.args.seat.capacity
    (told_with old.average old.plugged old.starts old.next old.captures old.totals (map (mean_member old.average.seats) seats))) c.in-Some.ensures.items
    c.requires)
    before (subst (λ seats. told_with old.average old.plugged old.starts old.next old.captures old.totals (map (mean_member old.average.seats) seats)
    ≡ station_after_join c.args.seat.mask.bits c.args.seat.capacity false None before) c.in-Some.ensures.items e))
