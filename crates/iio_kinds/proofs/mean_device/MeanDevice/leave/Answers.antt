use Rattle.std.proofs.Common.{◌∙◌, sym, ap, unwrap_or}
use Rattle.iio_kinds.specs.Seated.{slot_by}
use Rattle.iio_kinds.proofs.SeatedLemmas.{gone_sound, gone_told, nobody_left}
use Rattle.iio_kinds.proofs.mean_device.MeanDevice.leave.Goals as goal

pub returns-in_default-clause-station : goal.returns-in_default-clause-station
returns-in_default-clause-station c =
    let old = c.args.self.now in
    nobody_left old.average old.plugged c.args.number old.starts old.next old.captures old.totals old.seats.items
    (ap (slot_by c.args.number) (sym c.deref.ensures.value) ∙ sym c.slot_by.ensures ∙ c.in_default.is)

pub invariant_of-self-2 : goal.invariant_of-self-2
invariant_of-self-2 c = record {
  sound =
      let old = c.args.self.now in
      rw c.drop_seat.ensures
      (gone_sound old.average c.leave-was.new.self c.leave-was.result c.args.number c.in-Some.slot old.captures old.next old.starts old.seats.items
      (ap (slot_by c.args.number) (sym c.deref.ensures.value) ∙ sym c.slot_by.ensures ∙ c.in-Some.is) c.leave-was.ensures old.sound);
}

pub returns-clause-station : goal.returns-clause-station
returns-clause-station c =
    let old = c.args.self.now in
    rw c.drop_seat.ensures
    (gone_told old.average c.leave-was.new.self c.leave-was.result c.args.number c.in-Some.slot old.captures old.next old.starts old.seats.items
    (ap (slot_by c.args.number) (sym c.deref.ensures.value) ∙ sym c.slot_by.ensures ∙ c.in-Some.is) c.leave-was.ensures old.sound
    old.plugged old.totals c.lose.new.self c.unwrap_or.result (c.unwrap_or.ensures ∙ ap (λ o. unwrap_or o 0) c.lost.ensures) c.lose.ensures)
