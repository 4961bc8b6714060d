use Rattle.std.proofs.Common.{ap, length, sym, unwrap_or, ◌∙◌}
use Rattle.iio_kinds.specs.Acting.{id_of}
use Rattle.iio_kinds.specs.Seated.{slot_at}
use Rattle.iio_kinds.proofs.MeanTakes.{lost_missing, lost_told, scans_missing, waiting_told}
use Rattle.iio_kinds.proofs.mean_device.MeanDevice.counts.Goals as goal

pub returns-in-None-clause-waiting : goal.returns-in-None-clause-waiting
returns-in-None-clause-waiting c =
    let old = c.args.self.now in
    sym (ap (λ scans. length scans) (scans_missing (id_of c.args.number c.args.mask) old.average.seats old.seats.items
    (ap (slot_at (id_of c.args.number c.args.mask)) (sym c.deref.ensures.value) ∙ sym c.slot_of.ensures ∙ c.in-None.is)))

pub returns-in-None-clause-lost : goal.returns-in-None-clause-lost
returns-in-None-clause-lost c =
    let old = c.args.self.now in
    sym (lost_missing (id_of c.args.number c.args.mask) old.average.seats old.seats.items
    (ap (slot_at (id_of c.args.number c.args.mask)) (sym c.deref.ensures.value) ∙ sym c.slot_of.ensures ∙ c.in-None.is))

pub returns-in-Some-clause-waiting : goal.returns-in-Some-clause-waiting
returns-in-Some-clause-waiting c =
    let old = c.args.self.now in
    c.from.ensures ∙ c.unwrap_or.ensures ∙ ap (λ o. unwrap_or o 0) c.waiting.ensures
    ∙ waiting_told (id_of c.args.number c.args.mask) c.in-Some.slot old.average.seats old.seats.items
    (ap (slot_at (id_of c.args.number c.args.mask)) (sym c.deref.ensures.value) ∙ sym c.slot_of.ensures ∙ c.in-Some.is)

pub returns-in-Some-clause-lost : goal.returns-in-Some-clause-lost
returns-in-Some-clause-lost c =
    let old = c.args.self.now in
    c.unwrap_or-in-Some.ensures ∙ ap (λ o. unwrap_or o 0) c.lost.ensures
    ∙ lost_told (id_of c.args.number c.args.mask) c.in-Some.slot old.average.seats old.seats.items
    (ap (slot_at (id_of c.args.number c.args.mask)) (sym c.deref.ensures.value) ∙ sym c.slot_of.ensures ∙ c.in-Some.is)
