use Rattle.std.proofs.Common.{ap, refl, sym, ◌∙◌}
use Rattle.iio_kinds.specs.Acting.{id_of}
use Rattle.iio_kinds.specs.MeanStation.{mean_station}
use Rattle.iio_kinds.specs.Seated.{slot_at}
use Rattle.iio_kinds.proofs.MeanTakes.{no_scan, scans_missing}
use Rattle.iio_kinds.proofs.mean_device.MeanDevice.take.Goals as goal

pub returns-in-None-clause-takes : goal.returns-in-None-clause-takes
returns-in-None-clause-takes c =
    let old = c.args.self.now in
    no_scan (id_of c.args.number c.args.mask) c.nothing.result c.args.out.now (mean_station old) (mean_station old)
    (scans_missing (id_of c.args.number c.args.mask) old.average.seats old.seats.items
    (ap (slot_at (id_of c.args.number c.args.mask)) (sym c.deref.ensures.value) ∙ sym c.slot_of.ensures ∙ c.in-None.is))
    refl c.nothing.ensures
