use Rattle.std.proofs.Common.{◌≡◌, subst}
use Rattle.std.specs.Prelude.{OnOk}
use Rattle.std.specs.Int.{w64}
use Rattle.std.proofs.lemmas.Int.{to_z-of_z}
use Rattle.iio_layout.specs.Scan.{scan_of}
use Rattle.iio_layout.specs.Shape.{ShapeRecord}
use Rattle.iio_sensor.specs.Driver.{values_of}
use Rattle.iio_sensor.specs.Failing.{FailingRecord, driver_of}
use Rattle.iio_sensor.proofs.failing.FailingSensor.capture.Goals as goal

pub returns-clause-scan : goal.returns-clause-scan
returns-clause-scan c =
    let shape : ShapeRecord = c.args.shape.now in
    let Filled =
    λ (f : FailingRecord). OnOk c.capture.result (c.capture.new.out ≡ scan_of shape c.args.active.bits (values_of (driver_of f) shape c.args.t) c.args.t) in
    subst Filled c.self.view_is (rw (to_z-of_z w64 c.args.t c.ranges.t) at c.capture.ensures.scan)
