use Rattle.std.proofs.Common.{ap, ◌∙◌}
use Rattle.std.specs.Int.{w64}
use Rattle.std.proofs.lemmas.Int.{to_z-of_z}
use Rattle.iio_layout.specs.Scan.{scan_of}
use Rattle.iio_layout.specs.Shape.{ShapeRecord}
use Rattle.iio_sensor.specs.declared.asks.Asks.{Asks}
use Rattle.iio_sensor.specs.Driver.{after_capture, values_of}
use Rattle.iio_sensor.specs.Ramp.{RampRecord, driver_of}
use Rattle.iio_sensor.proofs.ramp.RampSensor.capture.Goals as goal

pub returns-clause-asked : goal.returns-clause-asked
returns-clause-asked c =
    rw (rw (to_z-of_z w64 c.args.t c.ranges.t) at c.count_capture.ensures)
    (ap (λ (r : RampRecord). after_capture (driver_of r) c.args.t c.args.active.bits) c.self.view_is)

pub returns-clause-scan : goal.returns-clause-scan
returns-clause-scan c =
    let shape : ShapeRecord = c.args.shape.now in
    let scan = λ (r : RampRecord). scan_of shape c.args.active.bits (values_of (driver_of r) shape c.args.t) c.args.t in
    rw (to_z-of_z w64 c.args.t c.ranges.t) at c.fill_ramp.ensures
    ∙ ap (λ (asks : Asks). scan (record { biases = asks.biases; asked = asks.asked; last = asks.last })) c.count_capture.ensures
    ∙ ap scan c.self.view_is
