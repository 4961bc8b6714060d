use Rattle.std.proofs.Common.{◌≡◌, ℕ, ℤ, List, refl, ap, ◌∙◌, arith}
use Rattle.std.proofs.lemmas.Grind.{common_steps, elements}
use Rattle.std.specs.Int.{w64}
use Rattle.std.proofs.lemmas.Int.{to_z-of_z}
use Rattle.iio_mask.specs.declared.Mask.{Mask}
use Rattle.iio_layout.specs.Scan.{scan_of, values_by}
use Rattle.iio_layout.specs.Shape.{RowsRecord, ShapeRecord, formats_of}
use Rattle.iio_sensor.specs.declared.asks.Asks.{Asks}
use Rattle.iio_sensor.specs.declared.held.Held.{Held}
use Rattle.iio_sensor.specs.declared.recorded.Recorded.TheInside.{Inside}
use Rattle.iio_sensor.specs.Driver.{values_of}
use Rattle.iio_sensor.specs.Held.{IsScanOf}
use Rattle.iio_sensor.specs.Recorded.{RecordedRecord, come_by, driver_of, row_at, row_before, value_in}
use Rattle.iio_sensor.proofs.recorded.RecordedSensor.capture.Goals as goal

pub returns-clause-scan : goal.returns-clause-scan
returns-clause-scan c =
    let shape : ShapeRecord = c.args.shape.now in
    let rows : RowsRecord = c.self.inside.rows in
    let scan = λ (row biases : List ℤ). scan_of shape c.args.active.bits (values_by shape (value_in row biases (formats_of shape))) c.args.t in
    let come : c.come_near-self-inside-inside.result ≡ come_by rows.moments c.args.t =
    (rw (to_z-of_z w64 c.args.t c.ranges.t) at c.come_near-self-inside-inside.ensures.value)
    ∙ ap (λ (xs : List ℤ). come_by xs c.args.t) (c.deref.ensures.value ∙ ap (λ (i : Inside). i.rows.moments) c.self-inside.view_is) in
    let row : c.row_before-row.result.now ≡ row_at rows c.args.t =
    c.row_before-row.ensures ∙ ap (λ (i : Inside). row_before i.rows c.come_near-self-inside-inside.result) c.self-inside.view_is ∙ ap (row_before rows) come in
    (rw (to_z-of_z w64 c.args.t c.ranges.t) at c.fill_row.ensures)
    ∙ ap (λ (row : List ℤ). scan row c.count_capture.new.self.biases) row
    ∙ ap (λ (asks : Asks). scan (row_at rows c.args.t) asks.biases) c.count_capture.ensures
    ∙ ap (λ (i : Inside). scan (row_at rows c.args.t) i.asks.biases) c.self-inside.view_is
    ∙ ap (λ (r : RecordedRecord). scan_of shape c.args.active.bits (values_of (driver_of r) shape c.args.t) c.args.t) c.self.view_is

pub returns-then-is_for-clause-scan : goal.returns-then-is_for-clause-scan
returns-then-is_for-clause-scan c =
    let shape : ShapeRecord = c.args.shape.now in
    let rows : RowsRecord = c.self.inside.rows in
    let biases : List ℤ = c.self.inside.asks.biases in
    let held : Held = c.self.inside.held in
    let inside = ap (λ (i : Inside). i.held) c.self-inside.view_is in
    let mask : held.mask ≡ c.args.active = rw inside at (c.if-is_for.ensures.mask refl) in
    let before : held.come ≡ c.come_near-self-inside-inside.result = rw inside at (c.if-is_for.ensures.come refl) in
    let is = c.self.invariant.held shape (rw inside at (c.if-is_for.ensures.shape refl)) in
    let gives : (value : ℕ → ℕ → ℤ) → IsScanOf held shape value → c.give.new.out ≡ scan_of shape held.mask.bits (values_by shape value) c.args.t =
    rw (to_z-of_z w64 c.args.t c.ranges.t, inside) at c.give.ensures in
    let come : c.come_near-self-inside-inside.result ≡ come_by rows.moments c.args.t =
    (rw (to_z-of_z w64 c.args.t c.ranges.t) at c.come_near-self-inside-inside.ensures.value)
    ∙ ap (λ (xs : List ℤ). come_by xs c.args.t) (c.deref.ensures.value ∙ ap (λ (i : Inside). i.rows.moments) c.self-inside.view_is) in
    let scan = λ (bits n : ℕ). scan_of shape bits (values_by shape (value_in (row_before rows n) biases (formats_of shape))) c.args.t in
    gives (value_in (row_before rows held.come) biases (formats_of shape)) is
    ∙ ap (λ (m : Mask). scan m.bits held.come) mask
    ∙ ap (scan c.args.active.bits) (before ∙ come)
    ∙ ap (λ (r : RecordedRecord). scan_of shape c.args.active.bits (values_of (driver_of r) shape c.args.t) c.args.t) c.self.view_is

pub returns-then-is_for-clause-asked : goal.returns-then-is_for-clause-asked
returns-then-is_for-clause-asked c = grind (arith, common_steps)

pub returns-clause-asked : goal.returns-clause-asked
returns-clause-asked c = grind (arith, elements)
