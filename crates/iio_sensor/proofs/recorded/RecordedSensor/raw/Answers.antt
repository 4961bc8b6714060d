use Rattle.std.proofs.Common.{◌≡◌, ℤ, List, FitsSigned, w64, rules, ap, ◌∙◌}
use Rattle.std.proofs.lemmas.Int.{to_z-of_z}
use Rattle.iio_layout.specs.Shape.{RowsRecord, ShapeRecord, formats_of}
use Rattle.iio_sensor.specs.declared.asks.Asks.{Asks}
use Rattle.iio_sensor.specs.declared.recorded.Recorded.TheInside.{Inside}
use Rattle.iio_sensor.specs.Driver.{value_of}
use Rattle.iio_sensor.specs.Recorded.{RecordedRecord, come_by, driver_of, row_at, row_before, value_in}
use Rattle.iio_sensor.proofs.recorded.RecordedSensor.raw.Goals as goal

pub returns-clause-value : goal.returns-clause-value
returns-clause-value c =
    let shape : ShapeRecord = c.args.shape.now in
    let rows : RowsRecord = c.self.inside.rows in
    let fits : FitsSigned w64 c.row_value.result = search rules in
    let come : c.come_near-self-inside-inside.result ≡ come_by rows.moments c.args.t =
    (rw (to_z-of_z w64 c.args.t c.ranges.t) at c.come_near-self-inside-inside.ensures.value)
    ∙ ap (λ (xs : List ℤ). come_by xs c.args.t) (c.deref.ensures.value ∙ ap (λ (i : Inside). i.rows.moments) c.self-inside.view_is) in
    let row : c.row_before-row.result.now ≡ row_at rows c.args.t =
    c.row_before-row.ensures ∙ ap (λ (i : Inside). row_before i.rows c.come_near-self-inside-inside.result) c.self-inside.view_is ∙ ap (row_before rows) come in
    to_z-of_z w64 c.row_value.result fits ∙ c.row_value.ensures
    ∙ ap (λ (row : List ℤ). value_in row c.count.new.self.biases (formats_of shape) c.args.c 0) row
    ∙ ap (λ (asks : Asks). value_in (row_at rows c.args.t) asks.biases (formats_of shape) c.args.c 0) c.count.ensures
    ∙ ap (λ (i : Inside). value_in (row_at rows c.args.t) i.asks.biases (formats_of shape) c.args.c 0) c.self-inside.view_is
    ∙ ap (λ (r : RecordedRecord). value_of (driver_of r) shape c.args.t c.args.c 0) c.self.view_is
