use Rattle.std.proofs.Common.{ℕ, ◌-◌, ◌*◌, ◌<◌, List, ℤ, take, drop, rules, ◌∙◌, ap}
use Rattle.iio_layout.specs.Shape.{RowsRecord}
use Rattle.iio_sensor.proofs.Rows.{row_part}
use Rattle.iio_sensor.proofs.recorded.row_before.Goals as goal

pub returns : goal.returns
returns c =
    let n : ℕ = c.args.count in
    let some : 0 < n = search (rules, c.if-count-eq0.false) in
    ap (λ (xs : List ℤ). take (n * c.rows.inside.width - (n - 1) * c.rows.inside.width) (drop ((n - 1) * c.rows.inside.width) xs)) c.deref.ensures.value
    ∙ ap (λ (r : RowsRecord). take (n * r.width - (n - 1) * r.width) (drop ((n - 1) * r.width) r.values)) c.rows.view_is
    ∙ row_part c.args.rows.now n some
