-- The scan that a driver holds.
use Rattle.std.proofs.Common.{ℕ, ◌≤◌, length, ap, arith, ℤ}
use Rattle.std.proofs.lemmas.List.{length-take}
use Rattle.iio_layout.specs.Laws.{length-scan_of, length-values_by}
use Rattle.iio_layout.specs.Layout.{scan_size}
use Rattle.iio_layout.specs.Scan.{values_by}
use Rattle.iio_layout.specs.Shape.{ShapeRecord}
use Rattle.iio_sensor.specs.declared.held.Held.{Held}
use Rattle.iio_sensor.specs.Held.{IsScanOf}

-- a scan isn't longer than what is held
pub scan_fits : (h : Held) (shape : ShapeRecord) (value : ℕ → ℕ → ℤ) → IsScanOf h shape value → scan_size shape h.mask.bits ≤ length h.scan
scan_fits h shape value is =
    let long = length-scan_of shape h.mask.bits (values_by shape value) is.moment (length-values_by shape value) in
    let part = length-take (scan_size shape h.mask.bits) h.scan in
    let same = ap (λ xs. length xs) is.bytes in
    omega (arith, long, part, same)
