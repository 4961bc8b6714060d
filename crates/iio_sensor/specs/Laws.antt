-- A law of drivers, for proofs alone: no public clause cites this file.
use Rattle.std.specs.Prelude.{◌≡◌, length, ℤ}
use Rattle.iio_layout.specs.Laws.{length-values_by}
use Rattle.iio_layout.specs.Shape.{ShapeRecord, width_of}
use Rattle.iio_sensor.specs.Driver.{Driver, value_of, values_of}

-- the number of values that a driver gives is the shape's width
pub length-values_of : (d : Driver) (shape : ShapeRecord) (t : ℤ) → length (values_of d shape t) ≡ width_of shape
length-values_of d shape t = length-values_by shape (value_of d shape t)
