-- The scan that a driver holds. Only private functions and an invariant cite this file, no public clause.
use Rattle.std.specs.Prelude.{◌≡◌, ℕ, ◌<◌, true, List, length, map, take, ℤ, IsSome}
use Rattle.iio_mask.specs.Mask.{has}
use Rattle.iio_layout.specs.Layout.{place_of, scan_size}
use Rattle.iio_layout.specs.Scan.{scan_of, values_by}
use Rattle.iio_layout.specs.Shape.{RowsRecord, ShapeRecord, formats_of}
use Rattle.iio_sensor.specs.declared.held.Held.{Held}
use Rattle.iio_sensor.specs.Recorded.{row_before, value_in}

-- a scan is held, and the shape's channels have the types that it was laid out for
pub record IsFor (h : Held) (shape : ShapeRecord) : Type 0 where
  pub some : 0 < h.inputs
  pub inputs : h.inputs ≡ length shape.channels
  pub types : take (length shape.channels) h.types ≡ map (λ channel. channel.ty) shape.channels
  pub stamp : h.stamp ≡ shape.stamp

-- a scan has its moment in it: the shape has a timestamp, and the mask selects it
abbrev pub MomentStands : ShapeRecord → ℕ → Type 0
MomentStands shape mask = IsSome shape.stamp × (has mask (length shape.channels) ≡ true)

-- what is held is the scan of these values at some moment, and the moment's place is known
pub record IsScanOf (h : Held) (shape : ShapeRecord) (value : ℕ → ℕ → ℤ) : Type 0 where
  pub moment : ℤ
  pub bytes : take (scan_size shape h.mask.bits) h.scan ≡ scan_of shape h.mask.bits (values_by shape value) moment
  pub place : MomentStands shape h.mask.bits → h.place ≡ place_of shape h.mask.bits (length shape.channels)

-- for each shape that a scan is held for, it is the scan of the last of the first `come` rows
abbrev pub IsHeld : RowsRecord → List ℤ → Held → Type 0
IsHeld rows biases h = (shape : ShapeRecord) → IsFor h shape → IsScanOf h shape (value_in (row_before rows h.come) biases (formats_of shape))
