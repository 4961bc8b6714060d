-- The law that a scan of all channels gives back what it was laid out of. (This project's own.)
use Rattle.std.specs.Prelude.{◌≡◌, ℕ, ◌<◌, List, length, All, Some, ℤ}
use Rattle.iio_scan_type.specs.declared.Endian.{Endian}
use Rattle.iio_scan_type.specs.Format.{IsInProfile, IsInRange, stamp_format}
use Rattle.iio_layout.specs.Layout.{format_at}
use Rattle.iio_layout.specs.Scan.{scan_of, values_at}
use Rattle.iio_layout.specs.Shape.{ShapeRecord, formats_of, width_of}
use Rattle.iio_derive.specs.Values.{moment_in, values_in}
use Rattle.iio_derive.specs.Window.{full_mask}

-- a capture's values: one for each element of each data channel, each in the range of its channel's type
pub record IsCapture (shape : ShapeRecord) (values : List ℤ) : Type 0 where
  pub types : All (λ channel. IsInProfile channel.ty) shape.channels
  pub width : length values ≡ width_of shape
  pub ranges : (c : ℕ) → c < length shape.channels → All (λ v. IsInRange (format_at (formats_of shape) c) v) (values_at (formats_of shape) values c)

-- the values, and, if there is a timestamp, the moment
pub record ReadsBack (shape : ShapeRecord) (captured : List ℤ) (t : ℤ) : Type 0 where
  pub values : values_in shape (scan_of shape (full_mask shape) captured t) ≡ captured
  pub moment : (endian : Endian) → shape.stamp ≡ Some endian → IsInRange (stamp_format endian) t
      → moment_in shape (scan_of shape (full_mask shape) captured t) ≡ t

-- what reading a scan of all channels gives back, for every shape, capture and moment
abbrev pub ReadingLaw : Type 0
ReadingLaw = (shape : ShapeRecord) (values : List ℤ) (t : ℤ) → IsCapture shape values → ReadsBack shape values t
