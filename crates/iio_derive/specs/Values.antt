-- The values that stand in a scan of all channels. (Kernel: the layout is that of `iio_compute_scan_bytes`.)
use Rattle.std.specs.Prelude.{ℕ, List, length, take, drop, Option, Some, None, ℤ, pos}
use Rattle.iio_scan_type.specs.declared.Endian.{Endian}
use Rattle.iio_scan_type.specs.Bytes.{value_at}
use Rattle.iio_layout.specs.Layout.{format_at, place_of, size_at}
use Rattle.iio_layout.specs.Scan.{values_by}
use Rattle.iio_layout.specs.Shape.{ShapeRecord, formats_of}
use Rattle.iio_derive.specs.Window.{full_mask}

-- element k of channel c
abbrev pub value_in : ShapeRecord → (scan : List ℕ) → (c k : ℕ) → ℤ
value_in shape scan c k =
    value_at (format_at (formats_of shape) c) (take (size_at (formats_of shape) c) (drop (place_of shape (full_mask shape) c) scan)) k

-- the elements of all data channels, in their order
abbrev pub values_in : ShapeRecord → (scan : List ℕ) → List ℤ
values_in shape scan = values_by shape (value_in shape scan)

-- the moment: the timestamp, which is the last channel; if there is none, no scan has a moment
abbrev pub moment_by : Option Endian → ℤ → ℤ
moment_by None t = pos 0
moment_by (Some endian) t = t

abbrev pub moment_in : ShapeRecord → (scan : List ℕ) → ℤ
moment_in shape scan = moment_by shape.stamp (value_in shape scan (length shape.channels) 0)
