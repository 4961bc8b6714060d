-- What contracts see of an output device's fields, and what always holds of them. Cited by the models alone.
use Rattle.std.specs.Prelude.{◌≡◌, ℕ, ◌*◌, ◌+◌, ◌%◌, ◌^◌, ◌<◌, ◌≤◌, true, List, length, slice_index}
use Rattle.iio_mask.specs.Mask.{has}
use Rattle.iio_kfifo.specs.declared.limits.TheConstants.{MAX_BYTES}
use Rattle.iio_scan_type.specs.Format.{size_of}
use Rattle.iio_layout.specs.Layout.{format_at, place_of, scan_size}
use Rattle.iio_layout.specs.Shape.{ShapeRecord, count_of, formats_of}
use Rattle.iio_output.specs.Out.{WriterRecord}

-- a writer's bytes are whole scans of `size` bytes, in room for `capacity` scans
pub record AreWhole (size capacity room : ℕ) (bytes : List ℕ) : Type 0 where
  pub sized : 1 ≤ size
  pub some : 1 ≤ capacity
  pub fits : capacity * size ≤ MAX_BYTES
  pub roomy : room ≡ capacity * size
  pub whole : length bytes % size ≡ 0
  pub within : length bytes ≤ room

-- where channel c stands in a scan under the mask, with its bytes within it
pub record IsPlace (shape : ShapeRecord) (mask c place : ℕ) : Type 0 where
  pub is : place ≡ place_of shape mask c
  pub within : place + size_of (format_at (formats_of shape) c) ≤ scan_size shape mask

-- the places of the data channels that the mask selects
abbrev pub ArePlaces : ShapeRecord → ℕ → List ℕ → Type 0
ArePlaces shape mask places = (c : ℕ) → c < length shape.channels → has mask c ≡ true → IsPlace shape mask c (slice_index places c)

-- a device's writer writes scans of its shape
pub record IsWriterOf (shape : ShapeRecord) (places : List ℕ) (w : WriterRecord) : Type 0 where
  pub below : w.mask < 2 ^ count_of shape
  pub sized : w.size ≡ scan_size shape w.mask
  pub standing : ArePlaces shape w.mask places
