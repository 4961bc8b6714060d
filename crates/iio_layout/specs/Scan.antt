-- The bytes of a scan: the capture of all values of a device at a moment, under a mask. (Kernel: the layout is that
-- of `iio_compute_scan_bytes`; that padding is zero bytes is this project's own.)
use Rattle.std.specs.Prelude.{ℕ, zero, suc, ◌-◌, Bool, true, false, List, [], ◌∷◌, ◌++◌, length, take, drop, replicate, sum_by, ℤ}
use Rattle.std.specs.Int.{next_multiple_of}
use Rattle.iio_mask.specs.Mask.{has}
use Rattle.iio_scan_type.specs.Format.{Format}
use Rattle.iio_scan_type.specs.Bytes.{channel_bytes}
use Rattle.iio_layout.specs.Shape.{ShapeRecord, formats_of, count_of}
use Rattle.iio_layout.specs.Layout.{format_at, size_at, largest_below}

-- how many values the channels before channel c have
abbrev pub first_value : List Format → ℕ → ℕ
first_value formats c = sum_by (λ f. f.repeat) (take c formats)

-- the values of channel c, among those of all channels in order
abbrev pub values_at : List Format → List ℤ → ℕ → List ℤ
values_at formats values c = take (format_at formats c).repeat (drop (first_value formats c) values)

-- the bytes of channel c
abbrev pub field_at : List Format → List ℤ → ℕ → List ℕ
field_at formats values c = channel_bytes (format_at formats c) (values_at formats values c)

-- bytes, and zero bytes up to a multiple of a size
abbrev pub padded : List ℕ → ℕ → List ℕ
padded bytes size = bytes ++ replicate (next_multiple_of (length bytes) size - length bytes) 0

-- a channel appended to what stands before it: at a multiple of its size; one that isn't selected adds no bytes
abbrev pub with_field : Bool → List ℕ → ℕ → List ℕ → List ℕ
with_field true front size field = padded front size ++ field
with_field false front size field = front

-- the selected channels before channel c
abbrev pub front_below : List Format → ℕ → List ℤ → ℕ → List ℕ
front_below formats mask values zero = []
front_below formats mask values (suc c) =
    with_field (has mask c) (front_below formats mask values c) (size_at formats c) (field_at formats values c)

-- the values of a capture in the order of the channels: the moment is the timestamp's one value, and stands last
abbrev pub capture_values : List ℤ → ℤ → List ℤ
capture_values values t = values ++ t ∷ []

-- the elements of a channel before element k, where `value k` is element k
abbrev pub elements_below : (ℕ → ℤ) → ℕ → List ℤ
elements_below value zero = []
elements_below value (suc k) = elements_below value k ++ value k ∷ []

-- the elements of the channels before channel c, where `value c k` is element k of channel c
abbrev pub values_below : List Format → (ℕ → ℕ → ℤ) → ℕ → List ℤ
values_below formats value zero = []
values_below formats value (suc c) = values_below formats value c ++ elements_below (value c) (format_at formats c).repeat

-- the elements of all data channels, in their order
abbrev pub values_by : ShapeRecord → (ℕ → ℕ → ℤ) → List ℤ
values_by shape value = values_below (formats_of shape) value (length shape.channels)

-- the scan under a mask of these values and this moment
abbrev pub scan_of : ShapeRecord → ℕ → List ℤ → ℤ → List ℕ
scan_of shape mask values t =
    padded (front_below (formats_of shape) mask (capture_values values t) (count_of shape))
    (largest_below (formats_of shape) mask (count_of shape))

-- the bytes of channel c of a capture; the timestamp's are those of the moment
abbrev pub field_of : ShapeRecord → List ℤ → ℤ → ℕ → List ℕ
field_of shape values t c = field_at (formats_of shape) (capture_values values t) c
