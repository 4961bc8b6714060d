-- Where the selected channels stand in a scan, and how long it is. (Kernel: `iio_compute_scan_bytes`.)
use Rattle.std.specs.Prelude.{◌≡◌, ◌<◌, ◌≤◌, ℕ, zero, suc, ◌+◌, max, Bool, true, false, if◌then◌else◌, List, slice_index_or}
use Rattle.std.specs.Int.{next_multiple_of}
use Rattle.iio_mask.specs.Mask.{has}
use Rattle.iio_scan_type.specs.Format.{Format, size_of, stamp_format}
use Rattle.iio_scan_type.specs.declared.Endian.TheVariants.{Little}
use Rattle.iio_layout.specs.Shape.{ShapeRecord, formats_of, count_of}

-- the type of channel c, and its size in bytes
abbrev pub format_at : List Format → ℕ → Format
format_at formats c = slice_index_or formats c (stamp_format Little)

abbrev pub size_at : List Format → ℕ → ℕ
size_at formats c = size_of (format_at formats c)

-- where a channel of this size ends, after one that ends there; one that isn't selected takes no room
abbrev pub end_after : Bool → ℕ → ℕ → ℕ
end_after true end size = next_multiple_of end size + size
end_after false end size = end

-- where the last selected channel before channel c ends, or 0 if there is none
abbrev pub end_below : List Format → ℕ → ℕ → ℕ
end_below formats mask zero = 0
end_below formats mask (suc c) = end_after (has mask c) (end_below formats mask c) (size_at formats c)

-- the size of the largest selected channel before channel c, or 0 if there is none
abbrev pub largest_below : List Format → ℕ → ℕ → ℕ
largest_below formats mask zero = 0
largest_below formats mask (suc c) = max (largest_below formats mask c) (if has mask c then size_at formats c else 0)

-- the place of channel c: the least multiple of its size that isn't below the end of the selected channel before it
abbrev pub place_of : ShapeRecord → ℕ → ℕ → ℕ
place_of shape mask c = next_multiple_of (end_below (formats_of shape) mask c) (size_at (formats_of shape) c)

-- the size of a scan: the least multiple of the largest selected size that isn't below the last end; 0 for the empty
-- mask
abbrev pub scan_size : ShapeRecord → ℕ → ℕ
scan_size shape mask =
    next_multiple_of (end_below (formats_of shape) mask (count_of shape)) (largest_below (formats_of shape) mask (count_of shape))

-- byte j of a scan lies in the selected channel c
abbrev pub Covers : ShapeRecord → ℕ → ℕ → ℕ → Type 0
Covers shape mask c j =
    (c < count_of shape) × (has mask c ≡ true) × (place_of shape mask c ≤ j)
    × (j < place_of shape mask c + size_at (formats_of shape) c)
