-- The lines that `layout` prints for a device under a mask. (This project's own; the places and the type's spelling are
-- the kernel's.)
use Rattle.std.specs.Prelude.{ℕ, List, [], ◌∷◌, ◌++◌, codes}
use Rattle.std.specs.Fmt.{decimal}
use Rattle.std.specs.List.{flat_map}
use Rattle.iio_mask.specs.Mask.{channels_below}
use Rattle.iio_scan_type.specs.Text.{type_text}
use Rattle.iio_layout.specs.Shape.{ShapeRecord, formats_of, count_of, channel_name}
use Rattle.iio_layout.specs.Layout.{format_at, size_at, place_of, scan_size}

-- `ID PLACE SIZE TYPE`
abbrev pub channel_line : ShapeRecord → ℕ → ℕ → List ℕ
channel_line shape mask c =
    channel_name shape c
    ++ (32 ∷ (decimal (place_of shape mask c)
    ++ (32 ∷ (decimal (size_at (formats_of shape) c) ++ (32 ∷ (type_text (format_at (formats_of shape) c) ++ 10 ∷ []))))))

-- `scan SIZE`
abbrev pub scan_line : ShapeRecord → ℕ → List ℕ
scan_line shape mask = codes "scan " ++ (decimal (scan_size shape mask) ++ 10 ∷ [])

-- a line for each selected channel, and then the scan's line
abbrev pub layout_text : ShapeRecord → ℕ → List ℕ
layout_text shape mask = flat_map (channel_line shape mask) (channels_below mask (count_of shape)) ++ scan_line shape mask
