-- The lines that a client prints for scans. (This project's own; the values are those of the kernel's layout and types.)
use Rattle.std.specs.Prelude.{ℕ, zero, suc, ◌*◌, ◌/◌, List, [], ◌∷◌, ◌++◌, length, take, drop, codes}
use Rattle.std.specs.Fmt.{decimal, signed_decimal}
use Rattle.std.specs.List.{flat_map}
use Rattle.hex.specs.Hex.{encode_lower}
use Rattle.iio_mask.specs.Mask.{channels_below}
use Rattle.iio_scan_type.specs.Bytes.{value_at}
use Rattle.iio_scan_type.specs.Format.{Format}
use Rattle.iio_layout.specs.Shape.{ShapeRecord, formats_of, count_of, channel_name}
use Rattle.iio_layout.specs.Layout.{format_at, size_at, place_of, scan_size}

-- the first n elements of a channel's bytes, in decimal, with `,` between
abbrev pub elements_text : Format → List ℕ → ℕ → List ℕ
elements_text f bytes zero = []
elements_text f bytes (suc zero) = signed_decimal (value_at f bytes 0)
elements_text f bytes (suc (suc k)) = elements_text f bytes (suc k) ++ 44 ∷ signed_decimal (value_at f bytes (suc k))

-- the bytes of channel c in a scan
abbrev pub channel_in : ShapeRecord → (mask : ℕ) → (scan : List ℕ) → ℕ → List ℕ
channel_in shape mask scan c = take (size_at (formats_of shape) c) (drop (place_of shape mask c) scan)

-- ` ID=VALUES`
abbrev pub field_text : ShapeRecord → (mask : ℕ) → (scan : List ℕ) → ℕ → List ℕ
field_text shape mask scan c =
    let f = format_at (formats_of shape) c in
    32 ∷ (channel_name shape c ++ 61 ∷ elements_text f (channel_in shape mask scan c) f.repeat)

-- a scan's line: its bytes in hexadecimal, and the selected channels' values
abbrev pub scan_line : ShapeRecord → (mask : ℕ) → (scan : List ℕ) → List ℕ
scan_line shape mask scan = encode_lower scan ++ (flat_map (field_text shape mask scan) (channels_below mask (count_of shape)) ++ 10 ∷ [])

-- the lines of the first n scans in these bytes
abbrev pub lines_below : ShapeRecord → (mask : ℕ) → List ℕ → ℕ → List ℕ
lines_below shape mask body zero = []
lines_below shape mask body (suc k) =
    let size = scan_size shape mask in
    lines_below shape mask body k ++ scan_line shape mask (take size (drop (k * size) body))

-- the lines of all scans in these bytes
abbrev pub scan_lines : ShapeRecord → (mask : ℕ) → List ℕ → List ℕ
scan_lines shape mask body = lines_below shape mask body (length body / scan_size shape mask)

-- what is printed for a refusal by -n
abbrev pub refused_line : ℕ → List ℕ
refused_line n = codes "refused -" ++ (decimal n ++ 10 ∷ [])
