-- The mask that a sensor is asked under for the channels that its clients want. (Kernel: `iio_scan_mask_match`, and the
-- timestamp of `iio_push_to_buffers_with_timestamp`, which no listed mask names.)
use Rattle.std.specs.Prelude.{ℕ, zero, suc, ◌^◌, ◌&&◌, ◌||◌, Bool, false, if◌then◌else◌, length, Option, is_some, option_map}
use Rattle.iio_mask.specs.Mask.{has, union_of, without_channel, matching_mask}
use Rattle.iio_layout.specs.Shape.{ShapeRecord}

-- whether a mask has one of the channels below a number
abbrev pub has_below : ℕ → ℕ → Bool
has_below mask zero = false
has_below mask (suc c) = has mask c || has_below mask c

-- whether a mask has a data channel
abbrev pub has_data : ShapeRecord → ℕ → Bool
has_data shape mask = has_below mask (length shape.channels)

-- a mask without the timestamp's bit
abbrev pub data_part : ShapeRecord → ℕ → ℕ
data_part shape mask = if is_some shape.stamp then without_channel mask (length shape.channels) else mask

-- a mask, with the timestamp's bit if the wanted one has it
abbrev pub with_stamp : ShapeRecord → ℕ → ℕ → ℕ
with_stamp shape wanted mask =
    if is_some shape.stamp && has wanted (length shape.channels) then union_of mask (2 ^ length shape.channels) else mask

-- the active mask: the first listed mask that contains what is wanted of the data channels, or that itself if none are
-- listed; and the timestamp if it is wanted
abbrev pub active_of : ShapeRecord → ℕ → Option ℕ
active_of shape wanted = option_map (with_stamp shape wanted) (matching_mask shape.listed (data_part shape wanted))
