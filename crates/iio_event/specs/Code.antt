-- The code of a threshold event, and an event's bytes. (Kernel, linux/iio/events.h: IIO_EVENT_CODE and
-- iio_event_data. The bytes of both numbers are little endian by this project's own choice.)
use Rattle.std.specs.Prelude.{ℕ, ◌+◌, ◌*◌, ◌^◌, List, ◌++◌}
use Rattle.std.specs.Int.{w64, to_le_bytes, cast_unsigned}
use Rattle.iio_layout.specs.declared.channel.Kind.{Kind}
use Rattle.iio_layout.specs.declared.channel.Kind.TheVariants.{Voltage, Current, Accel, Anglvel, Magn, Temp}
use Rattle.iio_layout.specs.declared.channel.Suffix.{Suffix}
use Rattle.iio_layout.specs.declared.channel.Suffix.TheVariants.{Number, X, Y, Z}
use Rattle.iio_event.specs.declared.event.Edge.{Edge}
use Rattle.iio_event.specs.declared.event.Edge.TheVariants.{Rising, Falling}
use Rattle.iio_event.specs.declared.event.EventData.{EventData}

-- the number of a kind (kernel: iio_chan_type)
abbrev pub kind_number : Kind → ℕ
kind_number Voltage = 0
kind_number Current = 1
kind_number Accel = 3
kind_number Anglvel = 4
kind_number Magn = 5
kind_number Temp = 9

-- the number of an axis (kernel: iio_modifier)
abbrev pub modifier_of : Suffix → ℕ
modifier_of X = 1
modifier_of Y = 2
modifier_of Z = 3
modifier_of suffix = 0

-- the number in an ID
abbrev pub channel_number : Suffix → ℕ
channel_number (Number n) = n
channel_number suffix = 0

-- the number of an edge (kernel: iio_event_direction)
abbrev pub direction_of : Edge → ℕ
direction_of Rising = 1
direction_of Falling = 2

-- the code: direction, modifier, kind and channel; the type of a threshold is 0, and the differential flag and the
-- second channel are 0 too
abbrev pub code_of : Kind → Suffix → Edge → ℕ
code_of kind suffix edge = direction_of edge * 2 ^ 48 + modifier_of suffix * 2 ^ 40 + kind_number kind * 2 ^ 32 + channel_number suffix

-- the 16 bytes of an event: its code, and its moment as a signed number
abbrev pub event_bytes : EventData → List ℕ
event_bytes event = to_le_bytes w64 event.code ++ to_le_bytes w64 (cast_unsigned w64 event.t)
