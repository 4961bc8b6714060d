-- A seat at a bench as an `Iio` tells it: it has no trace.
use Rattle.std.specs.Prelude.{None}
use Rattle.iiod_commands.specs.Seat.{SeatRecord}
use Rattle.iio_kinds.specs.declared.seat.Seat.{Seat}

abbrev pub seen_of : Seat → SeatRecord
seen_of s = record { number = s.number; mask = s.mask.bits; size = s.size; capacity = s.capacity; trace = None }
