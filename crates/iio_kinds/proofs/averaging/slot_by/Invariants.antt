use Rattle.std.proofs.Common.{◌≡◌, drop}
use Rattle.iio_kinds.specs.Seated.{slot_by}
use Rattle.iio_kinds.proofs.averaging.slot_by.Given as goal

abbrev pub invariant-loop-seat : goal.invariant-loop-seat
invariant-loop-seat l = slot_by l.number (drop l.seat-index l.seats) ≡ slot_by l.number l.seats
