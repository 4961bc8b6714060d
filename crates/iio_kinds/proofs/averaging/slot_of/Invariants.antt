use Rattle.std.proofs.Common.{◌≡◌, drop}
use Rattle.iio_kinds.specs.Acting.{id_of}
use Rattle.iio_kinds.specs.Seated.{slot_at}
use Rattle.iio_kinds.proofs.averaging.slot_of.Given as goal

abbrev pub invariant-loop-seat : goal.invariant-loop-seat
invariant-loop-seat l = slot_at (id_of l.number l.mask) (drop l.seat-index l.seats) ≡ slot_at (id_of l.number l.mask) l.seats
