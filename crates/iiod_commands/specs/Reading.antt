-- What a READBUF makes of its seat, and the block that it appends.
use Rattle.std.specs.Prelude.{◌≡◌, ◌⊎◌, ℕ, ◌/◌, ◌<◌, ◌≤◌, min, not, Bool, true, false, List, [], ◌++◌, length, take, drop, Option, Some, option_map, IfSome, Result, Ok, Err}
use Rattle.iio_base.specs.declared.Mem.{Mem}
use Rattle.iiod_reply.specs.Reply.{block_text, joined_scans}
use Rattle.iiod_commands.specs.declared.iio.Took.{Took}
use Rattle.iiod_commands.specs.declared.iio.Took.TheVariants.{Scan, Empty, Gone}
use Rattle.iio_core.specs.Front.{Front, channel_count, size_at}
use Rattle.iio_core.specs.Machine.{Machine, MemberId, is_plugged, queue_of, with_queue}
use Rattle.iiod_commands.specs.Seat.{SeatRecord, Trace, seat_id, after_scans, after_nothing}

-- the most scans that a READBUF of `asked` bytes may take: those asked for, at most as many as the queue holds
abbrev pub most_scans : (asked size capacity : ℕ) → ℕ
most_scans asked size capacity = min (asked / size) capacity

-- the scans of a seat that one READBUF takes: as many as it may, or fewer and then a take that found nothing
pub record Reads (want : ℕ) (scans : List (List ℕ)) (trace trace' : Option Trace) : Type 0 where
  pub some : 0 < length scans
  pub most : length scans ≤ want
  pub grown : ((length scans ≡ want) × (trace' ≡ option_map (after_scans scans) trace))
      ⊎ ((gone : Bool) × (trace' ≡ option_map (after_nothing gone) (option_map (after_scans scans) trace)))

-- these scans were read
pub record ReadSome (dev want : ℕ) (told told' : Option Machine) (s s' : SeatRecord) (scans : List (List ℕ)) : Type 0 where
  pub reads : Reads want scans s.trace s'.trace
  pub same : s' ≡ record s { trace = s'.trace }
  pub from : IfSome told (λ m. (take want (queue_of m dev (seat_id s)) ≡ scans)
      × (told' ≡ Some (with_queue m dev (seat_id s) scans (drop want (queue_of m dev (seat_id s))))))

-- a take found nothing, at a device that is plugged or not
abbrev pub FoundNothing : ℕ → MemberId → Bool → Option Machine → Option Machine → Type 0
FoundNothing dev id plugged told told' = IfSome told (λ m. (queue_of m dev id ≡ []) × (is_plugged m dev ≡ plugged) × (told' ≡ Some m))

-- the first take found nothing
pub record ReadNone (dev : ℕ) (gone : Bool) (told told' : Option Machine) (s s' : SeatRecord) : Type 0 where
  pub same : s' ≡ record s { trace = option_map (after_nothing gone) s.trace }
  pub from : FoundNothing dev (seat_id s) (not gone) told told'

-- what a READBUF changes: the devices, if they tell their state, the seat, and the bytes so far
pub record Reading : Type 0 where
  pub told : Option Machine
  pub seat : SeatRecord
  pub out : List ℕ

abbrev pub reading : Option Machine → SeatRecord → List ℕ → Reading
reading told seat out = record { told = told; seat = seat; out = out }

-- at most `most` scans were taken, and this text of them was appended; or the first take found nothing
abbrev pub TakesAs : (text : List (List ℕ) → List ℕ) → (dev most : ℕ) → Reading → Reading → Took → Type 0
TakesAs text dev most x y Scan = (scans : List (List ℕ)) × (y.out ≡ x.out ++ text scans) × ReadSome dev most x.told y.told x.seat y.seat scans
TakesAs text dev most x y Empty = (y.out ≡ x.out) × ReadNone dev false x.told y.told x.seat y.seat
TakesAs text dev most x y Gone = (y.out ≡ x.out) × ReadNone dev true x.told y.told x.seat y.seat

-- ... their bytes
abbrev pub TakesScans : (dev most : ℕ) → Reading → Reading → Took → Type 0
TakesScans dev most x y took = TakesAs joined_scans dev most x y took

-- ... a block of them
abbrev pub block_of : (channels mask asked : ℕ) → List (List ℕ) → List ℕ
block_of channels mask asked scans = block_text channels mask (joined_scans scans) asked

-- a READBUF of `asked` bytes for at least one scan: the block of the scans that its takes gave, or the answer of the first
-- take. If memory ran out, no take was made
abbrev pub ReadEnds : Front → (dev asked : ℕ) → Reading → Reading → Result Took Mem → Type 0
ReadEnds front dev asked x y (Ok took) =
    TakesAs (block_of (channel_count front dev) x.seat.mask asked) dev (most_scans asked (size_at front dev x.seat.mask) x.seat.capacity) x y took
ReadEnds front dev asked x y (Err mem) = (y.out ≡ x.out) × (y.told ≡ x.told) × (y.seat ≡ x.seat)
