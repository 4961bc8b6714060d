-- What a seat of the shelf records, and what the shelf gives it.
use Rattle.std.specs.Prelude.{◌≡◌, ℕ, Bool, true, false, List, [], ◌∷◌, ◌++◌, length, map, Some, option_map}
use Rattle.iiod_commands.specs.Seat.{SeatRecord, after_scans}
use Rattle.iiod_session_tests.specs.declared.shelf.ShelfSeat.{ShelfSeat}

abbrev pub seen_of : ShelfSeat → SeatRecord
seen_of s = record {
  number = 0;
  mask = s.mask.bits;
  size = s.size;
  capacity = s.capacity;
  trace = Some (record { given = map (λ v. v.items) s.given.items; empties = s.empties; gone = false });
}

-- a scan was given, and its bytes appended; or nothing changed
abbrev pub Gives : Bool → (old new : SeatRecord) → (before after : List ℕ) → Type 0
Gives true old new before after =
    (scan : List ℕ) × (length scan ≡ old.size) × (new ≡ record old { trace = option_map (after_scans (scan ∷ [])) old.trace }) × (after ≡ before ++ scan)
Gives false old new before after = (new ≡ old) × (after ≡ before)
