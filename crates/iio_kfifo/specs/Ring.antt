-- A ring of slots, each with room for one scan. Cited by the model of this crate's queue and its private functions alone.
use Rattle.std.specs.Prelude.{ℕ, zero, suc, ◌+◌, ◌-◌, ◌*◌, ◌≤◌, ◌<◌, nat_lt, min, List, ◌++◌, drop, if◌then◌else◌}

-- the slot that comes `count` slots after `slot`, in a ring of `slots` slots
abbrev pub slot_after : (slot count slots : ℕ) → ℕ
slot_after slot count slots = if nat_lt (slot + count) slots then slot + count else slot + count - slots

-- the first scan's slot once `count` scans were taken, by how many are left; with none left the ring begins at its first slot
-- again
abbrev pub first_after : (first count left slots : ℕ) → ℕ
first_after first count zero slots = 0
first_after first count (suc left) slots = slot_after first count slots

-- the bytes of a ring from that byte on: those up to its end, and then those from its start
abbrev pub bytes_from : ℕ → List ℕ → List ℕ
bytes_from start bytes = drop start bytes ++ bytes

-- `waiting` slots from the first on hold scans. Of the ring's bytes the first `length` were written, and there is memory for
-- `room`
pub record IsRing (first waiting size slots length room : ℕ) : Type 0 where
  pub begins : first < slots
  pub most : waiting ≤ slots
  pub written : min (first + waiting) slots * size ≤ length
  pub within : length ≤ slots * size
  pub enough : slots * size ≤ room
