-- The scans that a writer of an output device writes, and those that the device is given. (This project's own.)
use Rattle.std.specs.Prelude.{ℕ, zero, suc, ◌+◌, ◌-◌, ◌^◌, ◌/◌, ◌%◌, ◌==◌, ◌&&◌, ◌||◌, not, nat_lt, min, Bool, true, false, List, [], ◌∷◌, ◌++◌, take, drop, length, if◌then◌else◌}

abbrev pub is_none_left : {A : Type 0} → List A → Bool
is_none_left [] = true
is_none_left (x ∷ xs) = false

-- ---- payloads

-- the first scans of that size in some bytes
abbrev pub scans_in : ℕ → (size : ℕ) → List ℕ → List (List ℕ)
scans_in zero size bytes = []
scans_in (suc n) size bytes = take size bytes ∷ scans_in n size (drop size bytes)

-- the scans of a payload
abbrev pub scans_of : (size : ℕ) → List ℕ → List (List ℕ)
scans_of size bytes = scans_in (length bytes / size) size bytes

-- whether a payload isn't whole scans, or, for a cyclic writer, not a number of scans that can be its cycle
abbrev pub is_bad_size : (cyclic : Bool) → (capacity size bytes : ℕ) → Bool
is_bad_size cyclic capacity size bytes = not (bytes % size == 0) || cyclic && (bytes == 0 || nat_lt capacity (bytes / size))

-- ---- writing

-- whether a cyclic writer has written its cycle
abbrev pub is_standing : (cyclic : Bool) → List (List ℕ) → Bool
is_standing cyclic waiting = cyclic && not (is_none_left waiting)

-- whether a writer that isn't cyclic has no room for what it is offered
abbrev pub is_full : (cyclic : Bool) → (capacity : ℕ) → (waiting scans : List (List ℕ)) → Bool
is_full cyclic capacity waiting scans = not cyclic && not (is_none_left scans) && not (nat_lt (length waiting) capacity)

-- the number of scans for which there is room: a cyclic writer writes once
abbrev pub room_of : (cyclic : Bool) → (capacity : ℕ) → List (List ℕ) → ℕ
room_of true capacity [] = capacity
room_of true capacity (x ∷ xs) = 0
room_of false capacity waiting = capacity - length waiting

-- the scans of a payload that are taken: the first ones that fit
abbrev pub taken_of : (cyclic : Bool) → (capacity : ℕ) → (waiting scans : List (List ℕ)) → List (List ℕ)
taken_of cyclic capacity waiting scans = take (room_of cyclic capacity waiting) scans

-- ---- giving

-- the scans that wait after the device was given the first one; a cyclic writer's first one waits again, after the others
abbrev pub after_given : (cyclic : Bool) → List (List ℕ) → List (List ℕ)
after_given cyclic [] = []
after_given cyclic (x ∷ xs) = if cyclic then xs ++ x ∷ [] else xs

-- the count of underruns after an entry, by the scans that waited before it
abbrev pub underruns_after : List (List ℕ) → ℕ → ℕ
underruns_after [] n = min (n + 1) (2 ^ 64 - 1)
underruns_after (x ∷ xs) n = n
