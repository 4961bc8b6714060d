-- The names of connections, and their places.
use Rattle.std.proofs.Common.{◌≡◌, ℕ, suc, zero, ◌<◌, ◌≤◌, ◌||◌, nat_lt, Bool, true, false, cond, List, [], ◌∷◌, length, map, get_or, Option, Some, None, is_some, refl, sym, ap, ◌∙◌, arith, rules}
use Rattle.std.proofs.lemmas.Grind.{common_steps}
use Rattle.std.specs.List.{list_any, position}
use Rattle.std.specs.Str.{bytes_eq}
use Rattle.std.proofs.lemmas.Bool.Decides.{nat_tests}
use Rattle.std.proofs.lemmas.List.Folds.{list_any_at, list_any_none}
use Rattle.std.proofs.lemmas.List.Quantifiers.{position-Some}
use Rattle.std.proofs.lemmas.List.Sums.{fails_before_first}
use Rattle.iio_core.specs.Front.{Front}
use Rattle.iiod_commands.specs.Seat.{SeatRecord}
use Rattle.iio_history.specs.Script.{is_known, max_names}
use Rattle.iio_history.specs.Told.{Line, Told}
use Rattle.iio_history.specs.Transcript.{line_named}
use Rattle.iio_bench.specs.declared.connection.Connection.{Connection}
use Rattle.iio_system.specs.Standing.{has_room, name_by}
use Rattle.iio_system.specs.System.{AreLines, IsServed}

or_true : (b : Bool) → (b || true) ≡ true
or_true b = search rules

module _ {S : Type 0} (name : List ℕ) where
  abbrev pub is_named : Connection S → Bool
  is_named c = bytes_eq c.name name

  known_as : (cs : List (Connection S)) → is_known (map name_by cs) name ≡ list_any is_named cs
  known_as [] = refl
  known_as (c ∷ cs) = ap (λ (b : Bool). bytes_eq c.name name || b) (known_as cs)

  -- a connection that has a place is known
  pub known_at : (cs : List (Connection S)) (i : ℕ) → position is_named cs ≡ Some i → is_known (map name_by cs) name ≡ true
  known_at [] i is = cc
  known_at (c ∷ cs) i is = let at = position-Some is_named (c ∷ cs) i c is in known_as (c ∷ cs) ∙ list_any_at is_named (c ∷ cs) i c at.0 at.1

  -- there is no connection of that name
  pub none_named : (cs : List (Connection S)) → position is_named cs ≡ None → (i : ℕ) (d : Connection S) → i < length cs → is_named (get_or cs i d) ≡ false
  none_named cs none i d within = search (rules, fails_before_first)

  pub unknown : (cs : List (Connection S)) → position is_named cs ≡ None → is_known (map name_by cs) name ≡ false
  unknown cs none = known_as cs ∙ list_any_none is_named cs (λ i d within. none_named cs none i d within)

  -- the line of the connection at a place
  pub line_at : (seen : S → SeatRecord) (front : Front) (m : Told) (ls : List Line) (cs : List (Connection S)) (i : ℕ) (d : Connection S)
      → AreLines seen front m ls cs
      → i < length cs → is_named (get_or cs i d) ≡ true → ((k : ℕ) → k < i → is_named (get_or cs k d) ≡ false)
      → (l : Line) × (line_named name ls ≡ Some l) × IsServed seen front m l (get_or cs i d).session
  line_at seen front m [] [] i d are within here before = absurd (omega (arith, within))
  line_at seen front m [] (c ∷ cs) i d are within here before = absurd are
  line_at seen front m (l ∷ ls) [] i d are within here before = absurd are
  line_at seen front m (l ∷ ls) (c ∷ cs) zero d are within here before =
      let own : bytes_eq l.user.who name ≡ true = ap (λ (w : List ℕ). bytes_eq w name) (sym are.0.name) ∙ here in
      (l, ap (λ (b : Bool). cond b (Some l) (line_named name ls)) own, are.0.served)
  line_at seen front m (l ∷ ls) (c ∷ cs) (suc i) d are within here before =
      let other : bytes_eq l.user.who name ≡ false = ap (λ (w : List ℕ). bytes_eq w name) (sym are.0.name) ∙ before 0 (omega arith) in
      let rest = line_at seen front m ls cs i d are.1 (omega (arith, within)) here (λ k h. before (suc k) (omega (arith, h))) in
      (rest.0, ap (λ (b : Bool). cond b (Some l) (line_named name ls)) other ∙ rest.1, rest.2)

  -- if no connection has the name, no line has it
  pub no_line : (seen : S → SeatRecord) (front : Front) (m : Told) (ls : List Line) (cs : List (Connection S)) → AreLines seen front m ls cs
      → ((i : ℕ) (d : Connection S) → i < length cs → is_named (get_or cs i d) ≡ false) → line_named name ls ≡ None
  no_line seen front m [] cs are none = refl
  no_line seen front m (l ∷ ls) [] are none = absurd are
  no_line seen front m (l ∷ ls) (c ∷ cs) are none =
      let other : bytes_eq l.user.who name ≡ false = ap (λ (w : List ℕ). bytes_eq w name) (sym are.0.name) ∙ none 0 c (omega arith) in
      ap (λ (b : Bool). cond b (Some l) (line_named name ls)) other ∙ no_line seen front m ls cs are.1 (λ i d within. none (suc i) d (omega (arith, within)))

  -- ---- room

  pub length_names : (cs : List (Connection S)) → length (map name_by cs) ≡ length cs
  length_names [] = refl
  length_names (c ∷ cs) = ap (λ (n : ℕ). suc n) (length_names cs)

  room_by : (cs : List (Connection S)) (b : Bool) → nat_lt (length cs) max_names ≡ b → has_room (map name_by cs) name ≡ is_known (map name_by cs) name || b
  room_by cs b room = grind (arith, common_steps)

  -- while there are few names, there is room for each one
  pub room_short : (cs : List (Connection S)) → length cs < max_names → has_room (map name_by cs) name ≡ true
  room_short cs few = room_by cs true (grind (arith, nat_tests)) ∙ or_true (is_known (map name_by cs) name)

  -- while there are few names, there is room for one that isn't known
  pub room_left : (cs : List (Connection S)) → None ≡ position is_named cs → has_room (map name_by cs) name ≡ nat_lt (length cs) max_names
  room_left cs at = room_by cs (nat_lt (length cs) max_names) refl ∙ ap (λ (b : Bool). b || nat_lt (length cs) max_names) (unknown cs (sym at))

  -- otherwise there is room for those that are known
  pub room_full : (cs : List (Connection S)) (o : Option ℕ) → o ≡ position is_named cs → max_names ≤ length cs → has_room (map name_by cs) name ≡ is_some o
  room_full cs o at full = grind (arith, common_steps, unknown, known_at)
