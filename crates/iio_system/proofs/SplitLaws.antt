-- A connection that is fed at its place, between those before it and those after it.
use Rattle.std.proofs.Common.{◌≡◌, ℕ, List, [], ◌∷◌, ◌++◌, drop, length, map, get_or, set, take, Some, Result, OnOk, refl, sym, ap, ◌∙◌, subst, arith, rules}
use Rattle.std.proofs.lemmas.Grind.{common_steps}
use Rattle.std.specs.List.{position}
use Rattle.std.proofs.lemmas.List.Elements.{All-set}
use Rattle.std.proofs.lemmas.List.Quantifiers.{position-Some}
use Rattle.iio_base.specs.declared.Mem.{Mem}
use Rattle.iio_core.specs.Front.{Front}
use Rattle.iio_sensor.specs.Driver.{Driver}
use Rattle.iio_device.specs.declared.plug.Plug.{Plug}
use Rattle.iio_history.specs.Transcript.{Feed}
use Rattle.iio_history.proofs.BenchLists.{name_same}
use Rattle.iio_bench.specs.declared.bench.Bench.{Bench}
use Rattle.iio_bench.specs.declared.connection.Connection.{Connection}
use Rattle.iio_kinds.specs.declared.seat.Seat.{Seat}
use Rattle.iio_bench.specs.Bench.{front_of, kept_of}
use Rattle.iio_system.specs.Connections.{AreOwning}
use Rattle.iio_bench.specs.Feeding.{Feeds, IsOwning, feed_state}
use Rattle.iio_bench.specs.Seat.{seen_of}
use Rattle.iio_system.specs.Standing.{MakesFeed, name_by, names_with, step_state}
use Rattle.iio_system.proofs.NameLaws.{is_named}
use Rattle.iio_system.proofs.PlayLaws.{feeds_there, names_there}

-- it is between these, at the place of that name
pub record StandsAt (name : List ℕ) (cs before : List (Connection Seat)) (c : Connection Seat) (after : List (Connection Seat)) : Type 0 where
  pub parts : cs ≡ before ++ c ∷ after
  pub place : Some (length before) ≡ position (is_named name) cs

pub stands_at : (name : List ℕ) (cs before rest : List (Connection Seat)) (c : Connection Seat) (after : List (Connection Seat)) (i : ℕ) → cs ≡ before ++ rest
    → rest ≡ c ∷ after → length before ≡ i
    → Some i ≡ position (is_named name) cs → StandsAt name cs before c after
stands_at name cs before rest c after i two one many place = search rules

there_or : (before : List (Connection Seat)) (c : Connection Seat) (after : List (Connection Seat)) → c ≡ get_or (before ++ c ∷ after) (length before) c
there_or [] c after = refl
there_or (d ∷ before) c after = there_or before c after

set_there : (before : List (Connection Seat)) (c c' : Connection Seat) (after : List (Connection Seat))
    → set (before ++ c ∷ after) (length before) c' ≡ before ++ c' ∷ after
set_there [] c c' after = refl
set_there (d ∷ before) c c' after = ap (λ (cs : List (Connection Seat)). d ∷ cs) (set_there before c c' after)

module _ (name : List ℕ) (cs before : List (Connection Seat)) (c : Connection Seat) (after : List (Connection Seat))
    (at : StandsAt name cs before c after) where
  pub there : c ≡ get_or cs (length before) c
  there = there_or before c after ∙ ap (λ (ds : List (Connection Seat)). get_or ds (length before) c) (sym at.parts)

  pub put : (c' : Connection Seat) → set cs (length before) c' ≡ before ++ c' ∷ after
  put c' = ap (λ (ds : List (Connection Seat)). set ds (length before) c') at.parts ∙ set_there before c c' after

  -- the list of a vector of that length that was written there
  pub written : (n : ℕ) (c' : Connection Seat) → length cs ≡ n
      → take n ((before ++ c' ∷ after) ++ drop (length (before ++ c' ∷ after)) cs) ≡ before ++ c' ∷ after
  written n c' many = grind (arith, common_steps)

  -- it has that name
  pub named_there : c.name ≡ name
  named_there =
      name_same c.name name (ap (λ (e : Connection Seat). is_named name e) there ∙ (position-Some (is_named name) cs (length before) c (sym at.place)).1)

  pub names_between : (c' : Connection Seat) (cs' : List (Connection Seat)) (bytes : List ℕ) → cs' ≡ before ++ c' ∷ after → c'.name ≡ c.name
      → map name_by cs' ≡ names_with (map name_by cs) (Feed name bytes)
  names_between c' cs' bytes is same =
      ap (λ (ds : List (Connection Seat)). map name_by ds) (is ∙ sym (put c')) ∙ names_there cs (length before) c c' name bytes at.place there same

  pub kept_between : (c' : Connection Seat) (cs' : List (Connection Seat)) → cs' ≡ before ++ c' ∷ after → c'.name ≡ c.name → map name_by cs' ≡ map name_by cs
  kept_between c' cs' is same = grind (arith, common_steps)

  pub owned_between : (front front' : Front) (c' : Connection Seat) (cs' : List (Connection Seat)) → cs' ≡ before ++ c' ∷ after → front' ≡ front
      → AreOwning seen_of front cs → IsOwning seen_of front' c'.session
      → AreOwning seen_of front' cs'
  owned_between front front' c' cs' is same owned own =
      subst (λ (ds : List (Connection Seat)). AreOwning seen_of front' ds) (put c' ∙ sym is)
      (All-set (λ (e : Connection Seat). IsOwning seen_of front' e.session) cs (length before) c' own
      (subst (λ (f : Front). AreOwning seen_of f cs) (sym same) owned))

  pub feeds_between : {X : Type 0} {V : X → Type 0} {A : Type 0} (driver : Plug X V → Driver) (b b' : Bench X V) (c' : Connection Seat)
      (cs' : List (Connection Seat)) (bytes text text' : List ℕ) (r : Result A Mem)
      → cs' ≡ before ++ c' ∷ after → c'.name ≡ c.name → kept_of b' ≡ kept_of b → IsOwning seen_of (front_of b') c'.session
      → OnOk r (Feeds seen_of bytes (feed_state driver b c text) (feed_state driver b' c' text'))
      → OnOk r (MakesFeed driver name bytes (step_state b cs text) (step_state b' cs' text'))
  feeds_between driver b b' c' cs' bytes text text' r is same kept owns fed =
      subst (λ (ds : List (Connection Seat)). OnOk r (MakesFeed driver name bytes (step_state b cs text) (step_state b' ds text'))) (put c' ∙ sym is)
      (feeds_there driver b b' cs (length before) c c' name bytes text text' r at.place there same kept owns fed)
