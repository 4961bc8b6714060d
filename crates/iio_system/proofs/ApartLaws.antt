-- No two connections have the same name.
use Rattle.std.proofs.Common.{◌≡◌, ℕ, zero, suc, ◌<◌, true, List, [], ◌∷◌, ◌++◌, map, length, get_or, Some, None, refl, sym, ap, ◌∙◌, arith}
use Rattle.std.proofs.lemmas.Grind.{common_steps}
use Rattle.std.specs.List.{position}
use Rattle.std.specs.Str.{bytes_eq}
use Rattle.iio_history.proofs.BenchLists.{name_same}
use Rattle.iio_bench.specs.declared.connection.Connection.{Connection}
use Rattle.iio_system.specs.Connections.{AreApart}
use Rattle.iio_system.specs.Standing.{name_by}
use Rattle.iio_bench.proofs.IioLemmas.{position_at}
use Rattle.iio_system.proofs.NameLaws.{is_named, length_names, none_named}

module _ {S : Type 0} where
  name_or : (cs : List (Connection S)) (k : ℕ) (d : Connection S) → get_or (map name_by cs) k d.name ≡ (get_or cs k d).name
  name_or [] k d = refl
  name_or (c ∷ cs) zero d = refl
  name_or (c ∷ cs) (suc k) d = name_or cs k d

  -- connections of the same names
  pub apart_same : (cs cs' : List (Connection S)) → map name_by cs' ≡ map name_by cs → AreApart cs → AreApart cs'
  apart_same cs cs' same apart = λ i k d less within.
      let own = λ (j : ℕ). sym (name_or cs' j d) ∙ ap (λ (ns : List (List ℕ)). get_or ns j d.name) same ∙ name_or cs j d in
      let many : length cs ≡ length cs' = sym (length_names [] cs) ∙ ap (λ (ns : List (List ℕ)). length ns) (sym same) ∙ length_names [] cs' in
      rw (own k, own i) (apart i k d less (omega (arith, within, many)))

  -- another connection, whose name no other has
  pub apart_more : (cs : List (Connection S)) (c : Connection S) (name : List ℕ) → None ≡ position (is_named name) cs → c.name ≡ name → AreApart cs
      → AreApart (cs ++ c ∷ [])
  apart_more cs c name none same apart = grind (arith, common_steps, none_named)

  or_any : (cs : List (Connection S)) (i : ℕ) (a b : Connection S) → i < length cs → get_or cs i a ≡ get_or cs i b
  or_any [] i a b within = absurd (omega (arith, within))
  or_any (c ∷ cs) zero a b within = refl
  or_any (c ∷ cs) (suc i) a b within = or_any cs i a b (omega (arith, within))

  -- if there is a connection of that name at a place, the first of that name is there
  pub apart_place : (cs : List (Connection S)) (i : ℕ) (name : List ℕ) → AreApart cs → i < length cs
      → ((d : Connection S) → bytes_eq (get_or cs i d).name name ≡ true) → Some i ≡ position (is_named name) cs
  apart_place [] i name apart within named = absurd (omega (arith, within))
  apart_place (c ∷ cs) i name apart within named =
      position_at (is_named name) (c ∷ cs) i (get_or (c ∷ cs) i c) within (or_any (c ∷ cs) i c (get_or (c ∷ cs) i c) within) (named c)
      (λ k d less. rw (name_same _ name (named d)) at (apart i k d less within))
