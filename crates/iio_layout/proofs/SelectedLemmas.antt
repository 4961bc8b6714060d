-- What is said of the selected channels, with another channel.
use Rattle.std.proofs.Common.{◌≡◌, ℕ, zero, suc, ◌+◌, Bool, true, false, cond, List, [], ◌∷◌, ◌++◌, ap, ◌∙◌, arith, add-one, rules}
use Rattle.std.proofs.lemmas.List.Elements.{filter-append}
use Rattle.std.proofs.lemmas.Grind.{flat_map-append, common_steps}
use Rattle.std.specs.List.{filter, flat_map, range_with_len}

-- numbers in their order, with another number
pub range_more : (a n : ℕ) → range_with_len a (suc n) ≡ range_with_len a n ++ (a + n) ∷ []
range_more a zero = ap (λ k. k ∷ []) (omega arith)
range_more a (suc n) = search (rules, range_more (a + 1) n)

pub range_next : (n : ℕ) → range_with_len 0 (n + 1) ≡ range_with_len 0 n ++ n ∷ []
range_next n = rw add-one (range_more 0 n ∙ ap (λ k. range_with_len 0 n ++ k ∷ []) (omega arith))

with_step : {A : Type 0} (t : Bool) (f : ℕ → List A) (n : ℕ) → flat_map f (cond t (n ∷ []) []) ≡ cond t (f n) []
with_step t f n = search rules

-- what is said of the selected channels, with that of another channel if it is selected
pub flat_map-selected_more : {A : Type 0} (f : ℕ → List A) (has : ℕ → Bool) (n : ℕ)
    → flat_map f (filter has (range_with_len 0 (n + 1))) ≡ flat_map f (filter has (range_with_len 0 n)) ++ cond (has n) (f n) []
flat_map-selected_more f has n = simp (range_next, filter-append, flat_map-append, with_step)

pub said_selected : (f : ℕ → List ℕ) (has : ℕ → Bool) (n : ℕ) (before out after : List ℕ) → has n ≡ true
    → out ≡ before ++ flat_map f (filter has (range_with_len 0 n)) → after ≡ out ++ f n → after ≡ before ++ flat_map f (filter has (range_with_len 0 (n + 1)))
said_selected f has n before out after is so_far one = grind (arith, common_steps, flat_map-selected_more)

pub said_other : (f : ℕ → List ℕ) (has : ℕ → Bool) (n : ℕ) (before out : List ℕ) → has n ≡ false
    → out ≡ before ++ flat_map f (filter has (range_with_len 0 n)) → out ≡ before ++ flat_map f (filter has (range_with_len 0 (n + 1)))
said_other f has n before out other so_far = search (rules, flat_map-selected_more)
