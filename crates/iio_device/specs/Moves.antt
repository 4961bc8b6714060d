-- Lists whose elements change one after another.
use Rattle.std.specs.Prelude.{◌≡◌, ℕ, zero, suc, List, [], ◌∷◌}

module _ {A : Type 0} (R : A → A → Type 0) where
  -- the first `k` elements have changed by `R`, and the others are as they were
  abbrev pub MovedBelow : ℕ → List A → List A → Type 0
  MovedBelow zero first now = now ≡ first
  MovedBelow (suc k) [] now = now ≡ []
  MovedBelow (suc k) (x ∷ xs) [] = ⊥
  MovedBelow (suc k) (x ∷ xs) (y ∷ ys) = R x y × MovedBelow k xs ys
