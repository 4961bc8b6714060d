-- A list with one place changed.
use Rattle.std.proofs.Common.{◌≡◌, ℕ, zero, suc, ◌<◌, List, [], ◌∷◌, length, get_or, slice_set, refl, sym, ap, arith}
use Rattle.iio_device.specs.Site.{at_place}

module _ {A : Type 0} (f : A → A) where
  -- it is written
  pub at_place_set : (k : ℕ) (xs : List A) (x : A) → k < length xs → x ≡ get_or xs k x → at_place k f xs ≡ slice_set xs k (f x)
  at_place_set zero [] x within at = absurd (omega arith)
  at_place_set zero (y ∷ ys) x within at = ap (λ z. f z ∷ ys) (sym at)
  at_place_set (suc k) [] x within at = absurd (omega arith)
  at_place_set (suc k) (y ∷ ys) x within at = ap (λ zs. y ∷ zs) (at_place_set k ys x (omega arith) at)

  -- the list stays if the change changes nothing
  pub at_place_same : (k : ℕ) (xs : List A) → ((x : A) → f x ≡ x) → at_place k f xs ≡ xs
  at_place_same zero [] same = refl
  at_place_same zero (x ∷ xs) same = ap (λ y. y ∷ xs) (same x)
  at_place_same (suc k) [] same = refl
  at_place_same (suc k) (x ∷ xs) same = ap (λ ys. x ∷ ys) (at_place_same k xs same)
