-- Lists whose elements are taken with their places.
use Rattle.std.proofs.Common.{◌≡◌, ℕ, zero, suc, ◌+◌, List, [], ◌∷◌, Some, slice_get, refl, sym, ap, ◌∙◌, subst, arith, rules}
use Rattle.iio_core.specs.Lists.{map_from}

-- what holds of each element at its place
abbrev pub AtEach : {A : Type 0} → (ℕ → A → Type 0) → ℕ → List A → Type 0
AtEach P k [] = Unit {0}
AtEach P k (x ∷ xs) = P k x × AtEach P (suc k) xs

pub each_at : {A : Type 0} (P : ℕ → A → Type 0) (k : ℕ) (xs : List A) → ((j : ℕ) (x : A) → slice_get xs j ≡ Some x → P (j + k) x) → AtEach P k xs
each_at P k [] all = tt
each_at {A = A} P k (x ∷ xs) all =
    let head : P k x = subst (λ n. P n x) (omega arith) (all 0 x refl) in
    (head, each_at P (suc k) xs (λ (j : ℕ) (y : A) (is : slice_get xs j ≡ Some y). subst (λ n. P n y) (omega arith) (all (suc j) y is)))

-- two maps, one after the other, are the same as two others if they are so at each place
pub maps_same : {A B C D : Type 0} (f : ℕ → B → C) (g : ℕ → A → B) (f' : ℕ → D → C) (g' : ℕ → A → D) (k : ℕ) (xs : List A)
    → AtEach (λ j x. f j (g j x) ≡ f' j (g' j x)) k xs → map_from f k (map_from g k xs) ≡ map_from f' k (map_from g' k xs)
maps_same f g f' g' k [] same = refl
maps_same f g f' g' k (x ∷ xs) same = search (rules, maps_same f g f' g' (suc k) xs same.1)

-- what stands at a place afterwards
pub get_map_from : {A B : Type 0} (f : ℕ → A → B) (k : ℕ) (xs : List A) (j : ℕ) (y : B) → slice_get (map_from f k xs) j ≡ Some y
    → (x : A) × (slice_get xs j ≡ Some x) × (y ≡ f (j + k) x)
get_map_from f k [] j y is = cc
get_map_from {B = B} f k (x ∷ xs) zero y is =
    let here : f k x ≡ y = cc in
    let place : k ≡ 0 + k = omega arith in
    (x, refl, sym here ∙ ap (λ (n : ℕ). f n x) place)
get_map_from f k (x ∷ xs) (suc j) y is = search (rules, get_map_from f (suc k) xs j y is)
