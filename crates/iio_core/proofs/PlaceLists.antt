-- Lists that a map over places changes at one place, or nowhere.
use Rattle.std.proofs.Common.{◌≡◌, ℕ, zero, suc, ◌+◌, ◌<◌, ◌≤◌, ◌==◌, true, false, List, [], ◌∷◌, map, Some, option_map, slice_get, min, take, drop, length, cond, refl, sym, ap, ◌∙◌, arith, rules}
use Rattle.std.proofs.lemmas.Bool.Decides.{nat_tests}
use Rattle.std.proofs.lemmas.List.{drop_all, take_all}
use Rattle.iio_device.specs.Site.{at_place}
use Rattle.iio_core.specs.Lists.{map_from}

pub itself : (n : ℕ) → (n == n) ≡ true
itself n = grind (arith, nat_tests)

pub same_number : (i j : ℕ) → (i == j) ≡ true → i ≡ j
same_number i j h = grind (arith, nat_tests)

-- ---- maps over places

kept_behind : {A B : Type 0} (v : A → B) (f : ℕ → A → A) (k i : ℕ) (xs : List A) → ((j : ℕ) (x : A) → (k == j) ≡ false → v (f j x) ≡ v x) → k < i
    → map v (map_from f i xs) ≡ map v xs
kept_behind v f k i [] kept after = refl
kept_behind v f k i (x ∷ xs) kept after = search (rules, kept_behind v f k (suc i) xs kept (omega arith))

-- a change at one place
pub one_place : {A B : Type 0} (v : A → B) (f : ℕ → A → A) (g : B → B) (k i j : ℕ) (xs : List A) (y : A) → k ≡ j + i
    → ((n : ℕ) (x : A) → (k == n) ≡ false → v (f n x) ≡ v x) → slice_get xs j ≡ Some y → v (f k y) ≡ g (v y)
    → map v (map_from f i xs) ≡ at_place j g (map v xs)
one_place v f g k i j [] y place kept is at = refl
one_place v f g k i zero (x ∷ xs) y place kept is at =
    let here : k ≡ i = omega arith in
    let same : x ≡ y = cc in
    ap (λ (n : ℕ). v (f n x) ∷ map v (map_from f (suc i) xs)) (sym here)
    ∙ ap (λ z. z ∷ map v (map_from f (suc i) xs)) (ap (λ z. v (f k z)) same ∙ at ∙ ap (λ z. g (v z)) (sym same))
    ∙ ap (λ zs. g (v x) ∷ zs) (kept_behind v f k (suc i) xs kept (omega arith))
one_place v f g k i (suc j) (x ∷ xs) y place kept is at = search (rules, one_place v f g k (suc i) j xs y (omega arith) kept is at)

pub all_kept : {A B : Type 0} (v : A → B) (f : ℕ → A → A) (i : ℕ) (xs : List A) → ((j : ℕ) (x : A) → v (f j x) ≡ v x) → map v (map_from f i xs) ≡ map v xs
all_kept v f i [] kept = refl
all_kept v f i (x ∷ xs) kept = ap (λ y. y ∷ map v (map_from f (suc i) xs)) (kept i x) ∙ ap (λ ys. v x ∷ ys) (all_kept v f (suc i) xs kept)

placed_behind : {A : Type 0} (g : A → A) (k i : ℕ) (xs : List A) → k < i → map_from (λ n x. cond (k == n) (g x) x) i xs ≡ xs
placed_behind g k i [] after = refl
placed_behind g k i (x ∷ xs) after = search (rules, placed_behind g k (suc i) xs (omega arith))

-- a change at one place is one of all places
pub placed_from : {A : Type 0} (g : A → A) (k j i : ℕ) (xs : List A) → k ≡ j + i → at_place j g xs ≡ map_from (λ n x. cond (k == n) (g x) x) i xs
placed_from g k j i [] place = refl
placed_from g k zero i (x ∷ xs) place = search (rules, placed_behind)
placed_from g k (suc j) i (x ∷ xs) place = search (rules, placed_from g k j (suc i) xs (omega (arith, place)))

pub twice_from : {A B C : Type 0} (f : ℕ → B → C) (g : ℕ → A → B) (i : ℕ) (xs : List A) → map_from f i (map_from g i xs) ≡ map_from (λ n x. f n (g n x)) i xs
twice_from f g i [] = refl
twice_from f g i (x ∷ xs) = ap (λ (ys : List _). f i (g i x) ∷ ys) (twice_from f g (suc i) xs)

-- each place is changed in both views
pub each_from : {A B : Type 0} (v : A → B) (f : ℕ → A → A) (g : ℕ → B → B) (i : ℕ) (xs : List A)
    → ((j : ℕ) (x : A) → slice_get xs j ≡ Some x → v (f (j + i) x) ≡ g (j + i) (v x))
    → map v (map_from f i xs) ≡ map_from g i (map v xs)
each_from v f g i [] each = refl
each_from v f g i (x ∷ xs) each =
    let here : 0 + i ≡ i = omega arith in
    ap (λ y. y ∷ map v (map_from f (suc i) xs)) (ap (λ (n : ℕ). v (f n x)) (sym here) ∙ each 0 x refl ∙ ap (λ (n : ℕ). g n (v x)) here)
    ∙ ap (λ ys. g i (v x) ∷ ys)
    (each_from v f g (suc i) xs
    (λ j y at. let place : suc j + i ≡ j + suc i = omega arith in ap (λ (n : ℕ). v (f n y)) (sym place) ∙ each (suc j) y at ∙ ap (λ (n : ℕ). g n (v y)) place))

-- the element at a place afterwards
pub get_from : {A B : Type 0} (f : ℕ → A → B) (i : ℕ) (xs : List A) (k : ℕ) → slice_get (map_from f i xs) k ≡ option_map (f (k + i)) (slice_get xs k)
get_from f i [] k = refl
get_from f i (x ∷ xs) zero = let here : i ≡ 0 + i = omega arith in ap (λ (n : ℕ). Some (f n x)) here
get_from f i (x ∷ xs) (suc k) = search (rules, get_from f (suc i) xs k)

pub get_first : {A B : Type 0} (f : ℕ → A → B) (xs : List A) (k : ℕ) → slice_get (map_from f 0 xs) k ≡ option_map (f k) (slice_get xs k)
get_first f xs k = let place : k + 0 ≡ k = omega arith in get_from f 0 xs k ∙ ap (λ (n : ℕ). option_map (f n) (slice_get xs k)) place

-- ---- as many as a queue can hold

pub take_most : {A : Type 0} (a c : ℕ) (xs : List A) → length xs ≤ c → take (min a c) xs ≡ take a xs
take_most a c xs room = search (rules, take_all)

pub drop_most : {A : Type 0} (a c : ℕ) (xs : List A) → length xs ≤ c → drop (min a c) xs ≡ drop a xs
drop_most a c xs room = search (rules, drop_all)
