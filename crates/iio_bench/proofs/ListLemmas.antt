-- A list with one element changed.
use Rattle.std.proofs.Common.{◌≡◌, ◌⊎◌, ℕ, zero, suc, ◌<◌, Bool, List, [], ◌∷◌, ◌++◌, map, length, set, slice_get, get_or, Some, None, inl, inr, refl, sym, ap, ◌∙◌, arith, filter, not, rules}
use Rattle.std.specs.Prelude.{find}
use Rattle.std.proofs.lemmas.Option.{slice_get_read}
use Rattle.iio_device.specs.Site.{at_place}
use Rattle.iio_bench.specs.Triggers.{IsNumbered}

module _ {A : Type 0} where
  -- an element after another one was written
  pub after_set : (xs : List A) (i j : ℕ) (x y : A) → slice_get (set xs i x) j ≡ Some y → ((j ≡ i) × (y ≡ x)) ⊎ ((j ≡ i → ⊥) × (slice_get xs j ≡ Some y))
  after_set [] i j x y e = absurd (cc)
  after_set (z ∷ zs) zero zero x y e = inl (refl, cc)
  after_set (z ∷ zs) zero (suc j) x y e = inr ((λ h. absurd (omega arith)), e)
  after_set (z ∷ zs) (suc i) zero x y e = inr ((λ h. absurd (omega arith)), e)
  after_set (z ∷ zs) (suc i) (suc j) x y e = search (rules, after_set zs i j x y e)

  pub set_same : (xs : List A) (i : ℕ) (x : A) → slice_get xs i ≡ Some x → set xs i x ≡ xs
  set_same [] i x e = refl
  set_same (y ∷ ys) zero x e = let same : x ≡ y = cc in ap (λ (z : A). z ∷ ys) same
  set_same (y ∷ ys) (suc i) x e = ap (λ (zs : List A). y ∷ zs) (set_same ys i x e)

  pub at_place_same : (xs : List A) (i : ℕ) (x : A) (change : A → A) → slice_get xs i ≡ Some x → change x ≡ x → at_place i change xs ≡ xs
  at_place_same [] i x change at e = refl
  at_place_same (y ∷ ys) zero x change at e = let same : y ≡ x = cc in ap (λ (z : A). z ∷ ys) (ap change same ∙ e ∙ sym same)
  at_place_same (y ∷ ys) (suc i) x change at e = ap (λ (zs : List A). y ∷ zs) (at_place_same ys i x change at e)

  -- nothing is filtered out if nothing is found
  pub filter_none : (p : A → Bool) (xs : List A) → find p xs ≡ None → filter (λ x. not (p x)) xs ≡ xs
  filter_none p [] e = refl
  filter_none p (x ∷ xs) e = search (rules, filter_none p xs)

  pub length_after : (xs : List A) (i : ℕ) (x : A) → length (set xs i x) ≡ length xs
  length_after [] i x = refl
  length_after (z ∷ zs) zero x = refl
  length_after (z ∷ zs) (suc i) x = ap (λ (n : ℕ). suc n) (length_after zs i x)

  pub same_element : (xs : List A) (i : ℕ) (x y : A) → slice_get xs i ≡ Some x → slice_get xs i ≡ Some y → x ≡ y
  same_element xs i x y e d = cc

  pub numbered_after : (number : A → ℕ) (xs : List A) (i : ℕ) (x x' : A) → IsNumbered number xs → slice_get xs i ≡ Some x → number x' ≡ number x
      → IsNumbered number (set xs i x')
  numbered_after number xs i x x' numbered at same = search (rules, after_set)

  module _ {B : Type 0} (f : A → B) where
    -- a changed element, as it is seen
    pub map_changed : (xs : List A) (i : ℕ) (x x' : A) (change : B → B) → slice_get xs i ≡ Some x → f x' ≡ change (f x)
        → map f (set xs i x') ≡ at_place i change (map f xs)
    map_changed [] i x x' change at h = absurd (cc)
    map_changed (y ∷ ys) zero x x' change at h = let same : x ≡ y = cc in ap (λ (b : B). b ∷ map f ys) (h ∙ ap (λ (z : A). change (f z)) same)
    map_changed (y ∷ ys) (suc i) x x' change at h = ap (λ (bs : List B). f y ∷ bs) (map_changed ys i x x' change at h)

    pub map_same : (xs : List A) (i : ℕ) (x x' : A) → slice_get xs i ≡ Some x → f x' ≡ f x → map f (set xs i x') ≡ map f xs
    map_same [] i x x' at h = refl
    map_same (y ∷ ys) zero x x' at h = let same : x ≡ y = cc in ap (λ (b : B). b ∷ map f ys) (h ∙ ap f same)
    map_same (y ∷ ys) (suc i) x x' at h = ap (λ (bs : List B). f y ∷ bs) (map_same ys i x x' at h)

    pub map_at : (xs : List A) (i : ℕ) (x : A) → slice_get xs i ≡ Some x → slice_get (map f xs) i ≡ Some (f x)
    map_at [] i x e = absurd (cc)
    map_at (z ∷ zs) zero x e = let same : z ≡ x = cc in ap (λ (y : A). Some (f y)) same
    map_at (z ∷ zs) (suc i) x e = map_at zs i x e

    pub length_map_is : (xs : List A) → length (map f xs) ≡ length xs
    length_map_is [] = refl
    length_map_is (x ∷ xs) = ap (λ (n : ℕ). suc n) (length_map_is xs)

    pub within_map : (xs : List A) (i : ℕ) → i < length (map f xs) → i < length xs
    within_map xs i h = rw (length_map_is xs) at h

    pub map_append : (xs ys : List A) → map f (xs ++ ys) ≡ map f xs ++ map f ys
    map_append [] ys = refl
    map_append (x ∷ xs) ys = ap (λ (zs : List B). f x ∷ zs) (map_append xs ys)

    -- a test that an element passes as it is seen
    pub filter_map_is : (p : A → Bool) (q : B → Bool) → ((x : A) → q (f x) ≡ p x) → (xs : List A) → filter q (map f xs) ≡ map f (filter p xs)
    filter_map_is p q same [] = refl
    filter_map_is p q same (x ∷ xs) = search (rules, filter_map_is p q same xs)

-- the element that a call at an index was made at
pub element_at : {A B : Type 0} (f : A → B) (xs : List A) (i : ℕ) (x : A) → i < length (map f xs) → x ≡ get_or xs i x → slice_get xs i ≡ Some x
element_at f xs i x h e = slice_get_read xs (length xs) i x refl (within_map f xs i h) e
