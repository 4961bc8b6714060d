-- Several devices that change one after another.
use Rattle.std.proofs.Common.{◌≡◌, ◌⊎◌, ℕ, zero, suc, ◌+◌, ◌<◌, ◌≤◌, All, List, [], ◌∷◌, length, map, set, slice_get, Some, refl, ap, subst, ◌∙◌, arith, rules}
use Rattle.iio_core.specs.Lists.{map_from}
use Rattle.iio_bench.specs.Triggers.{IsNumbered}
use Rattle.iio_bench.specs.Together.{Together}
use Rattle.iio_bench.proofs.ListLemmas.{after_set, length_after}

module _ {D : Type 0} (R : ℕ → D → D → Type 0) where
  -- the elements before number i have changed, and those from it on are as they were
  pub record Partly (i : ℕ) (old new : List D) : Type 0 where
    pub same : length new ≡ length old
    pub done : (k : ℕ) (d d' : D) → k < i → slice_get old k ≡ Some d → slice_get new k ≡ Some d' → R k d d'
    pub rest : (k : ℕ) → i ≤ k → slice_get new k ≡ slice_get old k

  pub partly_all : (i : ℕ) (old new : List D) → length old ≤ i → Partly i old new → Together R old new
  partly_all i old new all p =
      record { same = p.same; each = λ k d d' at at'. p.done k d d' (let within = inside old k d at in omega (arith, within, all)) at at' }
    where
      inside : (xs : List D) (k : ℕ) (d : D) → slice_get xs k ≡ Some d → k < length xs
      inside [] k d at = absurd (cc)
      inside (x ∷ xs) zero d at = omega arith
      inside (x ∷ xs) (suc k) d at = let more = inside xs k d at in omega (arith, more)

  -- number i changes
  pub partly_next : (i : ℕ) (old new : List D) (x x' : D) → slice_get new i ≡ Some x → R i x x' → Partly i old new → Partly (i + 1) old (set new i x')
  partly_next i old new x x' here changes p = record {
    same = length_after new i x' ∙ p.same;
    done = λ k d d' less at at'. by k d d' less at (after_set new i k x' d' at');
    rest = λ k less. others new i k x' (omega (arith, less)) ∙ p.rest k (omega (arith, less));
  }
    where
      by : (k : ℕ) (d d' : D) → k < i + 1 → slice_get old k ≡ Some d → ((k ≡ i) × (d' ≡ x')) ⊎ ((k ≡ i → ⊥) × (slice_get new k ≡ Some d')) → R k d d'
      by k d d' less at h1 = search rules

      others : (xs : List D) (i k : ℕ) (y : D) → suc i ≤ k → slice_get (set xs i y) k ≡ slice_get xs k
      others [] i k y less = refl
      others (z ∷ zs) i zero y less = absurd (omega (arith, less))
      others (z ∷ zs) zero (suc k) y less = refl
      others (z ∷ zs) (suc i) (suc k) y less = others zs i k y (omega (arith, less))

  -- number i stays
  pub partly_stays : (i : ℕ) (old new : List D) (x : D) → slice_get new i ≡ Some x → R i x x → Partly i old new → Partly (i + 1) old new
  partly_stays i old new x here stays p = search rules

-- what holds of all elements holds of each
pub all_at : {A : Type 0} (P : A → Type 0) (xs : List A) (i : ℕ) (x : A) → All P xs → slice_get xs i ≡ Some x → P x
all_at P [] i x all at = absurd (cc)
all_at P (y ∷ ys) zero x all at = let one : y ≡ x = cc in subst P one (all 0 y (omega arith))
all_at P (y ∷ ys) (suc i) x all at = all_at P ys i x (λ j d within. all (suc j) d (omega (arith, within))) at

-- ---- as they are seen

get_other : {A : Type 0} (xs ys : List A) (i : ℕ) (y : A) → length ys ≡ length xs → slice_get ys i ≡ Some y → (x : A) × (slice_get xs i ≡ Some x)
get_other xs [] i y same at = absurd (cc)
get_other [] (z ∷ zs) i y same at = absurd (omega (arith, same))
get_other (x ∷ xs) (z ∷ zs) zero y same at = (x, refl)
get_other (x ∷ xs) (z ∷ zs) (suc i) y same at = get_other xs zs i y (omega (arith, same)) at

module _ {D B : Type 0} (f : D → B) where
  pub map_together : (h : ℕ → B → B) (n : ℕ) (ds ds' : List D) → length ds' ≡ length ds
      → ((i : ℕ) (d d' : D) → slice_get ds i ≡ Some d → slice_get ds' i ≡ Some d' → f d' ≡ h (n + i) (f d))
      → map f ds' ≡ map_from h n (map f ds)
  map_together h n [] [] same each = refl
  map_together h n [] (d' ∷ ds') same each = absurd (omega (arith, same))
  map_together h n (d ∷ ds) [] same each = absurd (omega (arith, same))
  map_together h n (d ∷ ds) (d' ∷ ds') same each =
      ap (λ (b : B). b ∷ map f ds') (each zero d d' refl refl ∙ ap (λ (k : ℕ). h k (f d)) (let e : n + 0 ≡ n = omega arith in e))
      ∙ ap (λ (bs : List B). h n (f d) ∷ bs)
      (map_together h (suc n) ds ds' (omega (arith, same))
      (λ i x y at at'. each (suc i) x y at at' ∙ ap (λ (k : ℕ). h k (f x)) (let e : n + suc i ≡ suc n + i = omega arith in e)))

  pub map_unmoved : (ds ds' : List D) → length ds' ≡ length ds → ((i : ℕ) (d d' : D) → slice_get ds i ≡ Some d → slice_get ds' i ≡ Some d' → f d' ≡ f d)
      → map f ds' ≡ map f ds
  map_unmoved [] [] same each = refl
  map_unmoved [] (d' ∷ ds') same each = absurd (omega (arith, same))
  map_unmoved (d ∷ ds) [] same each = absurd (omega (arith, same))
  map_unmoved (d ∷ ds) (d' ∷ ds') same each =
      ap (λ (b : B). b ∷ map f ds') (each zero d d' refl refl)
      ∙ ap (λ (bs : List B). f d ∷ bs) (map_unmoved ds ds' (omega (arith, same)) (λ i x y at at'. each (suc i) x y at at'))

pub numbered_together : {D : Type 0} (number : D → ℕ) (ds ds' : List D) → length ds' ≡ length ds → IsNumbered number ds
    → ((i : ℕ) (d d' : D) → slice_get ds i ≡ Some d → slice_get ds' i ≡ Some d' → number d' ≡ number d) → IsNumbered number ds'
numbered_together number ds ds' same numbered each = λ i d' at. (let was = get_other ds ds' i d' same at in each i was.0 d' was.1 at ∙ numbered i was.0 was.1)
