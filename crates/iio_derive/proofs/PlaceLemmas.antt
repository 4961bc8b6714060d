-- Lists of signed numbers that are written place by place.
use Rattle.std.proofs.Common.{◌≡◌, ◌≢◌, ◌⊎◌, inl, inr, ℕ, zero, suc, ◌+◌, ◌<◌, ◌≤◌, List, [], ◌∷◌, ℤ, pos, ◌+ℤ◌, length, slice_index_or, refl, sym, ap, ◌∙◌, arith}
use Rattle.std.proofs.lemmas.Bool.{cases_eq}
use Rattle.std.proofs.lemmas.List.{get_or_default, get_or-set_same, get_or-set_other, same_lists}
use Rattle.std.proofs.Math.ListN.{set}
use Rattle.iio_derive.specs.Window.{added}

-- what is written at the places before i
abbrev pub IsWrittenBelow : (ℕ → ℤ → Type 0) → ℕ → List ℤ → Type 0
IsWrittenBelow P i xs = (k : ℕ) → k < i → P k (slice_index_or xs k (pos 0))

-- what stands at the places from i on is what stood there
abbrev pub IsLeftFrom : ℕ → List ℤ → List ℤ → Type 0
IsLeftFrom i old xs = (k : ℕ) → i ≤ k → slice_index_or xs k (pos 0) ≡ slice_index_or old k (pos 0)

-- another place is written
pub written_more : (P : ℕ → ℤ → Type 0) (i : ℕ) (v : ℤ) (xs : List ℤ) → i < length xs → P i v → IsWrittenBelow P i xs → IsWrittenBelow P (i + 1) (set xs i v)
written_more P i v xs less here below k within = by (cases_eq k i)
  where
    by : (k ≡ i) ⊎ (k ≢ i) → P k (slice_index_or (set xs i v) k (pos 0))
    by (inl same) =
        let own : slice_index_or (set xs i v) k (pos 0) ≡ v = ap (λ j. slice_index_or (set xs i v) j (pos 0)) same ∙ get_or-set_same xs i v (pos 0) less in
        rw own (rw same here)
    by (inr other) = rw (get_or-set_other xs i k v (pos 0) other) (below k (omega (arith, within, other)))

-- the places after it are left as they were
pub left_more : (i : ℕ) (v : ℤ) (old xs : List ℤ) → IsLeftFrom i old xs → IsLeftFrom (i + 1) old (set xs i v)
left_more i v old xs left k more =
    let other : k ≢ i = λ same. absurd (omega (arith, same, more)) in
    get_or-set_other xs i k v (pos 0) other ∙ left k (omega (arith, more))

-- a list that has the same at each place is the same list
pub written_all : (xs ys : List ℤ) → length xs ≡ length ys → ((k : ℕ) → k < length xs → slice_index_or xs k (pos 0) ≡ slice_index_or ys k (pos 0)) → xs ≡ ys
written_all xs ys long same = same_lists xs ys long (λ k d less.
    get_or_default xs k d (pos 0) less ∙ same k less ∙ sym (get_or_default ys k d (pos 0) (omega (arith, less, long))))

-- ---- sums place by place

pub length-added : (xs ys : List ℤ) → length xs ≡ length ys → length (added xs ys) ≡ length ys
length-added [] [] same = refl
length-added [] (y ∷ ys) same = absurd (omega (arith, same))
length-added (x ∷ xs) [] same = absurd (omega (arith, same))
length-added (x ∷ xs) (y ∷ ys) same = let less : length xs ≡ length ys = omega (arith, same) in ap suc (length-added xs ys less)

pub get-added : (xs ys : List ℤ) (k : ℕ) → length xs ≡ length ys → k < length ys
    → slice_index_or (added xs ys) k (pos 0) ≡ slice_index_or xs k (pos 0) +ℤ slice_index_or ys k (pos 0)
get-added [] [] k same less = absurd (omega (arith, less))
get-added [] (y ∷ ys) k same less = absurd (omega (arith, same))
get-added (x ∷ xs) [] k same less = absurd (omega (arith, same))
get-added (x ∷ xs) (y ∷ ys) zero same less = refl
get-added (x ∷ xs) (y ∷ ys) (suc k) same less = get-added xs ys k (omega (arith, same)) (omega (arith, less))
