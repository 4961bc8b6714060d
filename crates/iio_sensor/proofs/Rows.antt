-- The row that holds at a moment.
use Rattle.std.proofs.Common.{◌≡◌, ℕ, zero, suc, ◌+◌, ◌-◌, ◌*◌, ◌<◌, ◌≤◌, Bool, true, false, List, length, take, drop, get_or, refl, ap, sym, ◌∙◌, arith, ℤ, pos, inl, inr, ◌⊎◌, count_by, suc-mul, ◌≢◌}
use Rattle.std.proofs.lemmas.Bool.{cases_eq}
use Rattle.std.specs.Prelude.{int_le, int_lt}
use Rattle.std.specs.List.Sorted.{IsPartitionPoint, IsPartitionedBy}
use Rattle.std.proofs.lemmas.List.{get_or_default, take_all}
use Rattle.std.proofs.lemmas.List.Sums.{count_by_more_yes, count_by_more_no}
use Rattle.std.proofs.lemmas.Int.{ints}
use Rattle.iio_layout.specs.Shape.{RowsRecord}
use Rattle.iio_layout.specs.Rows.{Rises}
use Rattle.iio_sensor.specs.Recorded.{come_by, row_before}

-- if the elements that pass come before the others, their number is the place between
pub count_to_point : (p : ℤ → Bool) (xs : List ℤ) (i : ℕ) → i ≤ length xs → IsPartitionPoint (λ x. p x ≡ true) (λ x. p x ≡ false) xs i → count_by p xs ≡ i
count_to_point p xs i h point =
    let whole : i + (length xs - i) ≡ length xs = omega arith in
    ap (count_by p) (sym (take_all (i + (length xs - i)) xs (omega arith))) ∙ after (length xs - i) (omega arith)
  where
    before : (n : ℕ) → n ≤ i → count_by p (take n xs) ≡ n
    before zero e = refl
    before (suc n) e =
        let one : suc n ≡ n + 1 = omega arith in
        ap (λ m. count_by p (take m xs)) one ∙ count_by_more_yes p xs n (pos 0) (omega arith) (point.0 n (pos 0) (omega arith) (omega arith))
        ∙ ap (λ m. m + 1) (before n (omega arith)) ∙ sym one

    after : (n : ℕ) → i + n ≤ length xs → count_by p (take (i + n) xs) ≡ i
    after zero e = ap (λ m. count_by p (take m xs)) (let z : i + zero ≡ i = omega arith in z) ∙ before i (omega arith)
    after (suc n) e =
        let one : i + suc n ≡ i + n + 1 = omega arith in
        ap (λ m. count_by p (take m xs)) one ∙ count_by_more_no p xs (i + n) (pos 0) (omega arith) (point.1 (i + n) (pos 0) (omega arith) (omega arith))
        ∙ after n (omega arith)

-- the moments that have come are before the others
pub moments_parted : (moments : List ℤ) (t : ℤ) → Rises moments → IsPartitionedBy (λ m. int_le m t) moments
moments_parted moments t h i j d le last e = by_cases (cases_eq i j)
  where
    by_cases : (i ≡ j) ⊎ (i ≢ j) → int_le (get_or moments i d) t ≡ true
    by_cases (inl same) = ap (λ k. int_le (get_or moments k d) t) same ∙ e
    by_cases (inr other) = let up = h i j d (omega arith) last in grind (arith, ints)

-- the last of that many rows, as a part of the values
pub row_part : (rows : RowsRecord) (n : ℕ) → 0 < n → take (n * rows.width - (n - 1) * rows.width) (drop ((n - 1) * rows.width) rows.values) ≡ row_before rows n
row_part rows zero h = absurd (omega arith)
row_part rows (suc k) h =
    let front : suc k - 1 ≡ k = omega arith in
    let size : suc k * rows.width - k * rows.width ≡ rows.width = omega (arith, suc-mul k rows.width) in
    rw (front, size) refl

-- that many moments have come if the last of them has and the next hasn't
pub come_at : (moments : List ℤ) (t : ℤ) (n : ℕ) → Rises moments → n ≤ length moments → (0 < n → int_lt t (get_or moments (n - 1) (pos 0)) ≡ false)
    → (n < length moments → int_lt t (get_or moments n (pos 0)) ≡ true) → n ≡ come_by moments t
come_at moments t n rises within last next = sym (count_to_point (λ m. int_le m t) moments n within (come, later))
  where
    come : (k : ℕ) (d : ℤ) → 0 ≤ k → k < n → int_le (get_or moments k d) t ≡ true
    come k d first below =
        let some = last (omega arith) in
        let at : get_or moments (n - 1) d ≡ get_or moments (n - 1) (pos 0) = get_or_default moments (n - 1) d (pos 0) (omega arith) in
        elim (cases_eq k (n - 1)) [
          | inl same ↦ rw (same, at) (grind (arith, ints))
          | inr other ↦ let up = rises k (n - 1) d (omega arith) (omega arith) in grind (arith, ints)
        ]

    later : (k : ℕ) (d : ℤ) → n ≤ k → k < length moments → int_le (get_or moments k d) t ≡ false
    later k d above inside =
        let below = next (omega arith) in
        let at : get_or moments n d ≡ get_or moments n (pos 0) = get_or_default moments n d (pos 0) (omega arith) in
        elim (cases_eq k n) [
          | inl same ↦ rw (same, at) (grind (arith, ints))
          | inr other ↦ let up = rises n k d (omega arith) inside in grind (arith, ints)
        ]
