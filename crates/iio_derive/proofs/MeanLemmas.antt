-- The window follows the list of the captures, and its means are those of the list.
use Rattle.std.proofs.Common.{◌≡◌, ◌≢◌, ℕ, zero, suc, ◌+◌, ◌-◌, ◌<◌, ◌≤◌, ◌==◌, ◌%◌, Bool, true, false, List, [], ◌∷◌, take, length, Option, Some, None, IsSome, MatchOption, if◌then◌else◌, ℤ, add-one, refl, sym, ap, ◌∙◌, subst, arith}
use Rattle.std.proofs.lemmas.Bool.Decides.{nat_tests}
use Rattle.std.proofs.lemmas.List.{length-take-le}
use Rattle.std.proofs.lemmas.Nat.{mod_below}
use Rattle.std.proofs.Math.Nat.{suc-mod, mod-eq_of_lt, mod_self, mod-le}
use Rattle.iio_derive.specs.Average.{Adds, AllOffered, AverageRecord, MeansOf}
use Rattle.iio_derive.specs.Means.{IsWindowOf, mean_of, mean_with, sums_of}
use Rattle.iio_derive.specs.Values.{moment_in, values_in}
use Rattle.iio_derive.specs.View.{window_of}
use Rattle.iio_derive.specs.Window.{Window, is_filled_by, means_of, no_window, sums_by, sums_with, window_with}

sums_more : (c : List ℤ) (cs : List (List ℤ)) → sums_by (length cs) (sums_of cs) c ≡ sums_of (c ∷ cs)
sums_more c [] = refl
sums_more c (x ∷ cs) = refl

-- another capture, after those of which the window has some
module _ (size : ℕ) (w : Window) (c : List ℤ) (cs : List (List ℤ)) (some : 1 ≤ size) (is : IsWindowOf size w cs) where
  i : ℕ
  i = length cs % size

  all : sums_with w c ≡ sums_of (c ∷ take (length cs % size) cs)
  all = ap (λ (n : ℕ). sums_by n w.sums c) is.counted ∙ ap (λ (xs : List ℤ). sums_by (length cs % size) xs c) is.summed
      ∙ ap (λ (n : ℕ). sums_by n (sums_of (take (length cs % size) cs)) c) (sym (length-take-le (length cs % size) cs (mod-le (length cs) size)))
      ∙ sums_more c (take (length cs % size) cs)

  -- the mean is made with that capture
  pub filled : is_filled_by size w ≡ true → (mean_with size c cs ≡ Some (means_of size (sums_with w c))) × IsWindowOf size no_window (c ∷ cs)
  filled full =
      let end : suc w.count ≡ size = grind (arith, nat_tests) in
      let last : suc (length cs % size) ≡ size = ap suc (sym is.counted) ∙ end in
      let none : suc (length cs) % size ≡ 0 = suc-mod (length cs) size ∙ ap (λ (n : ℕ). n % size) last ∙ mod_self size in
      let before : size - 1 ≡ length cs % size = omega (arith, last) in (
        ap (λ (n : ℕ). if n == 0 then Some (mean_of size (c ∷ take (size - 1) cs)) else None) none
            ∙ ap (λ (n : ℕ). Some (means_of size (sums_of (c ∷ take n cs)))) before ∙ ap (λ (xs : List ℤ). Some (means_of size xs)) (sym all),
        record { counted = sym none; summed = ap (λ (n : ℕ). sums_of (take n (c ∷ cs))) (sym none) },
      )

  -- no mean is made with that capture
  pub unfilled : is_filled_by size w ≡ false → (mean_with size c cs ≡ None) × IsWindowOf size (window_with w c) (c ∷ cs)
  unfilled going =
      let apart : suc w.count ≢ size = grind (arith, nat_tests) in
      let counted = is.counted in
      let below : length cs % size < size = mod_below (length cs) size some in
      let less : suc (length cs % size) < size = omega (arith, apart, counted, below) in
      let more : suc (length cs) % size ≡ suc (length cs % size) = suc-mod (length cs) size ∙ mod-eq_of_lt less in
      let later : (suc (length cs % size) == 0) ≡ false = grind (arith, nat_tests) in (
        ap (λ (n : ℕ). if n == 0 then Some (mean_of size (c ∷ take (size - 1) cs)) else None) more
            ∙ ap (λ (b : Bool). if b then Some (mean_of size (c ∷ take (size - 1) cs)) else None) later,
        record { counted = ap suc counted ∙ sym more; summed = all ∙ ap (λ (n : ℕ). sums_of (take n (c ∷ cs))) (sym more) },
      )

-- what an added capture makes is the mean of the list
pub adds_means : (scan : List ℕ) (result : Option ℕ) (old new : AverageRecord) (cs : List (List ℤ)) → 1 ≤ old.size → Adds scan result old new
    → IsWindowOf old.size old.window cs → MeansOf scan result old new cs
adds_means scan None old new cs some adds is =
    let it = unfilled old.size old.window (values_in old.shape scan) cs some is adds.0 in
    let none : Option ℕ = None in
    let window : new.window ≡ window_with old.window (values_in old.shape scan) = ap (λ (a : AverageRecord). a.window) adds.1 in (
      subst (λ (w : Window). IsWindowOf old.size w (values_in old.shape scan ∷ cs)) (sym window) it.1,
      subst (λ (o : Option (List ℤ)). MatchOption o (none ≡ None)
          (λ mean. IsSome none × AllOffered old.shape mean (moment_in old.shape scan) old.seats new.seats)) (sym it.0) refl,
    )
adds_means scan (Some count) old new cs some adds is =
    let it = filled old.size old.window (values_in old.shape scan) cs some is adds.0 in
    let window : new.window ≡ no_window = ap (λ (a : AverageRecord). a.window) adds.3 in (
      subst (λ (w : Window). IsWindowOf old.size w (values_in old.shape scan ∷ cs)) (sym window) it.1,
      subst (λ (o : Option (List ℤ)). MatchOption o (Some count ≡ None)
          (λ mean. IsSome (Some count) × AllOffered old.shape mean (moment_in old.shape scan) old.seats new.seats)) (sym it.0) (refl, adds.2),
    )

-- ---- the window that is kept

-- a window is full with another capture if its captures and that one are as many as make a mean
pub filled_at : (size n : ℕ) (sums : List ℤ) → n + 1 ≡ size → is_filled_by size (window_of n sums) ≡ true
filled_at size zero sums is = grind (arith, nat_tests)
filled_at size (suc n) sums is = grind (arith, nat_tests)

pub kept_sums : (n : ℕ) (sums values : List ℤ) → sums_by n sums values ≡ sums_with (window_of n sums) values
kept_sums zero sums values = refl
kept_sums (suc n) sums values = refl

-- a window isn't full with another capture if they are fewer
pub unfilled_at : (size n : ℕ) (sums : List ℤ) → n + 1 < size → is_filled_by size (window_of n sums) ≡ false
unfilled_at size zero sums less = grind (arith, nat_tests)
unfilled_at size (suc n) sums less = grind (arith, nat_tests)

pub kept_window : (n : ℕ) (sums values : List ℤ) → window_of (n + 1) (sums_by n sums values) ≡ window_with (window_of n sums) values
kept_window zero sums values = refl
kept_window (suc n) sums values = rw add-one refl
