-- The means of a base's captures, over the plain list of the captures' values. (This project's own.)
use Rattle.std.specs.Prelude.{◌≡◌, ℕ, suc, ◌%◌, ◌-◌, ◌==◌, List, [], ◌∷◌, take, length, Option, Some, None, if◌then◌else◌, ℤ}
use Rattle.iio_derive.specs.Window.{Window, added, means_of}

-- the sums of the values of captures, element by element
abbrev pub sums_of : List (List ℤ) → List ℤ
sums_of [] = []
sums_of (c ∷ []) = c
sums_of (c ∷ x ∷ cs) = added c (sums_of (x ∷ cs))

-- the mean of `size` captures: each sum divided by `size` and rounded towards zero
abbrev pub mean_of : (size : ℕ) → List (List ℤ) → List ℤ
mean_of size captures = means_of size (sums_of captures)

-- what another capture of the base makes, after those since the first member joined, the newest first: if their number is then
-- a multiple of `size`, the mean of the last `size` captures, this one among them
abbrev pub mean_with : (size : ℕ) → (capture : List ℤ) → List (List ℤ) → Option (List ℤ)
mean_with size c cs = if suc (length cs) % size == 0 then Some (mean_of size (c ∷ take (size - 1) cs)) else None

-- the window has those captures of which no mean was made yet
pub record IsWindowOf (size : ℕ) (w : Window) (captures : List (List ℤ)) : Type 0 where
  pub counted : w.count ≡ length captures % size
  pub summed : w.sums ≡ sums_of (take (length captures % size) captures)
