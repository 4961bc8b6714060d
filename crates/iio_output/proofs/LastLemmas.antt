-- Channels of a scan, and what is kept of them.
use Rattle.std.proofs.Common.{◌≡◌, slice_index, ℕ, ◌+◌, ◌<◌, true, false, if◌then◌else◌, List, [], ◌∷◌, ◌++◌, length, slice_index_or, take, drop, ℤ, arith, rules}
use Rattle.std.proofs.lemmas.Grind.{common_steps}
use Rattle.std.proofs.Math.ListN.{set}
use Rattle.iio_mask.specs.Mask.{has}
use Rattle.iio_layout.specs.Shape.{ShapeRecord}
use Rattle.iio_output.specs.View.{IsPlace}
use Rattle.iio_output.specs.Last.{GivenScan, element_in, last_from}

-- another value is kept, at channel c: what stands before it and at it is kept, and what stands after it stays
pub kept_more : (shape : ShapeRecord) (x : GivenScan) (c : ℕ) (values values' kept : List ℤ) (d : ℤ) → c < length values
    → take (c + 1) values' ≡ take c values ++ (if has x.mask c then element_in shape x c else slice_index_or values c d) ∷ []
    → drop (c + 1) values' ≡ drop (c + 1) values → take c values ++ last_from shape x c (drop c values) ≡ kept
    → take (c + 1) values' ++ last_from shape x (c + 1) (drop (c + 1) values') ≡ kept
kept_more shape x c values values' kept d less front back before = grind (arith, common_steps)

-- another place is written, at channel c
pub places_more : (shape : ShapeRecord) (mask c place : ℕ) (places : List ℕ) → c < length places → IsPlace shape mask c place
    → ((k : ℕ) → k < c → has mask k ≡ true → IsPlace shape mask k (slice_index places k))
    → (k : ℕ) → k < c + 1 → has mask k ≡ true → IsPlace shape mask k (slice_index (set places c place) k)
places_more shape mask c place places less own below k within selected = search rules

-- no place is written at a channel that isn't selected
pub places_same : (shape : ShapeRecord) (mask c : ℕ) (places : List ℕ) → has mask c ≡ false
    → ((k : ℕ) → k < c → has mask k ≡ true → IsPlace shape mask k (slice_index places k))
    → (k : ℕ) → k < c + 1 → has mask k ≡ true → IsPlace shape mask k (slice_index places k)
places_same shape mask c places unselected below k within selected = search rules
