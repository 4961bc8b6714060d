-- Unions of masks, by the channels that are in them.
use Rattle.std.proofs.Common.{◌≡◌, ℕ, ◌<◌, ◌==◌, ◌||◌, Bool, true, List, [], ◌∷◌, ◌++◌, refl, arith, rules}
use Rattle.std.specs.Prelude.{Contains}
use Rattle.std.specs.Int.{bit_at}
use Rattle.std.specs.List.{list_any}
use Rattle.std.proofs.lemmas.List.Folds.{list_any-append, list_any_at}
use Rattle.std.proofs.lemmas.Nat.Bits.{bit_at_above, bit_at-lt, same_from_bits}
use Rattle.iio_mask.specs.Mask.{has, is_within, union_of, union_of_all}
use Rattle.iio_mask.proofs.PlaceLemmas.{has-or, is_within-from}

-- masks with the same channels are the same
same_bit : (x y : ℕ) → x < 2 → y < 2 → (x == 1) ≡ (y == 1) → x ≡ y
same_bit x y hx hy h = search rules

pub same_from_has : (a b : ℕ) → ((c : ℕ) → has a c ≡ has b c) → a ≡ b
same_from_has a b same = same_from_bits a b (λ c. same_bit (bit_at a c) (bit_at b c) (bit_at-lt a c) (bit_at-lt b c) (same c))

-- ---- two masks

or_true : (b : Bool) → (b || true) ≡ true
or_true b = search rules

pub within_first : (a b : ℕ) → is_within a (union_of a b) ≡ true
within_first a b = is_within-from a (union_of a b) (λ c there. rw (has-or a b c, there) refl)

pub within_second : (a b : ℕ) → is_within b (union_of a b) ≡ true
within_second a b = is_within-from b (union_of a b) (λ c there. rw (has-or a b c, there) (or_true (has a c)))

-- ---- any masks

pub union_of_all-has : (masks : List ℕ) (c : ℕ) → has (union_of_all masks) c ≡ list_any (λ mask. has mask c) masks
union_of_all-has [] c = rw (bit_at_above 0 0 c (omega arith) (omega arith)) refl
union_of_all-has (mask ∷ masks) c = rw (has-or mask (union_of_all masks) c, union_of_all-has masks c) refl

or_swap : (p q r : Bool) → (p || (q || r)) ≡ (q || (p || r))
or_swap p q r = search rules

pub union_of_all-more : (before after : List ℕ) (mask : ℕ) → union_of_all (before ++ mask ∷ after) ≡ union_of mask (union_of_all (before ++ after))
union_of_all-more before after mask = search (rules, same_from_has, union_of_all-has, list_any-append, or_swap, has-or)

pub union_of_all-less : (before after : List ℕ) (mask : ℕ) → is_within (union_of_all (before ++ after)) (union_of_all (before ++ mask ∷ after)) ≡ true
union_of_all-less before after mask = rw (union_of_all-more before after mask) (within_second mask (union_of_all (before ++ after)))

pub union_of_all-member : (masks : List ℕ) (mask : ℕ) → Contains masks mask → is_within mask (union_of_all masks) ≡ true
union_of_all-member masks mask h1 = search (rules, is_within-from, union_of_all-has, list_any_at)
