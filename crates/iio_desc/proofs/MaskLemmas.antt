-- What holds of masks that were read.
use Rattle.std.proofs.Common.{◌≡◌, ℕ, ◌^◌, ◌<◌, ◌&&◌, nat_lt, Bool, true, false, cond, List, [], ◌∷◌, Option, Some, None, option_and_then, refl, subst, ltb-true}
use Rattle.std.specs.Prelude.{All}
use Rattle.std.proofs.lemmas.List.Elements.{All-nil, All-cons}
use Rattle.iio_mask.specs.Text.{mask_of}
use Rattle.iio_desc.specs.DeviceLines.{before, listable, listed_of, masks_of}

-- a mask has a data channel and no other
abbrev pub IsListable : ℕ → ℕ → Type 0
IsListable channels bits = (0 < bits) × (bits < 2 ^ channels)

both : (a b : Bool) → (a && b) ≡ true → (a ≡ true) × (b ≡ true)
both true b h = (refl, h)
both false b h = cc

IsListable-listable : (channels bits m : ℕ) → listable channels bits ≡ Some m → IsListable channels m
IsListable-listable channels bits m h = by_test (nat_lt 0 bits) (nat_lt bits (2 ^ channels)) refl refl h
  where
    by_test : (some below : Bool) → nat_lt 0 bits ≡ some → nat_lt bits (2 ^ channels) ≡ below → cond (some && below) (Some bits) None ≡ Some m
        → IsListable channels m
    by_test true true some below e = let same : bits ≡ m = cc in subst (λ (n : ℕ). IsListable channels n) same (ltb-true _ _ some, ltb-true _ _ below)
    by_test true false some below e = cc
    by_test false below some b e = cc

IsListable-listed_of : (channels count : ℕ) (word : List ℕ) (m : ℕ) → listed_of channels count word ≡ Some m → IsListable channels m
IsListable-listed_of channels count word m h = by_mask (mask_of word count) h
  where
    by_mask : (o : Option ℕ) → option_and_then (λ (bits : ℕ). listable channels bits) o ≡ Some m → IsListable channels m
    by_mask None e = cc
    by_mask (Some bits) e = IsListable-listable channels bits m e

-- each mask that a line lists
pub All-masks_of : (channels count : ℕ) (words : List (List ℕ)) (ms : List ℕ) → masks_of channels count words ≡ Some ms → All (IsListable channels) ms
All-masks_of channels count [] ms h = let same : [] ≡ ms = cc in subst (λ (ns : List ℕ). All (IsListable channels) ns) same (All-nil (IsListable channels))
All-masks_of channels count (w ∷ ws) ms h =
    by_first (listed_of channels count w) refl (masks_of channels count ws) (λ ns is. All-masks_of channels count ws ns is) h
  where
    by_first : (first : Option ℕ) → listed_of channels count w ≡ first → (rest : Option (List ℕ))
        → ((ns : List ℕ) → rest ≡ Some ns → All (IsListable channels) ns)
        → before first rest ≡ Some ms → All (IsListable channels) ms
    by_first None is rest others e = cc
    by_first (Some m) is None others e = cc
    by_first (Some m) is (Some ns) others e =
        let same : m ∷ ns ≡ ms = cc in
        subst (λ (ls : List ℕ). All (IsListable channels) ls) same
        (All-cons (IsListable channels) m ns (IsListable-listed_of channels count w m is) (others ns refl))
