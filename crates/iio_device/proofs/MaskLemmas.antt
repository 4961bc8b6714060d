-- The union of members' masks.
use Rattle.std.proofs.Common.{◌≡◌, ◌==◌, ◌||◌, ℕ, ◌+◌, ◌^◌, ◌<◌, Bool, true, false, List, [], ◌∷◌, ◌++◌, length, take, get_or, append-nil, Option, Some, None, IfSome, subst, refl, sym, ap, ◌∙◌, arith}
use Rattle.std.specs.List.{All}
use Rattle.std.proofs.lemmas.List.{take_more, map-append}
use Rattle.std.proofs.lemmas.List.Elements.{All-head, All-tail}
use Rattle.std.proofs.lemmas.Nat.{or_lt, pow_pos}
use Rattle.iio_mask.specs.Mask.{is_within, union_of, union_of_all}
use Rattle.iio_mask.proofs.PlaceLemmas.{has-within, is_within-from}
use Rattle.iio_mask.proofs.UnionLemmas.{union_of_all-more, within_first, within_second}
use Rattle.iio_device.specs.declared.membership.Membership.{Membership}
use Rattle.iio_device.specs.Members.{is_wanted, mask_of, masks_of}

-- another mask
pub union_push : (masks : List ℕ) (mask : ℕ) → union_of_all (masks ++ mask ∷ []) ≡ union_of mask (union_of_all masks)
union_push masks mask = union_of_all-more masks [] mask ∙ ap (λ ms. union_of mask (union_of_all ms)) (append-nil masks)

module _ {Q : Type 0} where
  -- another member
  pub union_more : (members : List (Membership Q)) (k : ℕ) (m : Membership Q) → k < length members → m ≡ get_or members k m
      → union_of_all (masks_of (take (k + 1) members)) ≡ union_of m.mask.bits (union_of_all (masks_of (take k members)))
  union_more members k m within at =
      ap (λ ms. union_of_all (masks_of ms)) (take_more members k m within ∙ ap (λ x. take k members ++ x ∷ []) (sym at))
      ∙ ap union_of_all (map-append mask_of (take k members) (m ∷ []))
      ∙ union_push (masks_of (take k members)) m.mask.bits

pub within_trans : (a b c : ℕ) → is_within a b ≡ true → is_within b c ≡ true → is_within a c ≡ true
within_trans a b c ab bc = is_within-from a c (λ k h. has-within b c bc k (has-within a b ab k h))

pub some_more : {A : Type 0} (P P' : A → Type 0) (o : Option A) → IfSome o P → ((x : A) → P x → P' x) → IfSome o P'
some_more P P' None h more = tt
some_more P P' (Some x) h more = more x h

module _ {Q : Type 0} where
  -- the union of masks below a number of channels is below it
  pub union_below : (n : ℕ) (members : List (Membership Q)) → All (λ (m : Membership Q). m.mask.bits < 2 ^ n) members → union_of_all (masks_of members) < 2 ^ n
  union_below n [] all = pow_pos n
  union_below n (m ∷ ms) all = or_lt n m.mask.bits (union_of_all (masks_of ms)) (All-head (λ (x : Membership Q). x.mask.bits < 2 ^ n) m ms all)
      (union_below n ms (All-tail (λ (x : Membership Q). x.mask.bits < 2 ^ n) m ms all))

  -- a member's mask is within the union
  pub wanted_within : (members : List (Membership Q)) (mask : ℕ) → is_wanted members mask ≡ true → is_within mask (union_of_all (masks_of members)) ≡ true
  wanted_within [] mask wanted = absurd (cc)
  wanted_within (m ∷ ms) mask wanted = by (λ w. wanted_within ms mask w) (m.mask.bits == mask) refl wanted
    where
      by : (is_wanted ms mask ≡ true → is_within mask (union_of_all (masks_of ms)) ≡ true) → (b : Bool) → (m.mask.bits == mask) ≡ b
          → (b || is_wanted ms mask) ≡ true
          → is_within mask (union_of m.mask.bits (union_of_all (masks_of ms))) ≡ true
      by later true e w =
          let same : m.mask.bits ≡ mask = grind (arith, e) in
          subst (λ k. is_within k (union_of m.mask.bits (union_of_all (masks_of ms))) ≡ true) same (within_first m.mask.bits (union_of_all (masks_of ms)))
      by later false e w =
          within_trans mask (union_of_all (masks_of ms)) (union_of m.mask.bits (union_of_all (masks_of ms))) (later w)
          (within_second m.mask.bits (union_of_all (masks_of ms)))
