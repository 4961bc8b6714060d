-- The channels of a mask in their order, and what unions do to them.
use Rattle.std.proofs.Common.{◌≡◌, ℕ, zero, suc, ◌+◌, ◌-◌, ◌^◌, ◌<◌, ◌≤◌, ◌&&◌, Bool, true, false, not, [], ◌∷◌, refl, ap, ◌∙◌, inl, inr, arith, bit_and, rules}
use Rattle.std.specs.Prelude.{filter}
use Rattle.std.specs.List.{range_with_len}
use Rattle.std.specs.Int.{bit_at, trailing_zeros, w64}
use Rattle.std.proofs.lemmas.Bool.{cases_lt, eq-eqb, ne_eqb}
use Rattle.std.proofs.lemmas.Nat.Bits.{bit_at-trailing_zeros}
use Rattle.iio_mask.specs.Mask.{has, channels_of}
use Rattle.iio_mask.proofs.PlaceLemmas.{and_one_less, has-minus}

-- two tests that agree on the numbers after c keep the same ones of those
filter_after : (p q : ℕ → Bool) (c a n : ℕ) → ((i : ℕ) → c < i → q i ≡ p i) → c < a → filter p (range_with_len a n) ≡ filter q (range_with_len a n)
filter_after p q c a zero same after = refl
filter_after p q c a (suc n) same after = search (rules, filter_after p q c (a + 1) n same (omega arith))

-- the first number that passes a test, and the others
filter_first : (p q : ℕ → Bool) (c a n : ℕ) → p c ≡ true → q c ≡ false → ((i : ℕ) → i < c → p i ≡ false) → ((i : ℕ) → i < c → q i ≡ false)
    → ((i : ℕ) → c < i → q i ≡ p i) → a ≤ c → c < a + n → filter p (range_with_len a n) ≡ c ∷ filter q (range_with_len a n)
filter_first p q c a zero one none before before' after from to = absurd (omega arith)
filter_first p q c a (suc n) one none before before' after from to =
    elim (cases_lt a c) [
      | inl earlier ↦ rw (before a earlier, before' a earlier) (filter_first p q c (a + 1) n one none before before' after (omega arith) (omega arith))
      | inr here ↦
          let same : a ≡ c = omega arith in
          rw (same, one, none) (ap (λ cs. c ∷ cs) (filter_after p q c (c + 1) n after (omega arith)))
    ]

-- ---- the first channel

none_below : (n i : ℕ) → bit_at n i ≡ 0 → has n i ≡ false
none_below n i none = rw none refl

-- a mask that isn't empty: its first channel, and those of the mask without it
pub channels_of-first : (bits : ℕ) → 0 < bits → bits < 2 ^ 64
    → channels_of bits ≡ trailing_zeros w64 bits ∷ channels_of (bits - 2 ^ trailing_zeros w64 bits)
unfolding channels_of
channels_of-first bits some fits =
    let lowest = bit_at-trailing_zeros w64 bits some fits in
    let c : ℕ = trailing_zeros w64 bits in
    let there = eq-eqb (bit_at bits c) 1 lowest.1 in
    let less = λ (i : ℕ). has-minus bits c i there in
    let itself = eq-eqb c c refl in
    let below = λ (i : ℕ) (before : i < c). none_below bits i (lowest.2 i before) in
    filter_first (has bits) (has (bits - 2 ^ c)) c 0 64 there
    (less c ∙ rw itself (and_not_true (has bits c)))
    below
    (λ i before. less i ∙ rw (below i before) refl)
    (λ i after. less i ∙ (let other = ne_eqb i c (λ e. omega arith) in rw other (and_not_false (has bits i))))
    (omega arith) (omega (arith, lowest.0))
  where
    and_not_true : (b : Bool) → (b && not true) ≡ false
    and_not_true b = search rules

    and_not_false : (b : Bool) → (b && not false) ≡ b
    and_not_false b = search rules

-- the first channel is a bit of the mask
pub first_has : (bits : ℕ) → 0 < bits → bits < 2 ^ 64 → has bits (trailing_zeros w64 bits) ≡ true
first_has bits some fits = eq-eqb (bit_at bits (trailing_zeros w64 bits)) 1 (bit_at-trailing_zeros w64 bits some fits).1

-- the mask without its first channel, as a word's operations make it
pub without_first : (bits : ℕ) → 0 < bits → bits < 2 ^ 64 → bit_and bits (bits - 1) ≡ bits - 2 ^ trailing_zeros w64 bits
without_first bits some fits =
    let lowest = bit_at-trailing_zeros w64 bits some fits in
    and_one_less bits (trailing_zeros w64 bits) lowest.1 lowest.2

-- the empty mask has no channel
pub channels_of-none : channels_of 0 ≡ []
unfolding channels_of
channels_of-none = refl
