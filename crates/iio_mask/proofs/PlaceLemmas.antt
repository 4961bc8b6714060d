-- What the operations on numbers do to the places of their one bits.
use Rattle.std.proofs.Common.{◌≡◌, ℕ, zero, suc, ◌+◌, ◌-◌, ◌*◌, ◌/◌, ◌%◌, ◌^◌, ◌<◌, ◌≤◌, ◌==◌, ◌&&◌, ◌||◌, max, Bool, true, false, not, IsTrue, refl, sym, ap, ◌∙◌, inl, inr, arith, bit_and, bit_or, pow-suc, rules}
use Rattle.std.specs.Int.{bit_at}
use Rattle.std.proofs.lemmas.Bool.{cases_eq, cases_lt, cases_order, eqb-true, eq-eqb, ne_eqb}
use Rattle.std.proofs.lemmas.Nat.Bits.{bit_at_and, bit_at_or, bit_at-lt, bit_at-zero, bit_at_above, bit_at-pow_same, bit_at-pow_other, bit_at_ones_above, same_from_bits, same_from_bits_below, bit_at_cat_low, bit_at_cat_high, bit_at-suc, bit_at_lowest}
use Rattle.std.proofs.lemmas.Nat.{pow_pos}
use Rattle.std.proofs.Math.Nat.{mul_comm}
use Rattle.iio_mask.specs.Mask.{has, is_within, without_channel}

-- the greater of two bits is 1 exactly if one of them is
max_is_one : (x y : ℕ) → x < 2 → y < 2 → (max x y == 1) ≡ (x == 1 || y == 1)
max_is_one x y hx hy = search rules

pub has-or : (a b c : ℕ) → has (bit_or a b) c ≡ (has a c || has b c)
has-or a b c = rw (bit_at_or a b c) (max_is_one (bit_at a c) (bit_at b c) (bit_at-lt a c) (bit_at-lt b c))

-- a mask of 64 bits has no channel from 64 on
pub has-lt : (bits c : ℕ) → bits < 2 ^ 64 → has bits c ≡ true → c < 64
has-lt bits c fits h =
    elim (cases_lt c 64) [
      | inl below ↦ below
      | inr above ↦
          let none = bit_at_above bits 64 c fits above in
          let one = eqb-true (bit_at bits c) 1 h in
          absurd (omega arith)
    ]

pub has-above : (bits c : ℕ) → bits < 2 ^ 64 → 64 ≤ c → has bits c ≡ false
has-above bits c fits above = rw (bit_at_above bits 64 c fits above) refl

-- each channel of the first is in the second
pub has-within : (a b : ℕ) → IsTrue (is_within a b) → (c : ℕ) → IsTrue (has a c) → IsTrue (has b c)
has-within a b within c h = search (rules, bit_at_and, bit_at-lt)

pub is_within-from : (a b : ℕ) → ((c : ℕ) → IsTrue (has a c) → IsTrue (has b c)) → IsTrue (is_within a b)
is_within-from a b each =
    eq-eqb (bit_and a b) a (same_from_bits (bit_and a b) a (λ c.
    let small = bit_at-lt a c in
    let small' = bit_at-lt b c in
    bit_at_and a b c ∙ elim (cases_eq (bit_at a c) 1) [
      | inl one ↦
          let other = eqb-true (bit_at b c) 1 (each c (eq-eqb (bit_at a c) 1 one)) in
          omega arith
      | inr none ↦ omega arith
    ]))

-- ---- a mask without one of its channels

-- an odd number and the even one below it have the same bits above the lowest one
odd_bits : (a j : ℕ) → 0 < j → bit_at (2 * a) j ≡ bit_at (2 * a + 1) j
odd_bits a zero h = absurd (omega arith)
odd_bits a (suc j) h = search (rules, bit_at-suc)

-- a number by what is above and below its bit c
split_at_bit : (n c : ℕ) → n ≡ n / 2 ^ c * 2 ^ c + n % 2 ^ c
split_at_bit n c = let p = pow_pos c in omega (arith, mul_comm (n / 2 ^ c) (2 ^ c))

-- a number whose bit c is 1, without that bit
minus_bit : (n p q r a : ℕ) → n ≡ q * p + r → q ≡ 2 * a + 1 → n - p ≡ 2 * a * p + r
minus_bit n p q r a whole odd = rw (whole, odd) (omega arith)

and_true : (b : Bool) → b ≡ (b && true)
and_true b = search rules

and_false : (b : Bool) → false ≡ (b && false)
and_false b = search rules

the_difference : (k c : ℕ) → k ≡ c → k - c ≡ 0
the_difference k c e = omega arith

even : (a : ℕ) → 2 * a % 2 ≡ 0
even a = omega arith

pub has-minus : (n c k : ℕ) → has n c ≡ true → has (n - 2 ^ c) k ≡ (has n k && not (k == c))
has-minus n c k h =
    let p = pow_pos c in
    let low : n % 2 ^ c < 2 ^ c = omega arith in
    let one = eqb-true (bit_at n c) 1 h in
    let odd : n / 2 ^ c ≡ 2 * (n / 2 ^ c / 2) + 1 = omega arith in
    let whole = split_at_bit n c in
    let less = minus_bit n (2 ^ c) (n / 2 ^ c) (n % 2 ^ c) (n / 2 ^ c / 2) whole odd in
    elim (cases_order k c) [
      | inl same ↦
          let none : bit_at (n - 2 ^ c) k ≡ 0 = search (rules, bit_at_cat_high, the_difference, bit_at_lowest, even) in
          let is = eq-eqb k c same in
          rw (none, is) (and_false (has n k))
      | inr (inl below) ↦
          let kept : bit_at (n - 2 ^ c) k ≡ bit_at n k = search (rules, bit_at_cat_low) in
          let other = ne_eqb k c (λ e. omega arith) in
          rw (kept, other) (and_true (has n k))
      | inr (inr above) ↦
          let kept : bit_at (n - 2 ^ c) k ≡ bit_at n k = search (rules, bit_at_cat_high, odd_bits) in
          let other = ne_eqb k c (λ e. omega arith) in
          rw (kept, other) (and_true (has n k))
    ]

-- a mask without a channel has its other channels
pub has-without : (n c k : ℕ) → has (without_channel n c) k ≡ (has n k && not (k == c))
has-without n c k = search (rules, has-minus, and_true)

-- ---- a number without its lowest one bit

one_less : (n q p : ℕ) → 1 ≤ p → n ≡ q + p → n - 1 ≡ q + (p - 1)
one_less n q p some is = omega arith

none_left : (n q p : ℕ) → n ≡ q + p → n - p ≡ q + 0
none_left n q p is = omega arith

-- a number is what is above its lowest one bit c, and that bit
lowest_parts : (n c : ℕ) → bit_at n c ≡ 1 → ((i : ℕ) → i < c → bit_at n i ≡ 0) → n ≡ n / 2 ^ suc c * 2 ^ suc c + 2 ^ c
lowest_parts n c one none =
    let above = pow_pos (suc c) in
    let whole = split_at_bit n (suc c) in
    let rest : n % 2 ^ suc c < 2 ^ suc c = omega arith in
    let low : n % 2 ^ suc c ≡ 2 ^ c =
    same_from_bits_below (suc c) (n % 2 ^ suc c) (2 ^ c) rest (omega (arith, pow-suc 2 c, pow_pos c))
    (λ i within. sym (bit_at_cat_low (n / 2 ^ suc c) (suc c) (n % 2 ^ suc c) i within) ∙ sym (ap (λ m. bit_at m i) whole) ∙ (elim (cases_lt i c) [
      | inl below ↦ none i below ∙ sym (bit_at-pow_other c i (λ e. omega arith))
      | inr from ↦ let same : i ≡ c = omega arith in rw same (one ∙ sym (bit_at-pow_same c))
    ])) in
    whole ∙ ap (λ r. n / 2 ^ suc c * 2 ^ suc c + r) low

-- a number and the one below it have the same bits, except for those up to the lowest one bit
pub and_one_less : (n c : ℕ) → bit_at n c ≡ 1 → ((i : ℕ) → i < c → bit_at n i ≡ 0) → bit_and n (n - 1) ≡ n - 2 ^ c
and_one_less n c one none =
    same_from_bits (bit_and n (n - 1)) (n - 2 ^ c) (λ i. bit_at_and n (n - 1) i ∙ (elim (cases_lt i (suc c)) [
      | inl within ↦
          let left : bit_at (n - 2 ^ c) i ≡ 0 = ap (λ m. bit_at m i) rest ∙ bit_at_cat_low high (suc c) 0 i within ∙ bit_at-zero i in
          elim (cases_lt i c) [
            | inl below ↦ let no_bit = none i below in omega (arith, no_bit, left)
            | inr from ↦
                let no_bit : bit_at (n - 1) i ≡ 0 =
                ap (λ m. bit_at m i) less ∙ bit_at_cat_low high (suc c) (2 ^ c - 1) i within ∙ bit_at_ones_above c i from in
                omega (arith, no_bit, left)
          ]
      | inr above ↦
          let here : bit_at n i ≡ bit_at high (i - suc c) =
          ap (λ m. bit_at m i) parts ∙ bit_at_cat_high high (suc c) (2 ^ c) i (omega (arith, wider, some)) above in
          let below : bit_at (n - 1) i ≡ bit_at high (i - suc c) =
          ap (λ m. bit_at m i) less ∙ bit_at_cat_high high (suc c) (2 ^ c - 1) i (omega (arith, wider, some)) above in
          let left : bit_at (n - 2 ^ c) i ≡ bit_at high (i - suc c) =
          ap (λ m. bit_at m i) rest ∙ bit_at_cat_high high (suc c) 0 i (omega (arith, wider, some)) above in
          omega (arith, here, below, left)
    ]))
  where
    high : ℕ
    high = n / 2 ^ suc c

    some : 1 ≤ 2 ^ c
    some = pow_pos c

    wider : 2 ^ suc c ≡ 2 * 2 ^ c
    wider = omega (arith, pow-suc 2 c)

    parts : n ≡ high * 2 ^ suc c + 2 ^ c
    parts = lowest_parts n c one none

    less : n - 1 ≡ high * 2 ^ suc c + (2 ^ c - 1)
    less = one_less n (high * 2 ^ suc c) (2 ^ c) some parts

    rest : n - 2 ^ c ≡ high * 2 ^ suc c + 0
    rest = none_left n (high * 2 ^ suc c) (2 ^ c) parts
