-- The active mask has all that is wanted, and no channel that isn't there; if there is one, there is one for fewer channels.
use Rattle.std.proofs.Common.{◌≡◌, ◌≢◌, ℕ, zero, suc, nat_lt, ◌*◌, ◌%◌, ◌^◌, ◌<◌, ◌≤◌, ◌==◌, ◌&&◌, ◌||◌, not, Bool, true, false, cond, List, [], ◌∷◌, length, Option, Some, is_some, refl, sym, ◌∙◌, inl, inr, arith, rules}
use Rattle.std.proofs.lemmas.Grind.{common_steps}
use Rattle.std.specs.Prelude.{find, option_map, All, IsSome}
use Rattle.std.proofs.Math.Nat.{mod-le}
use Rattle.std.proofs.Math.Pow.{pow_mono, pow-lt}
use Rattle.std.specs.Int.{trailing_zeros, w64}
use Rattle.std.proofs.lemmas.Bool.{cases_lt, ne_eqb}
use Rattle.std.proofs.lemmas.Bool.Decides.{nat_tests}
use Rattle.std.proofs.lemmas.Nat.Bits.{bit_at-pow_same, bit_at-trailing_zeros, bit_at-zero}
use Rattle.iio_scan_type.specs.declared.Endian.{Endian}
use Rattle.iio_mask.specs.Mask.{has, is_within, matching_mask, without_channel}
use Rattle.iio_mask.proofs.PlaceLemmas.{has-or, has-within, has-without, is_within-from}
use Rattle.iio_layout.specs.Shape.{ShapeRecord, count_of, stamp_formats}
use Rattle.iio_layout.specs.Laws.{count_is, has_below_at}
use Rattle.iio_layout.specs.Active.{active_of, data_part, has_below, with_stamp}

-- ---- listed masks

-- the first of several that passes a test passes it
passes_by : (b : Bool) (test : ℕ → Bool) (x m : ℕ) (rest : Option ℕ) → test x ≡ b → cond b (Some x) rest ≡ Some m → (rest ≡ Some m → test m ≡ true)
    → test m ≡ true
passes_by b test x m rest is h next = search rules

found_passes : (test : ℕ → Bool) (xs : List ℕ) (m : ℕ) → find test xs ≡ Some m → test m ≡ true
found_passes test [] m h = cc
found_passes test (x ∷ xs) m h = passes_by (test x) test x m (find test xs) refl h (λ g. found_passes test xs m g)

self_within : (a : ℕ) → is_within a a ≡ true
self_within a = is_within-from a a (λ c there. there)

pub matching_mask_contains : (listed : List ℕ) (wanted m : ℕ) → matching_mask listed wanted ≡ Some m → is_within wanted m ≡ true
matching_mask_contains listed wanted m h = search (rules, self_within, found_passes)

-- what is found is one of the listed masks, or what was wanted
below_by : (b : Bool) (x m n : ℕ) (rest : Option ℕ) → x < n → cond b (Some x) rest ≡ Some m → (rest ≡ Some m → m < n) → m < n
below_by b x m n rest small h next = search rules

found_below : (test : ℕ → Bool) (xs : List ℕ) (m n : ℕ) → All (λ x. x < n) xs → find test xs ≡ Some m → m < n
found_below test [] m n all h = cc
found_below test (x ∷ xs) m n all h =
    below_by (test x) x m n (find test xs) (all 0 0 (omega arith)) h (λ g. found_below test xs m n (λ k d lt. all (suc k) d (omega (arith, lt))) g)

pub matching_mask_below : (listed : List ℕ) (wanted m n : ℕ) → All (λ x. x < n) listed → wanted < n → matching_mask listed wanted ≡ Some m → m < n
matching_mask_below [] wanted m n all below h = let same : wanted ≡ m = cc in omega (arith, same)
matching_mask_below (x ∷ xs) wanted m n all below h = found_below (λ bits. is_within wanted bits) (x ∷ xs) m n all h

-- if a mask passes a test, a mask passes a weaker test
found_by : (b : Bool) (test : ℕ → Bool) (x m : ℕ) (rest weaker : Option ℕ) → (b ≡ true → test x ≡ true) → cond b (Some x) rest ≡ Some m
    → (rest ≡ Some m → IsSome weaker) → IsSome (cond (test x) (Some x) weaker)
found_by b test x m rest weaker passes h next = search rules

found_weaker : (strong test : ℕ → Bool) (xs : List ℕ) (m : ℕ) → ((x : ℕ) → strong x ≡ true → test x ≡ true) → find strong xs ≡ Some m → IsSome (find test xs)
found_weaker strong test [] m weaker h = cc
found_weaker strong test (x ∷ xs) m weaker h = search (rules, found_by, found_weaker strong test xs m weaker)

within_trans : (a b c : ℕ) → is_within a b ≡ true → is_within b c ≡ true → is_within a c ≡ true
within_trans a b c first second = is_within-from a c (λ k there. has-within b c second k (has-within a b first k there))

matching_mask_fewer : (listed : List ℕ) (less wanted m : ℕ) → is_within less wanted ≡ true → matching_mask listed wanted ≡ Some m
    → IsSome (matching_mask listed less)
matching_mask_fewer [] less wanted m within h = refl
matching_mask_fewer (x ∷ xs) less wanted m within h = search (rules, found_weaker, within_trans)

-- ---- the timestamp's bit

-- fewer channels have fewer data channels
and_weaker : (p q r : Bool) → (p ≡ true → q ≡ true) → (p && r) ≡ true → (q && r) ≡ true
and_weaker p q r weaker h = search rules

data_part-within : (shape : ShapeRecord) (less wanted : ℕ) → is_within less wanted ≡ true → is_within (data_part shape less) (data_part shape wanted) ≡ true
data_part-within shape less wanted within = by_stamp (is_some shape.stamp)
  where
    n : ℕ
    n = length shape.channels

    by_stamp : (b : Bool) → is_within (cond b (without_channel less n) less) (cond b (without_channel wanted n) wanted) ≡ true
    by_stamp false = within
    by_stamp true = search (rules, is_within-from, has-without, and_weaker, has-within)

is_some-map : {A B : Type 0} (f : A → B) (o : Option A) → IsSome o → IsSome (option_map f o)
is_some-map f o h = search rules

-- if there is an active mask, there is one for fewer channels
pub active_fewer : (shape : ShapeRecord) (less wanted m : ℕ) → is_within less wanted ≡ true → matching_mask shape.listed (data_part shape wanted) ≡ Some m
    → IsSome (active_of shape less)
active_fewer shape less wanted m within found = search (rules, is_some-map, matching_mask_fewer, data_part-within)

-- a bit that two masks have, or the first has not
has-pow : (n : ℕ) → has (2 ^ n) n ≡ true
has-pow n = rw (bit_at-pow_same n) refl

or_true : (b : Bool) → (b || true) ≡ true
or_true b = search rules

other_channel : (b : Bool) (c n : ℕ) → c ≢ n → b ≡ true → (b && not (c == n)) ≡ true
other_channel b c n apart there = let is = ne_eqb c n apart in rw (there, is) refl

-- the active mask has all that is wanted
pub active_contains : (shape : ShapeRecord) (wanted mask : ℕ) → is_within (data_part shape wanted) mask ≡ true
    → is_within wanted (with_stamp shape wanted mask) ≡ true
active_contains shape wanted mask inside = grind (arith, common_steps, has-within, has-without, other_channel, is_within-from, has-or, has-pow, or_true)

-- the active mask has no channel that isn't there: a listed mask is one of all channels
pub listed_wider : (listed : List ℕ) (n m : ℕ) → n ≤ m → All (λ mask. (0 < mask) × (mask < 2 ^ n)) listed → All (λ mask. mask < 2 ^ m) listed
listed_wider listed n m wider all = λ k d within. let more = pow_mono {i = n} {j = m} wider in let own = all k d within in omega (arith, own.1, more)

-- the timestamp is the last channel
pub last_bit_below : (shape : ShapeRecord) (n : ℕ) → is_some shape.stamp ≡ true → n ≡ length shape.channels → 1 * 2 ^ n % 2 ^ 64 < 2 ^ count_of shape
last_bit_below shape n there is =
    let one : length (stamp_formats shape.stamp) ≡ 1 = one_stamp shape.stamp there in
    let count : count_of shape ≡ suc n = omega (arith, count_is shape, is, one) in
    let less = mod-le (1 * 2 ^ n) (2 ^ 64) in
    let more : 2 ^ n < 2 ^ suc n = pow-lt {i = n} {j = suc n} (omega arith) in
    rw count (omega (arith, less, more))
  where
    one_stamp : (stamp : Option Endian) → is_some stamp ≡ true → length (stamp_formats stamp) ≡ 1
    one_stamp stamp h = search rules

-- ---- whether there is a data channel

no_channel : (mask n : ℕ) → ((c : ℕ) → c < n → has mask c ≡ false) → has_below mask n ≡ false
no_channel mask zero none = refl
no_channel mask (suc n) none = rw (none n (omega arith), no_channel mask n (λ c less. none c (omega (arith, less)))) refl

-- the empty mask has no channel
pub none_below : (n : ℕ) → has_below 0 n ≡ false
none_below n = no_channel 0 n (λ c less. rw (bit_at-zero c) refl)

-- a mask that isn't empty has a channel below a number exactly if its first one is
pub first_below : (mask n : ℕ) → 0 < mask → mask < 2 ^ 64 → nat_lt (trailing_zeros w64 mask) n ≡ has_below mask n
first_below mask n some fits =
    let lowest = bit_at-trailing_zeros w64 mask some fits in
    let there : has mask (trailing_zeros w64 mask) ≡ true = rw lowest.1 refl in
    elim (cases_lt (trailing_zeros w64 mask) n) [
      | inl below ↦
          let less : nat_lt (trailing_zeros w64 mask) n ≡ true = grind (arith, nat_tests) in
          less ∙ sym (has_below_at mask (trailing_zeros w64 mask) n below there)
      | inr past ↦
          let more : nat_lt (trailing_zeros w64 mask) n ≡ false = grind (arith, nat_tests) in
          more ∙ sym (no_channel mask n (λ c less. rw (lowest.2 c (omega (arith, past, less))) refl))
    ]
