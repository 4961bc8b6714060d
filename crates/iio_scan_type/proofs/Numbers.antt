-- Numbers of that many bits, their shifts, and values in two's complement.
use Rattle.std.proofs.Common.{add-zero, ◌≡◌, ℕ, suc, ◌+◌, ◌-◌, ◌*◌, ◌/◌, ◌%◌, ◌^◌, ◌<◌, ◌≤◌, refl, ap, sym, ◌∙◌, arith, ℤ, pos, negsuc, neg_ℤ, FitsSigned, ◌+ℤ◌, ◌≤ℤ◌, IsTrue, ◌⊎◌, inl, inr, rules}
use Rattle.std.proofs.Math.Nat.{mul_assoc}
use Rattle.std.proofs.lemmas.Nat.{pow_pos, pow-add, shr_high, mod_low, shr_split, shl-shr, mod-pow-add, shr-shr, field_of, shr_below, le-div, mod_below}
use Rattle.std.proofs.lemmas.Bool.Decides.{nat_tests}
use Rattle.std.proofs.lemmas.Int.{ints}
use Rattle.std.specs.Int.{IsPowerOfTwo, w64, cast_unsigned, cast_signed, int_shr, saturate_signed, int_min, int_max}
use Rattle.iio_scan_type.specs.Bytes.{low_bits, value_by}
use Rattle.iio_scan_type.specs.Format.{Format, size_of, IsInProfile, IsInRange, max_realbits, is_storage, is_repeat, least_by, greatest_by, least_of, greatest_of, saturated}
use Rattle.iio_scan_type.specs.declared.Sign.TheVariants.{Signed, Unsigned}

last_row : (x y : ℕ) → 0 < x → 0 < y → x * y - 1 ≡ (x - 1) * y + (y - 1)
last_row x y h k = search rules

-- all ones, shifted to the right
pub shr_ones : (j k : ℕ) → (2 ^ (j + k) - 1) / 2 ^ k ≡ 2 ^ j - 1
shr_ones j k = rw (pow-add 2 j k, last_row (2 ^ j) (2 ^ k) (pow_pos j) (pow_pos k)) (shr_high (2 ^ j - 1) k (2 ^ k - 1) (omega (arith, pow_pos k)))

flip_parts : (p q r m : ℕ) → m < r → (p + 1 + q) * r - suc (q * r + m) ≡ p * r + (r - 1 - m)
flip_parts p q r m h = grind arith

-- the bits of m inverted, as two parts
complement : (j k m : ℕ) → m < 2 ^ (j + k) → 2 ^ (j + k) - suc m ≡ (2 ^ j - 1 - m / 2 ^ k) * 2 ^ k + (2 ^ k - 1 - m % 2 ^ k)
complement j k m h =
    let q : ℕ = m / 2 ^ k in
    let below : q < 2 ^ j = shr_below m j k h in
    let whole : 2 ^ j - 1 - q + 1 + q ≡ 2 ^ j = omega arith in
    let e = flip_parts (2 ^ j - 1 - q) q (2 ^ k) (m % 2 ^ k) (mod_below m (2 ^ k) (pow_pos k)) in
    let f : 2 ^ (j + k) - suc (q * 2 ^ k + m % 2 ^ k) ≡ (2 ^ j - 1 - q) * 2 ^ k + (2 ^ k - 1 - m % 2 ^ k) = rw (pow-add 2 j k) (rw whole at e) in
    rw shr_split at f

-- the lowest bits of a value are those of its machine word
pub low_bits_word : (r : ℕ) (v : ℤ) → r ≤ 64 → FitsSigned w64 v → cast_unsigned w64 v % 2 ^ r ≡ low_bits r v
low_bits_word r (pos n) h f = refl
low_bits_word r (negsuc n) h f =
    let e : 64 - r + r ≡ 64 = omega arith in
    let small : n < 2 ^ 64 = omega (arith, ints) in
    let c = complement (64 - r) r n (rw e small) in
    rw (rw e at c) (mod_low (2 ^ (64 - r) - 1 - n / 2 ^ r) r (2 ^ r - 1 - n % 2 ^ r) (omega (arith, pow_pos r)))

shl_mod : (u r a : ℕ) → (u * 2 ^ a) % 2 ^ (r + a) ≡ u % 2 ^ r * 2 ^ a
shl_mod u r a =
    let low : (u * 2 ^ a + 0) % 2 ^ a ≡ 0 = mod_low u a 0 (pow_pos a) in
    let low' : (u * 2 ^ a) % 2 ^ a ≡ 0 = rw add-zero at low in
    rw (mod-pow-add (u * 2 ^ a) r a, shl-shr u a) (omega arith)

-- a value raised to the top of its word and lowered to its place
pub raised : (u r s a b w : ℕ) → a ≡ s + b → w ≡ r + a → (u * 2 ^ a) % 2 ^ w / 2 ^ b ≡ u % 2 ^ r * 2 ^ s
raised u r s a b w e f = rw (f, shl_mod u r a, e, pow-add 2 s b) (rw (← mul_assoc (u % 2 ^ r) (2 ^ s) (2 ^ b)) (shl-shr (u % 2 ^ r * 2 ^ s) b))

-- a number raised to the top of its word and lowered to the bottom
lowered : (n r s a b w : ℕ) → a ≡ b + s → w ≡ r + a → (n * 2 ^ b) % 2 ^ w / 2 ^ a ≡ n / 2 ^ s % 2 ^ r
lowered n r s a b w e f =
    let down : n * 2 ^ b / 2 ^ (b + s) ≡ n / 2 ^ s = rw (← shr-shr (n * 2 ^ b) b s, shl-shr n b) refl in
    rw (f, field_of (n * 2 ^ b) r a, e, down) refl

-- a word's highest bits, lowered with its sign, are their value in two's complement
signed_high : (m r a : ℕ) → 1 ≤ r → r + a ≡ 64 → m < 2 ^ 64 → int_shr (cast_signed w64 m) a ≡ value_by Signed r (m / 2 ^ a)
signed_high m r a some e h = search (rules, value_by, shr_below, le-div, complement, shr_high)

top_ones : (j a : ℕ) → j + a ≡ 63 → (2 ^ 63 - 1) / 2 ^ a ≡ 2 ^ j - 1
top_ones j a e = let o = shr_ones j a in rw e at o

pub neg_is : (x : ℕ) → 0 < x → neg_ℤ (pos x) ≡ negsuc (x - 1)
neg_is x h = search rules

pub least_signed : (r : ℕ) → 1 ≤ r → r ≤ 64 → cast_signed w64 (2 ^ 64 - suc ((2 ^ 63 - 1) / 2 ^ (64 - r))) ≡ least_by Signed r
least_signed r some most = search (rules, top_ones, neg_is)

pub greatest_signed : (r : ℕ) → 1 ≤ r → r ≤ 64 → cast_signed w64 ((2 ^ 63 - 1) / 2 ^ (64 - r)) ≡ greatest_by Signed r
greatest_signed r some most = search (rules, top_ones)

pub greatest_unsigned : (r : ℕ) → r ≤ 63 → cast_signed w64 ((2 ^ 63 - 1) / 2 ^ (63 - r)) ≡ greatest_by Unsigned r
greatest_unsigned r most = search (rules, top_ones)

-- saturating a sum to its word first changes nothing
pub saturate_first : (l g z : ℤ) → FitsSigned w64 l → FitsSigned w64 g → l ≤ℤ g → int_max l (int_min (saturate_signed w64 z) g) ≡ int_max l (int_min z g)
saturate_first l g z p q h = grind (arith, ints)

-- ---- the facts that a profile gives

pub record Bounds (f : Format) : Type 0 where
  pub some : 1 ≤ f.realbits
  pub within : f.realbits + f.shift ≤ f.storagebits
  pub word : f.storagebits ≤ 64
  pub storage : IsTrue (is_storage f.storagebits)
  pub repeat : IsTrue (is_repeat f.repeat)
  pub few : f.repeat ≤ 8
  pub most : f.realbits ≤ max_realbits f.sign

pub bounds_of : (f : Format) → IsInProfile f → Bounds f
bounds_of f h = search rules

-- the number of an element, computed by shifts of its word
pub number_put : (f : Format) (v : ℤ) (u : ℕ) → IsInProfile f → FitsSigned w64 v → u ≡ cast_unsigned w64 v
    → (u * 2 ^ (64 - f.realbits)) % 2 ^ 64 / 2 ^ (64 - f.realbits - f.shift) ≡ low_bits f.realbits v * 2 ^ f.shift
number_put f v u p h e =
    let b = bounds_of f p in
    raised u f.realbits f.shift (64 - f.realbits) (64 - f.realbits - f.shift) 64 (omega arith) (omega arith)
    ∙ rw e (ap (λ n. n * 2 ^ f.shift) (low_bits_word f.realbits v (omega arith) h))

pub storage_cases : (n : ℕ) → IsTrue (is_storage n) → (n ≡ 8) ⊎ ((n ≡ 16) ⊎ ((n ≡ 32) ⊎ (n ≡ 64)))
storage_cases n h = grind (arith, nat_tests)

pub repeat_cases : (n : ℕ) → IsTrue (is_repeat n) → (n ≡ 1) ⊎ ((n ≡ 2) ⊎ ((n ≡ 4) ⊎ (n ≡ 8)))
repeat_cases n h = grind (arith, nat_tests)

-- the size of a channel is a power of two
pub size_power : (f : Format) → IsInProfile f → IsPowerOfTwo (size_of f)
size_power f h = product (storage_cases f.storagebits (bounds_of f h).storage) (repeat_cases f.repeat (bounds_of f h).repeat)
  where
    parts : (m n i j : ℕ) → m ≡ 2 ^ i → n ≡ 2 ^ j → IsPowerOfTwo (m * n)
    parts m n i j p q = (i + j, rw (p, q) (sym (pow-add 2 i j)))

    by_repeat : (m i : ℕ) → m ≡ 2 ^ i → (f.repeat ≡ 1) ⊎ ((f.repeat ≡ 2) ⊎ ((f.repeat ≡ 4) ⊎ (f.repeat ≡ 8))) → IsPowerOfTwo (m * f.repeat)
    by_repeat m i e (inl r) = parts m f.repeat i 0 e r
    by_repeat m i e (inr (inl r)) = parts m f.repeat i 1 e r
    by_repeat m i e (inr (inr (inl r))) = parts m f.repeat i 2 e r
    by_repeat m i e (inr (inr (inr r))) = parts m f.repeat i 3 e r

    product : (f.storagebits ≡ 8) ⊎ ((f.storagebits ≡ 16) ⊎ ((f.storagebits ≡ 32) ⊎ (f.storagebits ≡ 64)))
        → (f.repeat ≡ 1) ⊎ ((f.repeat ≡ 2) ⊎ ((f.repeat ≡ 4) ⊎ (f.repeat ≡ 8))) → IsPowerOfTwo (size_of f)
    product (inl s) r = by_repeat (f.storagebits / 8) 0 (ap (λ n. n / 8) s) r
    product (inr (inl s)) r = by_repeat (f.storagebits / 8) 1 (ap (λ n. n / 8) s) r
    product (inr (inr (inl s))) r = by_repeat (f.storagebits / 8) 2 (ap (λ n. n / 8) s) r
    product (inr (inr (inr s))) r = by_repeat (f.storagebits / 8) 3 (ap (λ n. n / 8) s) r

-- the value of an element, computed by shifts of its word
pub number_field : (f : Format) (n : ℕ) → IsInProfile f
    → (n * 2 ^ (64 - f.realbits - f.shift)) % 2 ^ 64 / 2 ^ (64 - f.realbits) ≡ n / 2 ^ f.shift % 2 ^ f.realbits
number_field f n p =
    let b = bounds_of f p in
    lowered n f.realbits f.shift (64 - f.realbits) (64 - f.realbits - f.shift) 64 (omega arith) (omega arith)

-- a word's highest bits, lowered with the sign or without one
pub high_signed : (f : Format) (m : ℕ) → IsInProfile f → f.sign ≡ Signed → m < 2 ^ 64
    → int_shr (cast_signed w64 m) (64 - f.realbits) ≡ value_by f.sign f.realbits (m / 2 ^ (64 - f.realbits))
high_signed f m p e small = search (rules, bounds_of, signed_high)

pub high_below : (f : Format) (m : ℕ) → IsInProfile f → m < 2 ^ 64 → m / 2 ^ (64 - f.realbits) < 2 ^ f.realbits
high_below f m p small = search (rules, bounds_of, shr_below)

pub high_unsigned_small : (f : Format) (m : ℕ) → IsInProfile f → f.sign ≡ Unsigned → m < 2 ^ 64 → m / 2 ^ (64 - f.realbits) < 2 ^ 63
high_unsigned_small f m p e small = search (rules, bounds_of, high_below)

pub high_unsigned : (f : Format) (m : ℕ) → f.sign ≡ Unsigned → pos (m / 2 ^ (64 - f.realbits)) ≡ value_by f.sign f.realbits (m / 2 ^ (64 - f.realbits))
high_unsigned f m e = rw e refl

-- ---- sums

ends_fit : (f : Format) → IsInProfile f → FitsSigned w64 (least_of f) × FitsSigned w64 (greatest_of f) × (least_of f ≤ℤ greatest_of f)
ends_fit f p = search rules

-- saturating a sum to its word first changes nothing
pub saturated_first : (f : Format) (z : ℤ) → IsInProfile f → saturated f (saturate_signed w64 z) ≡ saturated f z
saturated_first f z p = let (low, high, order) = ends_fit f p in saturate_first (least_of f) (greatest_of f) z low high order

pub saturated_within : (f : Format) (z : ℤ) → IsInRange f z → saturated f z ≡ z
saturated_within f z range = grind (arith, ints)

pub saturate_zero : (v b : ℤ) → FitsSigned w64 v → b ≡ pos 0 → v ≡ saturate_signed w64 (v +ℤ b)
saturate_zero v b fits none = grind (arith, ints)
