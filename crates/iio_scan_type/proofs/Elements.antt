-- Elements of a channel, written and read.
use Rattle.std.proofs.Common.{◌≡◌, ℕ, zero, suc, ◌+◌, ◌-◌, ◌*◌, ◌/◌, ◌%◌, ◌^◌, ◌<◌, ◌≤◌, List, [], ◌∷◌, ◌++◌, length, take, drop, reverse, get_or, refl, ap, sym, ◌∙◌, arith, ℤ, pos, negsuc, ◌≤ℤ◌, ◌-ℤ◌, lt-ltb, le-ltb, Bool, true, false, ltb, IsTrue, rules}
use Rattle.std.proofs.lemmas.Grind.{common_steps}
use Rattle.std.proofs.Math.Nat.{pow-suc, pow-le-pow_right, mod-eq_of_lt, div-div-eq-div-mul, one-le-pow}
use Rattle.std.proofs.Math.Arith.{mod-mul}
use Rattle.std.proofs.lemmas.List.{drop_at, take_more}
use Rattle.std.proofs.lemmas.Nat.{pow_pos, shl_below, shl-shr}
use Rattle.std.proofs.lemmas.Int.{ints}
use Rattle.std.proofs.lemmas.Slice.{take-put_mid}
use borrow.Rule.Slice.PartMut.{put_mid}
use Rattle.std.specs.Int.{byte_at, bytes_low_first, bytes_high_first}
use Rattle.iio_scan_type.specs.Bytes.{low_bits, value_by, value_in, value_at, number_bytes, number_of, low_first_number, element_bytes, element_at, channel_bytes}
use Rattle.iio_scan_type.specs.Format.{Format, is_storage, IsInProfile, IsInRange, element_size, least_by, greatest_by}
use Rattle.iio_scan_type.specs.declared.Sign.{Sign}
use Rattle.iio_scan_type.specs.declared.Sign.TheVariants.{Signed, Unsigned}
use Rattle.iio_scan_type.specs.declared.Endian.{Endian}
use Rattle.iio_scan_type.specs.declared.Endian.TheVariants.{Big, Little}
use Rattle.iio_scan_type.proofs.Numbers.{bounds_of, high_below, neg_is}

-- ---- a value of that many bits

two_halves : (r : ℕ) → 1 ≤ r → 2 ^ r ≡ 2 ^ (r - 1) + 2 ^ (r - 1)
two_halves r h = grind (arith, common_steps)

pub value_in_range : (s : Sign) (r n : ℕ) → 1 ≤ r → n < 2 ^ r → (least_by s r ≤ℤ value_by s r n) × (value_by s r n ≤ℤ greatest_by s r)
value_in_range s r n some h = grind (arith, common_steps)

low_bits_lt : (r : ℕ) (v : ℤ) → low_bits r v < 2 ^ r
low_bits_lt r v = search rules

pub low_bits-value : (s : Sign) (r n : ℕ) → 1 ≤ r → n < 2 ^ r → low_bits r (value_by s r n) ≡ n
low_bits-value Unsigned r n some h = mod-eq_of_lt h
low_bits-value Signed r n some h = by_cases (ltb n (2 ^ (r - 1))) refl
  where
    by_cases : (b : Bool) → ltb n (2 ^ (r - 1)) ≡ b → low_bits r (value_by Signed r n) ≡ n
    by_cases true t = rw t (mod-eq_of_lt h)
    by_cases false t =
        let turned : pos n -ℤ pos (2 ^ r) ≡ negsuc (2 ^ r - 1 - n) = omega (arith, ints) in
        let small : 2 ^ r - 1 - n < 2 ^ r = omega (arith, pow_pos r) in
        rw (t, turned, mod-eq_of_lt small) (omega arith)

pub value-low_bits : (s : Sign) (r : ℕ) (v : ℤ) → 1 ≤ r → least_by s r ≤ℤ v → v ≤ℤ greatest_by s r → value_by s r (low_bits r v) ≡ v
value-low_bits Unsigned r (pos n) some low high = ap pos (mod-eq_of_lt (omega (arith, ints, pow_pos r)))
value-low_bits Unsigned r (negsuc n) some low high = absurd (omega (arith, ints))
value-low_bits Signed r (pos n) some low high =
    let half = two_halves r some in
    let small : n < 2 ^ (r - 1) = omega (arith, ints, pow_pos (r - 1)) in
    let same : n % 2 ^ r ≡ n = mod-eq_of_lt (omega arith) in
    rw (same, lt-ltb _ _ small) refl
value-low_bits Signed r (negsuc n) some low high =
    let half = two_halves r some in
    let least : negsuc (2 ^ (r - 1) - 1) ≤ℤ negsuc n = rw (neg_is (2 ^ (r - 1)) (pow_pos (r - 1))) at low in
    let small : n < 2 ^ (r - 1) = omega (arith, ints, pow_pos (r - 1)) in
    let same : n % 2 ^ r ≡ n = mod-eq_of_lt (omega arith) in
    let big : 2 ^ (r - 1) ≤ 2 ^ r - 1 - n = omega arith in
    rw (same, le-ltb _ _ big) (omega (arith, ints))

-- ---- numbers in bytes

byte_at_is : (i n : ℕ) → byte_at i n ≡ n / 256 ^ i % 256
byte_at_is i n = search rules

pub length-number_bytes : (e : Endian) (k n : ℕ) → length (number_bytes e k n) ≡ k
length-number_bytes Little k n = low 0 k n
  where
    low : (i k n : ℕ) → length (bytes_low_first i k n) ≡ k
    low i zero n = refl
    low i (suc k) n = ap suc (low (suc i) k n)
length-number_bytes Big zero n = refl
length-number_bytes Big (suc k) n = ap suc (length-number_bytes Big k n)

low_first_bytes : (i k n : ℕ) → low_first_number (bytes_low_first i k n) ≡ n / 256 ^ i % 256 ^ k
low_first_bytes i zero n = omega arith
low_first_bytes i (suc k) n =
    let next : n / 256 ^ suc i ≡ n / 256 ^ i / 256 = ap (λ m. n / m) (pow-suc 256 i) ∙ sym (div-div-eq-div-mul n (256 ^ i) 256) in
    let split = mod-mul (n / 256 ^ i) {m = 256 ^ k} {c = 256} (omega (arith, one-le-pow k 256 (omega arith))) (omega arith) in
    rw (byte_at_is i n, low_first_bytes (suc i) k n, next, pow-suc 256 k, split) (omega arith)

low_first_push : (i k n j : ℕ) → j ≡ i + k → bytes_low_first i (suc k) n ≡ bytes_low_first i k n ++ byte_at j n ∷ []
low_first_push i zero n j e = ap (λ m. byte_at m n ∷ []) (omega arith)
low_first_push i (suc k) n j e = ap (λ t. byte_at i n ∷ t) (low_first_push (suc i) k n j (omega arith))

reverse-high_first : (k n : ℕ) → reverse (bytes_high_first k n) ≡ bytes_low_first 0 k n
reverse-high_first zero n = refl
reverse-high_first (suc k) n = grind (arith, common_steps, byte_at, low_first_push, reverse-high_first k n)

low_first_back : (k n : ℕ) → n < 256 ^ k → low_first_number (bytes_low_first 0 k n) ≡ n
low_first_back k n h = low_first_bytes 0 k n ∙ ap (λ m. m % 256 ^ k) (let m : n / 1 ≡ n = omega arith in m) ∙ mod-eq_of_lt h

-- a number is read back from as many bytes as it needs
number_of-number_bytes : (e : Endian) (k n : ℕ) → n < 256 ^ k → number_of e (number_bytes e k n) ≡ n
number_of-number_bytes e k n h = search (rules, low_first_back, reverse-high_first)

-- ---- the elements of a channel

channel_bytes-append : (f : Format) (xs ys : List ℤ) → channel_bytes f (xs ++ ys) ≡ channel_bytes f xs ++ channel_bytes f ys
channel_bytes-append f [] ys = refl
channel_bytes-append f (x ∷ xs) ys = grind (arith, common_steps, channel_bytes-append f xs ys)

-- another element
pub channel_bytes-more : (f : Format) (xs : List ℤ) (k : ℕ) (v : ℤ) → k < length xs → v ≡ get_or xs k v
    → channel_bytes f (take (k + 1) xs) ≡ channel_bytes f (take k xs) ++ element_bytes f v
channel_bytes-more f xs k v h e = grind (arith, common_steps, take_more, channel_bytes-append)

element_at-channel_bytes : (f : Format) (vs : List ℤ) (k : ℕ) (d : ℤ) → k < length vs → element_at f (channel_bytes f vs) k ≡ element_bytes f (get_or vs k d)
element_at-channel_bytes f [] k d h = absurd (omega arith)
element_at-channel_bytes f (v ∷ vs) zero d h = grind (arith, common_steps, length-number_bytes)
element_at-channel_bytes f (v ∷ vs) (suc k) d h =
    let n : ℕ = element_size f in
    let size : length (element_bytes f v) ≡ n = length-number_bytes f.endian n _ in
    let rest : drop n (element_bytes f v ++ channel_bytes f vs) ≡ channel_bytes f vs = drop_at (element_bytes f v) (channel_bytes f vs) n size in
    let past : drop (suc k * n) (element_bytes f v ++ channel_bytes f vs) ≡ drop (k * n) (channel_bytes f vs) = grind (arith, common_steps) in
    ap (take n) past ∙ element_at-channel_bytes f vs k d (omega arith)

storage_bytes : (n : ℕ) → IsTrue (is_storage n) → 256 ^ (n / 8) ≡ 2 ^ n
storage_bytes n h = search rules

-- the number of an element fits its storage
pub number_below : (f : Format) (v : ℤ) → IsInProfile f → low_bits f.realbits v * 2 ^ f.shift < 2 ^ f.storagebits
number_below f v p =
    let b = bounds_of f p in
    let small : low_bits f.realbits v * 2 ^ f.shift < 2 ^ (f.realbits + f.shift) = search (rules, shl_below, low_bits_lt) in
    let room : 2 ^ (f.realbits + f.shift) ≤ 2 ^ f.storagebits = pow-le-pow_right {n = 2} (omega arith) b.within in
    omega arith

-- a value that the highest bits of a word say lies in the range
pub extended_in_range : (f : Format) (m : ℕ) (v : ℤ) → IsInProfile f → m < 2 ^ 64 → value_by f.sign f.realbits (m / 2 ^ (64 - f.realbits)) ≡ v → IsInRange f v
extended_in_range f m v p small is = search (rules, value_in_range, bounds_of, high_below)

-- a value in range is read back
pub value_at-channel_bytes : (f : Format) (vs : List ℤ) (k : ℕ) (d : ℤ) → IsInProfile f → k < length vs → IsInRange f (get_or vs k d)
    → value_at f (channel_bytes f vs) k ≡ get_or vs k d
value_at-channel_bytes f vs k d p h range =
    let b = bounds_of f p in
    let v : ℤ = get_or vs k d in
    let low : low_bits f.realbits v < 2 ^ f.realbits = low_bits_lt f.realbits v in
    let number : ℕ = low_bits f.realbits v * 2 ^ f.shift in
    let below = number_below f v p in
    let bytes = storage_bytes f.storagebits b.storage in
    let fits : number < 256 ^ element_size f = rw bytes (omega arith) in
    let field : number / 2 ^ f.shift % 2 ^ f.realbits ≡ low_bits f.realbits v = rw (shl-shr (low_bits f.realbits v) f.shift) (mod-eq_of_lt low) in
    ap (λ t. value_in f (number_of f.endian t)) (element_at-channel_bytes f vs k d h)
    ∙ ap (value_in f) (number_of-number_bytes f.endian (element_size f) number fits)
    ∙ ap (value_by f.sign f.realbits) field ∙ value-low_bits f.sign f.realbits v b.some range.0 range.1

-- the loop that writes the elements writes another one
pub put_more : (f : Format) (vs : List ℤ) (k n : ℕ) (out part : List ℕ) (v : ℤ) → n ≡ element_size f → k < length vs → v ≡ get_or vs k v
    → (k + 1) * n ≤ length out → part ≡ element_bytes f v → take (k * n) out ≡ channel_bytes f (take k vs)
    → take ((k + 1) * n) (put_mid (k * n) ((k + 1) * n - k * n) out part) ≡ channel_bytes f (take (k + 1) vs)
put_more f vs k n out part v size h e room w so_far = search (rules, length-number_bytes, take-put_mid, channel_bytes-more)

-- what is read lies in the range, and its bits are those in the storage
pub value_in-range : (f : Format) (n : ℕ) → IsInProfile f → IsInRange f (value_in f n)
value_in-range f n p = search (rules, value_in_range, bounds_of)

pub low_bits-value_in : (f : Format) (n : ℕ) → IsInProfile f → low_bits f.realbits (value_in f n) ≡ n / 2 ^ f.shift % 2 ^ f.realbits
low_bits-value_in f n p = search (rules, low_bits-value, bounds_of)
