-- Places, sizes and scans: bounds, another channel, and the timestamp.
use Rattle.std.proofs.Common.{◌≡◌, ◌≢◌, ℕ, ◌+◌, ◌-◌, ◌*◌, ◌/◌, ◌%◌, ◌^◌, ◌<◌, ◌≤◌, max, true, List, [], ◌∷◌, ◌++◌, length, map, take, Some, ℤ, refl, ap, ◌∙◌, inl, inr, arith, add-one, rules}
use Rattle.std.proofs.lemmas.Grind.{common_steps}
use Rattle.std.specs.Int.{IsPowerOfTwo, next_multiple_of}
use Rattle.std.proofs.lemmas.Bool.{cases_lt, cases_eq}
use Rattle.std.proofs.Math.Nat.{mod-eq_of_lt, mod_self, mod-zero, mul-mod_right, mul_assoc, zero-mod}
use Rattle.std.proofs.Math.Pow.{pow_mono, pow-add}
use Rattle.iio_mask.specs.Mask.{has}
use Rattle.iio_scan_type.specs.Bytes.{channel_bytes}
use Rattle.iio_scan_type.specs.Format.{Format, stamp_format}
use Rattle.iio_scan_type.specs.declared.Endian.{Endian}
use Rattle.iio_scan_type.specs.declared.TheConstants.{MAX_CHANNEL_SIZE}
use Rattle.std.proofs.Math.Seq.{take-append-add}
use borrow.Rule.Slice.PartMut.{put_mid}
use Rattle.iio_layout.specs.declared.channel.Channel.{Channel}
use Rattle.iio_layout.specs.Layout.{end_below, format_at, scan_size, size_at}
use Rattle.iio_layout.specs.Scan.{capture_values, field_of, values_at}
use Rattle.iio_layout.specs.Shape.{ShapeRecord, count_of, formats_of, stamp_formats, width_of}
use Rattle.iio_layout.specs.Laws.{count_is, end_grows}

-- ---- multiples

below_next : (x y q p : ℕ) → y * q < x → x ≤ y * p → y * (q + 1) ≤ y * p
below_next x y q p above below = grind (arith, common_steps)

-- no multiple at or above a number is below the least one
pub next_multiple-le : (x y m : ℕ) → 0 < y → x ≤ m → m % y ≡ 0 → next_multiple_of x y ≤ m
next_multiple-le x y m some within whole =
    elim (cases_eq (x % y) 0) [
      | inl on ↦
          let gap : y - x % y ≡ y = omega arith in
          let none : (y - x % y) % y ≡ 0 = rw gap (mod_self y) in
          omega arith
      | inr off ↦
          let rest : (y - x % y) % y ≡ y - x % y = mod-eq_of_lt (omega arith) in
          let above : y * (x / y) < x = omega arith in
          let p : m ≡ y * (m / y) = omega arith in
          let next = below_next x y (x / y) (m / y) above (omega arith) in
          omega (arith, next)
    ]

-- a number between a multiple and the next one, less its remainder, is that multiple
multiple_is : (y l q : ℕ) → y * q ≤ l → l < y * (q + 1) → l - l % y ≡ y * q
multiple_is y l q from below = grind (arith, common_steps)

-- the last multiple that begins before the least one at or above a number ends is that least one
pub last_multiple : (x y : ℕ) → 0 < y → x + (y - 1) - (x + (y - 1)) % y ≡ next_multiple_of x y
last_multiple x y some = grind (arith, common_steps, multiple_is)

-- a multiple of zero
pub next_multiple-zero : (x : ℕ) → next_multiple_of x 0 ≡ x
next_multiple-zero x = let none = zero-mod 0 in let all = mod-zero x in omega (arith, none, all)

-- ---- sizes are powers of two up to the limit

-- the limit is 2 to this power
abbrev limit_power : ℕ
limit_power = 4

limit_is : MAX_CHANNEL_SIZE ≡ 2 ^ limit_power
limit_is = refl

power_within : (e : ℕ) → 2 ^ e ≤ MAX_CHANNEL_SIZE → e ≤ limit_power
power_within e within =
    elim (cases_lt limit_power e) [
      | inl above ↦ let large = pow_mono above in absurd (omega (arith, large))
      | inr below ↦ below
    ]

-- each size divides the limit
limit_whole : (size k : ℕ) → IsPowerOfTwo size → size ≤ MAX_CHANNEL_SIZE → MAX_CHANNEL_SIZE * k % size ≡ 0
limit_whole size k power within =
    let e = power.0 in
    let small = power_within e (rw power.1 at within) in
    let parts : MAX_CHANNEL_SIZE ≡ 2 ^ e * 2 ^ (limit_power - e) = ap (λ n. 2 ^ n) (split e limit_power small) ∙ pow-add 2 e (limit_power - e) in
    rw (power.1, parts, mul_assoc (2 ^ e) (2 ^ (limit_power - e)) k) (mul-mod_right (2 ^ e) (2 ^ (limit_power - e) * k))
  where
    split : (a b : ℕ) → a ≤ b → b ≡ a + (b - a)
    split a b h = omega arith

-- k channels end within k times the limit
pub end-few : (end size k : ℕ) → IsPowerOfTwo size → 1 ≤ size → size ≤ MAX_CHANNEL_SIZE → end ≤ MAX_CHANNEL_SIZE * k
    → next_multiple_of end size ≤ MAX_CHANNEL_SIZE * k
end-few end size k power some within few = next_multiple-le end size (MAX_CHANNEL_SIZE * k) some few (limit_whole size k power within)

-- ---- another channel

pub next_end : (formats : List Format) (mask c : ℕ) → has mask c ≡ true
    → next_multiple_of (end_below formats mask c) (size_at formats c) + size_at formats c ≡ end_below formats mask (c + 1)
next_end formats mask c selected = rw (add-one, selected) refl

-- the larger of two powers of two is a power of two, even if the first is 0
pub max-power : (largest size : ℕ) → (largest ≢ 0 → IsPowerOfTwo largest) → IsPowerOfTwo size → max largest size ≢ 0 → IsPowerOfTwo (max largest size)
max-power largest size power own some =
    elim (cases_lt size largest) [
      | inl less ↦ let is : max largest size ≡ largest = omega arith in rw is (power (λ none. absurd (omega (arith, none))))
      | inr more ↦ let is : max largest size ≡ size = omega arith in rw is own
    ]

-- a selected channel lies within the scan
pub end_within : (shape : ShapeRecord) (mask c : ℕ) → c < count_of shape → has mask c ≡ true
    → next_multiple_of (end_below (formats_of shape) mask c) (size_at (formats_of shape) c) + size_at (formats_of shape) c ≤ scan_size shape mask
end_within shape mask c within selected =
    let formats = formats_of shape in
    let next = next_end formats mask c selected in
    let grows = end_grows formats mask (c + 1) (count_of shape) (omega arith) in
    omega (arith, next, grows)

-- ---- the timestamp

-- the timestamp's type is the last
pub stamp_type : (xs : List Channel) (endian : Endian)
    → format_at (map (λ channel. channel.ty) xs ++ stamp_formats (Some endian)) (length xs) ≡ stamp_format endian
stamp_type [] endian = refl
stamp_type (x ∷ xs) endian = stamp_type xs endian

pub stamp_type_of : (shape : ShapeRecord) (endian : Endian) → shape.stamp ≡ Some endian
    → format_at (formats_of shape) (length shape.channels) ≡ stamp_format endian
stamp_type_of shape endian stamped = search (rules, stamp_type)

-- the timestamp's one value is the moment
pub stamp_values : (shape : ShapeRecord) (endian : Endian) (values : List ℤ) (t : ℤ) → shape.stamp ≡ Some endian → length values ≡ width_of shape
    → t ∷ [] ≡ values_at (formats_of shape) (capture_values values t) (length shape.channels)
stamp_values shape endian values t stamped wide = grind (arith, common_steps)

pub stamped_count : (shape : ShapeRecord) (endian : Endian) → shape.stamp ≡ Some endian → length shape.channels + 1 ≡ count_of shape
stamped_count shape endian some = let count = count_is shape in let stamp = ap (λ s. length (stamp_formats s)) some in omega arith

-- the timestamp's bytes are those of the moment
pub stamp_field : (shape : ShapeRecord) (values : List ℤ) (t : ℤ) (c : ℕ) → length values ≡ width_of shape → length shape.channels ≤ c → c < count_of shape
    → ((format_at (formats_of shape) c).repeat ≡ 1) × (channel_bytes (format_at (formats_of shape) c) (t ∷ []) ≡ field_of shape values t c)
stamp_field shape values t c wide after within = grind (arith, common_steps)

-- ---- bytes

-- what is written at the front of the bytes from a place on
pub take-put_front : (place size m : ℕ) (out part : List ℕ) → place ≤ length out → size ≤ length part
    → take (place + size) (put_mid place m out part) ≡ take place out ++ take size part
take-put_front place size m out part within room = grind (arith, common_steps, take-append-add)
