-- The text of a mask, both ways, and what the crate `hex` reads and writes.
use Rattle.std.proofs.Common.{◌≡◌, ℕ, zero, suc, ◌+◌, ◌-◌, ◌*◌, ◌/◌, ◌%◌, ◌^◌, ◌<◌, ◌≤◌, nat_lt, cond, List, [], ◌∷◌, ◌++◌, length, get_or, slice_index, replicate, Option, Some, None, Result, Ok, Err, option_map, option_and_then, MatchOption, MatchResult, refl, sym, ap, ◌∙◌, arith, rules}
use Rattle.std.proofs.lemmas.Grind.{common_steps}
use Rattle.std.specs.Int.{Width, w32, w64, byte_at, byte_len, bytes_high_first, to_be_bytes, from_be_bytes}
use Rattle.std.specs.Result.{result_ok}
use Rattle.std.specs.Str.{str_to_ascii_lowercase}
use Rattle.std.specs.Char.{to_ascii_lowercase}
use Rattle.std.proofs.lemmas.Bool.{eq-eqb, lt-ltb, le-leb, lt-leb}
use Rattle.std.proofs.lemmas.Bool.Decides.{nat_tests}
use Rattle.std.proofs.lemmas.List.{length-map}
use Rattle.std.proofs.lemmas.Nat.{be_bytes_4, be_bytes_8}
use Rattle.hex.specs.Hex.{decode_pairs, decode_sized, digit_or_error, encode_lower, encode_with, hex_digit_value, lower_digits, ◌>>=◌}
use Rattle.hex.specs.declared.error.FromHexError.{FromHexError}
use Rattle.hex.proofs.HexLemmas.{IsDigits-lower_digits}
use Rattle.iio_mask.specs.Text.{below_channels, byte_of, bytes_of, digit_count, digits_of, mask_of, mask_text, mask_width, number_of, sized_bytes, IsMaskText}

-- what `hex` writes
pub encode_lower-is : (bytes : List ℕ) → encode_lower bytes ≡ digits_of bytes
unfolding encode_with
encode_lower-is [] = refl
encode_lower-is (b ∷ bytes) = ap (λ (t : List ℕ). slice_index lower_digits (b / 16) ∷ slice_index lower_digits (b % 16) ∷ t) (encode_lower-is bytes)

-- ---- what `hex` reads

pair_ok : (h l i : ℕ) (high low : Option ℕ)
    → result_ok (digit_or_error h i high >>= λ x. digit_or_error l (i + 1) low >>= λ y. Ok (x * 16 + y))
    ≡ option_and_then (λ x. option_map (λ y. x * 16 + y) low) high
pair_ok h l i high low = search rules

both_ok : (byte : Result ℕ FromHexError) (rest : Result (List ℕ) FromHexError)
    → result_ok (byte >>= λ b. rest >>= λ bs. Ok (b ∷ bs)) ≡ option_and_then (λ b. option_map (λ bs. b ∷ bs) (result_ok rest)) (result_ok byte)
both_ok byte rest = search rules

pairs_ok : (i : ℕ) (text : List ℕ) → result_ok (decode_pairs i text) ≡ bytes_of text
unfolding decode_pairs
pairs_ok i [] = refl
pairs_ok i (c ∷ []) = refl
pairs_ok i (h ∷ l ∷ rest) = simp (both_ok, pair_ok, pairs_ok (i + 2) rest)

sized_ok : (text : List ℕ) (n : ℕ) → result_ok (decode_sized text n) ≡ sized_bytes text n
sized_ok text n = grind (arith, common_steps, pairs_ok)

matched : (decoded : Result (List ℕ) FromHexError) (result : Result (Unit {0}) FromHexError) (out : List ℕ)
    → MatchResult decoded (λ bytes. (result ≡ Ok tt) × (out ≡ bytes)) (λ e. result ≡ Err e)
    → MatchOption (result_ok decoded) (result_ok result ≡ None) (λ bytes. (result_ok result ≡ Some tt) × (out ≡ bytes))
matched decoded result out h = search rules

-- what the buffer has after `decode_to_slice`
pub decoded : (text : List ℕ) (n : ℕ) (result : Result (Unit {0}) FromHexError) (out : List ℕ)
    → MatchResult (decode_sized text n) (λ bytes. (result ≡ Ok tt) × (out ≡ bytes)) (λ e. result ≡ Err e)
    → MatchOption (sized_bytes text n) (result_ok result ≡ None) (λ bytes. (result_ok result ≡ Some tt) × (out ≡ bytes))
decoded text n result out h =
    rw (sized_ok text n) at (matched (decode_sized text n) result out h)

-- ---- lengths and bytes

pub length-digits_of : (bytes : List ℕ) → length (digits_of bytes) ≡ 2 * length bytes
length-digits_of [] = refl
length-digits_of (b ∷ bytes) = let e = length-digits_of bytes in omega (arith, e)

pub length-to_be_bytes : (channels n : ℕ) → length (to_be_bytes (mask_width channels) n) ≡ byte_len (mask_width channels)
length-to_be_bytes channels n = search rules

-- the bytes of a number with no bit at or above the channel count give it back
from_bytes_of : (channels n : ℕ) → channels ≤ 64 → n < 2 ^ channels
    → from_be_bytes (mask_width channels) (to_be_bytes (mask_width channels) n) ≡ n
from_bytes_of channels n few below = search rules

-- the number of that many bytes gives them back
bytes_of_from : (channels : ℕ) (bytes : List ℕ) → length bytes ≡ byte_len (mask_width channels) → ((i : ℕ) → get_or bytes i 0 < 256)
    → to_be_bytes (mask_width channels) (from_be_bytes (mask_width channels) bytes) ≡ bytes
bytes_of_from channels bytes h1 h2 = search (rules, be_bytes_4, be_bytes_8)

byte_of_digits : (b : ℕ) → b < 256 → byte_of (slice_index lower_digits (b / 16)) (slice_index lower_digits (b % 16)) ≡ Some b
byte_of_digits b fits =
    let high = IsDigits-lower_digits (b / 16) (omega arith) in
    let low = IsDigits-lower_digits (b % 16) (omega arith) in
    let whole : b / 16 * 16 + b % 16 ≡ b = omega arith in
    rw (high, low) (ap Some whole)

-- printed digits are read back
bytes_of-digits_of : (bytes : List ℕ) → ((i : ℕ) → get_or bytes i 0 < 256) → bytes_of (digits_of bytes) ≡ Some bytes
bytes_of-digits_of [] each = refl
bytes_of-digits_of (b ∷ bytes) each =
    let first = byte_of_digits b (each 0) in
    let rest = bytes_of-digits_of bytes (λ i. each (suc i)) in
    rw (first, rest) refl

byte_at-lt : (i n : ℕ) → byte_at i n < 256
byte_at-lt i n = search rules

high_first_fits : (k n i : ℕ) → get_or (bytes_high_first k n) i 0 < 256
high_first_fits zero n i = omega arith
high_first_fits (suc k) n zero = byte_at-lt k n
high_first_fits (suc k) n (suc i) = high_first_fits k n i

byte_at_fits : (w : Width) (n i : ℕ) → get_or (to_be_bytes w n) i 0 < 256
byte_at_fits w n i = high_first_fits (byte_len w) n i

-- ---- letters of either case

pub length-lower : (text : List ℕ) → length (str_to_ascii_lowercase text) ≡ length text
length-lower text = length-map text to_ascii_lowercase

hex_digit_value-lower : (c : ℕ) → hex_digit_value (to_ascii_lowercase c) ≡ hex_digit_value c
hex_digit_value-lower c = grind (arith, nat_tests)

bytes_of-lower : (text : List ℕ) → bytes_of (str_to_ascii_lowercase text) ≡ bytes_of text
bytes_of-lower [] = refl
bytes_of-lower (c ∷ []) = refl
bytes_of-lower (h ∷ l ∷ rest) = simp (hex_digit_value-lower, bytes_of-lower rest)

-- the digit of a value, in lower case
abbrev glyph : ℕ → ℕ
glyph d = cond (nat_lt d 10) (48 + d) (87 + d)

digit_is_glyph : (d : ℕ) → d < 16 → slice_index lower_digits d ≡ glyph d
digit_is_glyph d small = search rules

-- a digit that is read is that of its value, in either case
lower_is_glyph : (c d : ℕ) → hex_digit_value c ≡ Some d → (to_ascii_lowercase c ≡ glyph d) × (d < 16)
lower_is_glyph c d h = (grind (arith, nat_tests), grind (arith, nat_tests))

lower_is_digit : (c d : ℕ) → hex_digit_value c ≡ Some d → (to_ascii_lowercase c ≡ slice_index lower_digits d) × (d < 16)
lower_is_digit c d h = let is = lower_is_glyph c d h in (is.0 ∙ sym (digit_is_glyph d is.1), is.1)

-- what is read, spelled in lower case, and the length of its text
pub record Spells (text bytes : List ℕ) : Type 0 where
  pub lower : str_to_ascii_lowercase text ≡ digits_of bytes
  pub small : (i : ℕ) → get_or bytes i 0 < 256
  pub len : length text ≡ 2 * length bytes

bound_some : {A B : Type 0} (o : Option A) (f : A → Option B) (y : B) → option_and_then f o ≡ Some y → (x : A) × (o ≡ Some x) × (f x ≡ Some y)
bound_some o f y h = search rules

mapped_some : {A B : Type 0} (o : Option A) (f : A → B) (y : B) → option_map f o ≡ Some y → (x : A) × (o ≡ Some x) × (f x ≡ y)
mapped_some o f y h = search rules

Spells-pair : (h l x y : ℕ) (text bytes : List ℕ) → hex_digit_value h ≡ Some x → hex_digit_value l ≡ Some y
    → Spells text bytes → Spells (h ∷ l ∷ text) ((x * 16 + y) ∷ bytes)
Spells-pair h l x y text bytes high low rest =
    let a = lower_is_digit h x high in
    let b = lower_is_digit l y low in
    let x_is : (x * 16 + y) / 16 ≡ x = omega arith in
    let y_is : (x * 16 + y) % 16 ≡ y = omega arith in
    record {
      lower = rw (x_is, y_is, a.0, b.0, rest.lower) refl;
      small = λ i. elim i as (λ k. get_or ((x * 16 + y) ∷ bytes) k 0 < 256) [ zero ↦ omega arith | suc k ↦ rest.small k ];
      len = let len = rest.len in omega arith;
    }

pub bytes_of-spells : (text bytes : List ℕ) → bytes_of text ≡ Some bytes → Spells text bytes
bytes_of-spells [] bytes h = search rules
bytes_of-spells (c ∷ []) bytes h = cc h
bytes_of-spells (h ∷ l ∷ rest) bytes is =
    let byte = bound_some (byte_of h l) (λ b. option_map (λ bs. b ∷ bs) (bytes_of rest)) bytes is in
    let more = mapped_some (bytes_of rest) (λ bs. byte.0 ∷ bs) bytes byte.2 in
    let high = bound_some (hex_digit_value h) (λ x. option_map (λ y. x * 16 + y) (hex_digit_value l)) byte.0 byte.1 in
    let low = mapped_some (hex_digit_value l) (λ y. high.0 * 16 + y) byte.0 high.2 in
    let e : (high.0 * 16 + low.0) ∷ more.0 ≡ bytes = ap (λ b. b ∷ more.0) low.2 ∙ more.2 in
    rw (← e) (Spells-pair h l high.0 low.0 rest more.0 high.1 low.1 (bytes_of-spells rest more.0 more.1))

below_some : (channels m n : ℕ) → below_channels channels m ≡ Some n → (m < 2 ^ channels) × (m ≡ n)
below_some channels m n h = search rules

sized_some : (text : List ℕ) (n : ℕ) (bytes : List ℕ) → sized_bytes text n ≡ Some bytes
    → (length text ≡ 2 * n) × (bytes_of text ≡ Some bytes)
sized_some text n bytes h = search rules

-- what is read is a text of the mask
pub text-mask_of : (channels n : ℕ) (text : List ℕ) → mask_of text channels ≡ Some n → IsMaskText channels text n
text-mask_of channels n text is =
    let found = bound_some (number_of text channels) (below_channels channels) n is in
    let fits = below_some channels found.0 n found.2 in
    let read = mapped_some (sized_bytes text (byte_len (mask_width channels))) (from_be_bytes (mask_width channels)) found.0 found.1 in
    let sized = sized_some text (byte_len (mask_width channels)) read.0 read.1 in
    let spells = bytes_of-spells text read.0 sized.1 in
    let len = spells.len in
    let back = bytes_of_from channels read.0 (omega (arith, sized.0)) spells.small in
    record {
      below = rw (← fits.1) fits.0;
      spelled = spells.lower ∙ ap digits_of (sym back ∙ ap (to_be_bytes (mask_width channels)) (read.2 ∙ fits.1));
    }

-- a text of a mask is read as the mask
pub mask_of-text : (channels n : ℕ) (text : List ℕ) → channels ≤ 64 → IsMaskText channels text n → mask_of text channels ≡ Some n
mask_of-text channels n text few is =
    let len = length-digits_of (to_be_bytes (mask_width channels) n) in
    let len' = length-to_be_bytes channels n in
    let same = length-lower text in
    let spelled = ap length is.spelled in
    let sized = eq-eqb (length text) (2 * byte_len (mask_width channels)) (omega arith) in
    let read : bytes_of text ≡ Some (to_be_bytes (mask_width channels) n) =
    sym (bytes_of-lower text) ∙ ap bytes_of is.spelled
    ∙ bytes_of-digits_of (to_be_bytes (mask_width channels) n) (byte_at_fits (mask_width channels) n) in
    let number = from_bytes_of channels n few is.below in
    let below = lt-ltb n (2 ^ channels) is.below in
    rw (sized, read, number, below) refl

-- a printed digit is in lower case
lower_digit : (d : ℕ) → d < 16 → to_ascii_lowercase (slice_index lower_digits d) ≡ slice_index lower_digits d
lower_digit d small = search rules

lower-digits_of : (bytes : List ℕ) → ((i : ℕ) → get_or bytes i 0 < 256) → str_to_ascii_lowercase (digits_of bytes) ≡ digits_of bytes
lower-digits_of [] each = refl
lower-digits_of (b ∷ bytes) each = grind (arith, common_steps, lower_digit, lower-digits_of bytes (λ i. each (suc i)))

-- what is printed is read back
pub mask_of-mask_text : (channels n : ℕ) → channels ≤ 64 → n < 2 ^ channels → mask_of (mask_text channels n) channels ≡ Some n
mask_of-mask_text channels n few below = search (rules, mask_of-text, lower-digits_of, byte_at_fits)

-- ---- one word, and two

pub word_text : (channels n : ℕ) (text : List ℕ) → channels ≤ 32 → text ≡ encode_lower (to_be_bytes w32 n) → text ≡ mask_text channels n
word_text channels n text few is = search (rules, encode_lower-is)

pub words_text : (channels n : ℕ) (text : List ℕ) → 32 < channels → text ≡ encode_lower (to_be_bytes w64 n) → text ≡ mask_text channels n
words_text channels n text many is = search (rules, encode_lower-is)

-- what a buffer of bytes has, and the number that a text spells
abbrev pub ReadsBytes : List ℕ → ℕ → Option (Unit {0}) → List ℕ → Type 0
ReadsBytes text n result out = MatchOption (sized_bytes text n) (result ≡ None) (λ bytes. (result ≡ Some tt) × (out ≡ bytes))

read_none : (o : Option (List ℕ)) (r : Option (Unit {0})) (out : List ℕ) (f : List ℕ → ℕ)
    → MatchOption o (r ≡ None) (λ bytes. (r ≡ Some tt) × (out ≡ bytes)) → r ≡ None → None ≡ option_map f o
read_none o r out f h none = search rules

read_some : (o : Option (List ℕ)) (r : Option (Unit {0})) (out : List ℕ) (f : List ℕ → ℕ) (u : Unit {0})
    → MatchOption o (r ≡ None) (λ bytes. (r ≡ Some tt) × (out ≡ bytes)) → r ≡ Some u → Some (f out) ≡ option_map f o
read_some o r out f u h some = search rules

pub word_none : (text : List ℕ) (channels : ℕ) (r : Option (Unit {0})) (out : List ℕ) → channels ≤ 32 → ReadsBytes text 4 r out → r ≡ None
    → None ≡ number_of text channels
word_none text channels r out few h none = grind (arith, common_steps, read_none)

pub word_some : (text : List ℕ) (channels : ℕ) (r : Option (Unit {0})) (out : List ℕ) (u : Unit {0}) → channels ≤ 32 → ReadsBytes text 4 r out → r ≡ Some u
    → Some (from_be_bytes w32 out) ≡ number_of text channels
word_some text channels r out u few h some =
    let one = le-leb channels 32 few in
    rw one (read_some (sized_bytes text 4) r out (from_be_bytes w32) u h some)

pub words_none : (text : List ℕ) (channels : ℕ) (r : Option (Unit {0})) (out : List ℕ) → 32 < channels → ReadsBytes text 8 r out → r ≡ None
    → None ≡ number_of text channels
words_none text channels r out many h none = grind (arith, common_steps, read_none)

pub words_some : (text : List ℕ) (channels : ℕ) (r : Option (Unit {0})) (out : List ℕ) (u : Unit {0}) → 32 < channels → ReadsBytes text 8 r out → r ≡ Some u
    → Some (from_be_bytes w64 out) ≡ number_of text channels
words_some text channels r out u many h some =
    let two = lt-leb channels 32 many in
    rw two (read_some (sized_bytes text 8) r out (from_be_bytes w64) u h some)

-- ---- the text in place

pub word_buffer : (channels n : ℕ) (out : List ℕ) → channels ≤ 32 → out ≡ encode_lower (to_be_bytes w32 n)
    → out ++ replicate 8 0 ≡ mask_text channels n ++ replicate (16 - digit_count channels) 0
word_buffer channels n out few is = search (rules, encode_lower-is)

pub words_buffer : (channels n : ℕ) (out : List ℕ) → 32 < channels → out ≡ encode_lower (to_be_bytes w64 n)
    → out ≡ mask_text channels n ++ replicate (16 - digit_count channels) 0
words_buffer channels n out many is = search (rules, encode_lower-is)
