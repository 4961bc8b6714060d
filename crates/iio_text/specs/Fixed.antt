-- Texts of values: fixed-point decimals, after what the kernel prints (IIO_VAL_INT, IIO_VAL_INT_PLUS_MICRO,
-- IIO_VAL_INT_PLUS_NANO) and reads (iio_str_to_fixpoint); the exact grammar is this project's own.
use Rattle.std.specs.Prelude.{◌≡◌, ℕ, zero, suc, ◌+◌, ◌-◌, ◌/◌, ◌%◌, ◌^◌, ◌<◌, ◌≤◌, Bool, true, not, ◌==◌, ◌&&◌, ◌||◌, nat_le, if◌then◌else◌, List, [], ◌∷◌, ◌++◌, length, take, drop, replicate, slice_index, Result, Ok, Err, decimal, ℤ, pos, neg_ℤ}
use Rattle.std.specs.List.{list_all, before_first, after_first}
use Rattle.std.specs.Char.{is_ascii_digit}
use Rattle.std.specs.Str.Parse.{digits_value}
use Rattle.iio_text.specs.declared.errors.Errno.{Errno}
use Rattle.iio_text.specs.declared.errors.Errno.TheVariants.{EINVAL, ERANGE}
use Rattle.iio_text.specs.declared.values.Form.{Form}
use Rattle.iio_text.specs.declared.values.Form.TheVariants.{Int, Micro, Nano}
use Rattle.iio_text.specs.declared.values.Fixed.{Fixed}

-- how many digits stand after the point
abbrev pub places_of : Form → ℕ
places_of Int = 0
places_of Micro = 6
places_of Nano = 9

-- a value in range; zero has no sign
pub record IsFixed (v : Fixed) : Type 0 where
  pub sign : v.negative ≡ true → 0 < v.whole + v.part
  pub whole : v.whole ≤ 2147483647
  pub part : v.part < 10 ^ places_of v.form

-- a text without its last byte, if that is this byte
abbrev pub without_last : ℕ → List ℕ → List ℕ
without_last b text = if nat_le 1 (length text) && slice_index text (length text - 1) == b then take (length text - 1) text else text

-- a text without a closing zero byte, and then without a closing LF
abbrev pub body_of : List ℕ → List ℕ
body_of text = without_last 10 (without_last 0 text)

-- a text that begins with `-`
abbrev pub is_minus : List ℕ → Bool
is_minus text = slice_index text 0 == 45

-- a text without a sign at its beginning
abbrev pub unsigned_of : List ℕ → List ℕ
unsigned_of text = drop (if slice_index text 0 == 43 || slice_index text 0 == 45 then 1 else 0) text

abbrev pub is_point : ℕ → Bool
is_point b = b == 46

-- what stands before the point; an integer has none
abbrev pub whole_digits : Form → List ℕ → List ℕ
whole_digits Int text = text
whole_digits Micro text = before_first is_point text
whole_digits Nano text = before_first is_point text

-- what stands after the first point
abbrev pub part_digits : Form → List ℕ → List ℕ
part_digits Int text = []
part_digits Micro text = after_first is_point text
part_digits Nano text = after_first is_point text

-- digits on both sides, and at least one
abbrev pub are_right : List ℕ → List ℕ → Bool
are_right whole part = nat_le 1 (length whole + length part) && list_all is_ascii_digit whole && list_all is_ascii_digit part

-- the digits after the point as a number of `places` digits: further ones are dropped, missing ones are 0
abbrev pub part_value : ℕ → List ℕ → ℕ
part_value places digits = digits_value 10 (take places (digits ++ replicate places 48))

-- a value; zero has no sign
abbrev pub signed_fixed : Form → Bool → ℕ → ℕ → Fixed
signed_fixed form minus whole part = record { negative = minus && not (whole == 0 && part == 0); whole = whole; part = part; form = form }

-- the value of the digits; refused if these aren't digits, or if the whole part is too large
abbrev pub fixed_by : Form → Bool → List ℕ → List ℕ → Result Fixed Errno
fixed_by form minus whole part = if are_right whole part
    then (if nat_le (digits_value 10 whole) 2147483647 then Ok (signed_fixed form minus (digits_value 10 whole) (part_value (places_of form) part))
    else Err ERANGE)
    else Err EINVAL

-- the value that a text says
abbrev pub fixed_of : Form → List ℕ → Result Fixed Errno
fixed_of form text = let body = body_of text in fixed_by form (is_minus body) (whole_digits form (unsigned_of body)) (part_digits form (unsigned_of body))

-- the last k decimal digits of a number
abbrev pub last_digits : ℕ → ℕ → List ℕ
last_digits zero n = []
last_digits (suc k) n = last_digits k (n / 10) ++ (48 + n % 10) ∷ []

-- the point and the digits after it
abbrev pub part_text : Form → ℕ → List ℕ
part_text Int part = []
part_text Micro part = 46 ∷ last_digits 6 part
part_text Nano part = 46 ∷ last_digits 9 part

-- the one text of a value: a negative one has the sign also before a whole part of 0
abbrev pub printed_fixed : Fixed → List ℕ
printed_fixed v = (if v.negative then 45 ∷ [] else []) ++ decimal v.whole ++ part_text v.form v.part

-- the whole part with its sign
abbrev pub fixed_int : Fixed → ℤ
fixed_int v = if v.negative then neg_ℤ (pos v.whole) else pos v.whole
