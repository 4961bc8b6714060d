-- The text of a mask: 8 hexadecimal digits for each 32 channels, the most significant word first, so that channel
-- 0 is the lowest bit of the last word. (libiio 0.25, iiod: the mask of OPEN and of READBUF's answer.)
use Rattle.std.specs.Prelude.{◌≡◌, ℕ, ◌*◌, ◌+◌, ◌/◌, ◌%◌, ◌^◌, ◌<◌, ◌==◌, nat_le, nat_lt, if◌then◌else◌, List, [], ◌∷◌, length, slice_index, Option, Some, None, option_and_then, option_map}
use Rattle.std.specs.Int.{Width, w32, w64, byte_len, to_be_bytes, from_be_bytes}
use Rattle.std.specs.Str.{str_to_ascii_lowercase}
use Rattle.hex.specs.Hex.{lower_digits, hex_digit_value}

-- one word of 32 bits up to 32 channels, two words from 33 to 64
abbrev pub mask_width : ℕ → Width
mask_width channels = if nat_le channels 32 then w32 else w64

-- how many digits the text has
abbrev pub digit_count : ℕ → ℕ
digit_count channels = 2 * byte_len (mask_width channels)

-- each byte as two lower-case digits
abbrev pub digits_of : List ℕ → List ℕ
digits_of [] = []
digits_of (b ∷ bs) = slice_index lower_digits (b / 16) ∷ slice_index lower_digits (b % 16) ∷ digits_of bs

-- the text that is printed
abbrev pub mask_text : ℕ → ℕ → List ℕ
mask_text channels bits = digits_of (to_be_bytes (mask_width channels) bits)

-- the texts of the mask: the printed one, with letters of either case
pub record IsMaskText (channels : ℕ) (text : List ℕ) (bits : ℕ) : Type 0 where
  pub below : bits < 2 ^ channels
  pub spelled : str_to_ascii_lowercase text ≡ mask_text channels bits

-- the byte of two digits of either case
abbrev pub byte_of : ℕ → ℕ → Option ℕ
byte_of high low = option_and_then (λ h. option_map (λ l. h * 16 + l) (hex_digit_value low)) (hex_digit_value high)

-- the bytes of pairs of digits; none if a byte is no digit or one is left over
abbrev pub bytes_of : List ℕ → Option (List ℕ)
bytes_of [] = Some []
bytes_of (c ∷ []) = None
bytes_of (high ∷ low ∷ rest) = option_and_then (λ b. option_map (λ bs. b ∷ bs) (bytes_of rest)) (byte_of high low)

-- the bytes of pairs of digits, if there are `n`
abbrev pub sized_bytes : List ℕ → ℕ → Option (List ℕ)
sized_bytes text n = if length text == 2 * n then bytes_of text else None

-- the number that a text of the required length spells
abbrev pub number_of : List ℕ → ℕ → Option ℕ
number_of text channels =
    option_map (λ bs. from_be_bytes (mask_width channels) bs) (sized_bytes text (byte_len (mask_width channels)))

-- the number, if it has no bit at or above the channel count
abbrev pub below_channels : ℕ → ℕ → Option ℕ
below_channels channels n = if nat_lt n (2 ^ channels) then Some n else None

-- the mask that a text says; none if its length is another, a byte is no digit, or a bit at or above the channel count is set
abbrev pub mask_of : List ℕ → ℕ → Option ℕ
mask_of text channels = option_and_then (λ n. below_channels channels n) (number_of text channels)
