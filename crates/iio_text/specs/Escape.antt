-- Escaped texts: any bytes, written in printable ones. (This project's own.)
use Rattle.std.specs.Prelude.{◌≡◌, ℕ, zero, suc, ◌+◌, ◌-◌, ◌*◌, ◌/◌, ◌%◌, Bool, not, ◌==◌, ◌&&◌, ◌||◌, nat_le, if◌then◌else◌, List, [], ◌∷◌, ◌++◌, length, take, Option, Some, None, option_and_then, Result, Ok, Err, slice_index, flat_map}
use Rattle.std.specs.Result.{result_ok}
use Rattle.std.specs.Char.{digit_value, digit_char, is_digit}
use Rattle.iio_text.specs.declared.faults.Unescape.{Unescape}
use Rattle.iio_text.specs.declared.faults.Unescape.TheVariants.{BadEscape, Mem}

-- a byte that stands for itself: 0x20 to 0x7e, but `"` and `\`
abbrev pub is_plain : ℕ → Bool
is_plain b = nat_le 32 b && nat_le b 126 && not (b == 34 || b == 92)

-- a byte as it is printed: `\n`, `\"`, `\\`, itself, or `\x` and two digits in lower case
abbrev pub escaped_byte : ℕ → List ℕ
escaped_byte b = if b == 10 then 92 ∷ 110 ∷ []
    else if b == 34 || b == 92 then 92 ∷ b ∷ []
    else if is_plain b then b ∷ []
    else 92 ∷ 120 ∷ digit_char (b / 16) ∷ digit_char (b % 16) ∷ []

-- bytes as they are printed
abbrev pub escaped : List ℕ → List ℕ
escaped bytes = flat_map escaped_byte bytes

-- the number of a hexadecimal digit of either case
abbrev pub hex_value : ℕ → Option ℕ
hex_value c = if is_digit c 16 then Some (digit_value c) else None

-- the byte of two digits, which are three bytes with the `x`
abbrev pub hex_byte : Option ℕ → Option ℕ → Option (ℕ × ℕ)
hex_byte None low = None
hex_byte (Some high) None = None
hex_byte (Some high) (Some low) = Some (16 * high + low, 3)

-- after `\x`: two hexadecimal digits of either case
abbrev pub pair_of : List ℕ → Option (ℕ × ℕ)
pair_of [] = None
pair_of (high ∷ []) = None
pair_of (high ∷ low ∷ rest) = hex_byte (hex_value high) (hex_value low)

-- after a `\`: the byte that is meant, and how many bytes that takes
abbrev pub escape_of : List ℕ → Option (ℕ × ℕ)
escape_of [] = None
escape_of (c ∷ rest) = if c == 110 then Some (10, 1)
    else if c == 34 || c == 92 then Some (c, 1)
    else if c == 120 then pair_of rest
    else None

-- what stands first in an escaped text: the byte that is meant, and how many further bytes that takes
abbrev pub piece_of : List ℕ → Option (ℕ × ℕ)
piece_of [] = None
piece_of (b ∷ rest) = if b == 92 then escape_of rest else if is_plain b then Some (b, 0) else None

-- bytes put before the bytes that follow
abbrev pub before : List ℕ → Result (List ℕ) ℕ → Result (List ℕ) ℕ
before bs (Ok more) = Ok (bs ++ more)
before bs (Err place) = Err place

-- the byte of a piece before what follows the piece, or the place where no piece stands
abbrev pub piece_then : ℕ → Option (ℕ × ℕ) → (ℕ → Result (List ℕ) ℕ) → Result (List ℕ) ℕ
piece_then place None next = Err place
piece_then place (Some piece) next = before (piece.0 ∷ []) (next piece.1)

-- what a text from a place on means, whose first `passed` bytes belong to the piece before
abbrev pub unescaped_from : ℕ → ℕ → List ℕ → Result (List ℕ) ℕ
unescaped_from place passed [] = Ok []
unescaped_from place (suc passed) (b ∷ rest) = unescaped_from (place + 1) passed rest
unescaped_from place zero (b ∷ rest) = piece_then place (piece_of (b ∷ rest)) (λ more. unescaped_from (place + 1) more rest)

-- the bytes that an escaped text means, or the place of the first byte or escape that isn't allowed
abbrev pub unescaped : List ℕ → Result (List ℕ) ℕ
unescaped text = unescaped_from 0 0 text

-- an error has that place, or is lack of memory
abbrev pub Explains : Unescape → Result (List ℕ) ℕ → Type 0
Explains (BadEscape place) read = read ≡ Err place
Explains Mem read = Unit {0}

-- what stands between a quote at the beginning and another one at the end
abbrev pub between_quotes : List ℕ → Option (List ℕ)
between_quotes [] = None
between_quotes (b ∷ rest) = if b == 34 && slice_index rest (length rest - 1) == 34 then Some (take (length rest - 1) rest) else None

-- the bytes that a quoted text means
abbrev pub quoted_of : List ℕ → Option (List ℕ)
quoted_of text = option_and_then (λ inner. result_ok (unescaped inner)) (between_quotes text)

-- bytes as a quoted text
abbrev pub quoted : List ℕ → List ℕ
quoted bytes = 34 ∷ escaped bytes ++ 34 ∷ []
