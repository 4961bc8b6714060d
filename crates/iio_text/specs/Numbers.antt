-- Texts of numbers.
use Rattle.std.specs.Prelude.{ℕ, zero, suc, ℤ, pos, negsuc, ◌==◌, ◌&&◌, nat_le, if◌then◌else◌, List, [], ◌∷◌, length, Option, Some, None, option_map}
use Rattle.std.specs.List.{list_all}
use Rattle.std.specs.Char.{is_ascii_digit}
use Rattle.std.specs.Str.Parse.{digits_value}

-- the number that decimal digits write, if it is at most the limit
abbrev pub value_up_to : ℕ → List ℕ → Option ℕ
value_up_to limit text = if list_all is_ascii_digit text && nat_le (digits_value 10 text) limit then Some (digits_value 10 text) else None

-- a number of a command: one to ten digits, leading zeros allowed, up to 4294967295 (this project's own)
abbrev pub number_of : List ℕ → Option ℕ
number_of text = if nat_le 1 (length text) && nat_le (length text) 10 then value_up_to 4294967295 text else None

-- the number that `0`, or digits without a leading zero, write, if it is at most the limit
abbrev pub plain_value : ℕ → List ℕ → Option ℕ
plain_value limit [] = None
plain_value limit (d ∷ ds) = if d == 48 then (if length ds == 0 then Some 0 else None) else value_up_to limit (d ∷ ds)

-- minus the number; zero has no sign
abbrev pub negative_of : Option ℕ → Option ℤ
negative_of None = None
negative_of (Some zero) = None
negative_of (Some (suc n)) = Some (negsuc n)

-- an integer of a description or a script in its one spelling, within 64 signed bits (this project's own)
abbrev pub int_of : List ℕ → Option ℤ
int_of [] = None
int_of (b ∷ bs) = if b == 45 then negative_of (plain_value 9223372036854775808 bs) else option_map pos (plain_value 9223372036854775807 (b ∷ bs))
