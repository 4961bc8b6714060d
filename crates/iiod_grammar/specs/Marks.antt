-- The marks of a text's bytes that aren't blanks. Cited only by the private functions of `blanks`.
use Rattle.std.specs.Prelude.{ℕ, Bool, not, List, map, length, nat_le, if◌then◌else◌}
use Rattle.std.specs.Simd.Lanes.{mask_l}
use Rattle.iio_text.specs.Words.{is_blank}

-- not a blank
abbrev pub is_solid : ℕ → Bool
is_solid b = not (is_blank b)

-- the number whose bit i says whether byte i is not a blank
abbrev pub marks_of : List ℕ → ℕ
marks_of text = mask_l (map is_solid text)

-- the marks of a text of at most 63 bytes, otherwise 0
abbrev pub kept_marks : List ℕ → ℕ
kept_marks text = if nat_le (length text) 63 then marks_of text else 0
