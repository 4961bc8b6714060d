-- The lines of a text, and the checks of a line of a description or of a script that come before all others. (This
-- project's own.)
use Rattle.std.specs.Prelude.{ℕ, ◌==◌, ◌&&◌, ◌||◌, nat_le, Bool, true, false, List, [], ◌∷◌, length, Result, Ok, if◌then◌else◌}
use Rattle.std.specs.List.{list_all}
use Rattle.iio_base.specs.Refusals.{ensure, ◌>>◌}
use Rattle.iio_text.specs.declared.lines.TheConstants.{MAX_LINE_BYTES}
use Rattle.iio_text.specs.declared.refusals.Why.{Why}
use Rattle.iio_text.specs.declared.refusals.Why.TheVariants.{Long, Text}
use Rattle.iio_text.specs.Words.{words_of, is_space}

-- LF
abbrev pub is_line_end : ℕ → Bool
is_line_end b = b == 10

-- these lines, with a byte put before the first of them
abbrev pub onto_line : ℕ → List (List ℕ) → List (List ℕ)
onto_line b [] = (b ∷ []) ∷ []
onto_line b (line ∷ lines) = (b ∷ line) ∷ lines

-- the lines of a text: LF ends a line, and a last line without LF counts if it isn't empty
abbrev pub lines_of : List ℕ → List (List ℕ)
lines_of [] = []
lines_of (b ∷ bs) = if is_line_end b then [] ∷ lines_of bs else onto_line b (lines_of bs)

-- whether a line is short enough
abbrev pub fits_line : List ℕ → Bool
fits_line line = nat_le (length line) MAX_LINE_BYTES

-- whether a line is a comment: its first byte is `#`
abbrev pub is_comment : List ℕ → Bool
is_comment [] = false
is_comment (b ∷ bs) = b == 35

-- the words of a line that isn't a comment
abbrev pub meant_words : List ℕ → List (List ℕ)
meant_words line = if is_comment line then [] else words_of is_space line

-- whether there is no word
abbrev pub is_blank_line : List (List ℕ) → Bool
is_blank_line [] = true
is_blank_line (word ∷ words) = false

-- whether a byte is printable ASCII
abbrev pub is_printable : ℕ → Bool
is_printable b = nat_le 32 b && nat_le b 126

-- the words of a line that isn't too long and, if it has a word and isn't a comment, is printable
abbrev pub words_of_line : List ℕ → Result (List (List ℕ)) Why
words_of_line line = do
  ensure (fits_line line) Long
  ensure (is_blank_line (meant_words line) || list_all is_printable line) Text
  Ok (meant_words line)
