-- The part of an input that is looked at, and its lines. (This project's own.)
use Rattle.std.specs.Prelude.{ℕ, nat_lt, Bool, List, [], ◌∷◌, length, take, drop, reverse, if◌then◌else◌}
use Rattle.iio_history.specs.declared.limits.TheConstants.{MAX_INPUT_BYTES}
use Rattle.iio_text.specs.Lines.{fits_line, is_line_end, lines_of}

-- the maximum number of bytes of an input that are looked at
abbrev pub input_limit : ℕ
input_limit = MAX_INPUT_BYTES

-- whether an input has more bytes than are looked at
abbrev pub is_overlong : List ℕ → Bool
is_overlong input = nat_lt input_limit (length input)

-- a text from its first LF on, with that LF
abbrev pub from_line_end : List ℕ → List ℕ
from_line_end [] = []
from_line_end (b ∷ bs) = if is_line_end b then b ∷ bs else from_line_end bs

-- a text up to its last LF, with that LF
abbrev pub ended_part : List ℕ → List ℕ
ended_part text = reverse (from_line_end (reverse text))

-- the line that a text's end cuts off: what stands after its last LF
abbrev pub cut_line : List ℕ → List ℕ
cut_line text = drop (length (ended_part text)) text

-- the part of a text that goes on whose lines are certain: the line
-- that its end cuts off is looked at only if it is too long already
abbrev pub told_part : List ℕ → List ℕ
told_part text = if fits_line (cut_line text) then ended_part text else text

-- the part of an input that is looked at
abbrev pub scanned_part : List ℕ → List ℕ
scanned_part input = if is_overlong input then told_part (take input_limit input) else input

-- the lines of that part
abbrev pub scanned_lines : List ℕ → List (List ℕ)
scanned_lines input = lines_of (scanned_part input)
