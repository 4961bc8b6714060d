-- The lines of the part of a text whose lines are certain.
use Rattle.std.proofs.Common.{◌≡◌, ℕ, suc, ◌≤◌, Bool, true, false, cond, List, [], ◌∷◌, ◌++◌, length, take, refl, sym, ap, ◌∙◌, arith, append-nil, rules}
use Rattle.std.proofs.lemmas.Grind.{common_steps}
use Rattle.std.specs.Prelude.{reverse}
use Rattle.std.proofs.lemmas.List.{take_all, reverse-append, reverse-reverse}
use Rattle.std.specs.List.{list_any}
use Rattle.iio_desc.specs.Lines.{is_end}
use Rattle.iio_text.specs.Lines.{is_line_end, onto_line, lines_of}
use Rattle.iio_history.specs.Input.{from_line_end, ended_part}
use Rattle.iio_script.specs.LineReader.{has_end}
use Rattle.iio_script.proofs.FrontLaws.{end_count, ended_lines, ended_lines-front, end_count-append, length-ended_lines, any-take}

-- one more byte that isn't an LF ends no line
ended_lines-open : (text : List ℕ) (b : ℕ) → is_line_end b ≡ false → ended_lines (text ++ b ∷ []) ≡ ended_lines text
ended_lines-open text b h =
    let front = ended_lines-front text (b ∷ []) in
    let one : end_count (b ∷ []) ≡ 0 = rw h refl in
    let none : front.0 ≡ [] = grind (arith, common_steps, length-ended_lines, end_count-append) in
    front.1 ∙ ap (λ rest. ended_lines text ++ rest) none ∙ append-nil (ended_lines text)

-- with one more LF all lines end in an LF
length_step : (t : Bool) (b n : ℕ) (lines : List (List ℕ)) → length lines ≡ suc n → length (cond t ([] ∷ lines) (onto_line b lines)) ≡ suc (cond t (suc n) n)
length_step t b n lines h = search rules

length_lines : (text : List ℕ) → length (lines_of (text ++ 10 ∷ [])) ≡ suc (end_count text)
length_lines [] = refl
length_lines (c ∷ cs) = length_step (is_line_end c) c (end_count cs) (lines_of (cs ++ 10 ∷ [])) (length_lines cs)

ended_lines-end : (text : List ℕ) (b : ℕ) → is_line_end b ≡ true → ended_lines (text ++ b ∷ []) ≡ lines_of (text ++ b ∷ [])
ended_lines-end text b h = search (rules, take_all, length_lines, end_count-append)

reverse-cons : (b : ℕ) (bs : List ℕ) → reverse (b ∷ bs) ≡ reverse bs ++ b ∷ []
reverse-cons b bs = reverse-append (b ∷ []) bs

-- the part of a text up to its last LF has these lines
from_step : (t : Bool) (b : ℕ) (bs : List ℕ) → is_line_end b ≡ t → lines_of (reverse (from_line_end bs)) ≡ ended_lines (reverse bs)
    → lines_of (reverse (cond t (b ∷ bs) (from_line_end bs))) ≡ ended_lines (reverse (b ∷ bs))
from_step t b bs is h = search (rules, reverse-cons, ended_lines-end, ended_lines-open)

from_end : (bytes : List ℕ) → lines_of (reverse (from_line_end bytes)) ≡ ended_lines (reverse bytes)
from_end [] = refl
from_end (b ∷ bs) = from_step (is_line_end b) b bs refl (from_end bs)

pub lines_of-ended_part : (text : List ℕ) → lines_of (ended_part text) ≡ ended_lines text
lines_of-ended_part text = from_end (reverse text) ∙ ap ended_lines (reverse-reverse text)

-- ---- whether one of the lines that end in an LF is the end of a description

pub has_end-lines : (text : List ℕ) → has_end text ≡ list_any is_end (ended_lines text)
has_end-lines text = ap (list_any is_end) (lines_of-ended_part text)

pub has_end-take : (text : List ℕ) (m n : ℕ) → m ≤ n → has_end (take m text) ≡ true → has_end (take n text) ≡ true
has_end-take text m n le h = has_end-lines (take n text) ∙ any-take is_end text m n le (sym (has_end-lines (take m text)) ∙ h)
