-- The lines that end in an LF within a front part of a text.
use Rattle.std.proofs.Common.{◌≡◌, ℕ, zero, suc, ◌+◌, ◌-◌, ◌≤◌, Bool, true, false, cond, List, [], ◌∷◌, ◌++◌, length, take, drop, refl, ap, ◌∙◌, arith, rules}
use Rattle.std.proofs.Math.Seq.{take-add, take-append-add}
use Rattle.std.proofs.lemmas.Bool.{or_left}
use Rattle.std.proofs.lemmas.List.{length-take-le}
use Rattle.std.proofs.lemmas.List.Folds.{list_any-append}
use Rattle.std.specs.List.{list_any}
use Rattle.iio_text.specs.Lines.{is_line_end, onto_line, lines_of}

-- the number of LFs in a text
abbrev pub end_count : List ℕ → ℕ
end_count [] = 0
end_count (b ∷ bs) = cond (is_line_end b) (suc (end_count bs)) (end_count bs)

-- the lines of a text that end in an LF
abbrev pub ended_lines : List ℕ → List (List ℕ)
ended_lines text = take (end_count text) (lines_of text)

-- ---- a text with more after it

-- a byte put before the first line, if the lines begin with others
onto_front : (b n : ℕ) (lines rest : List (List ℕ)) → n ≤ length lines
    → (more : List (List ℕ)) × (onto_line b (take n lines ++ rest) ≡ take n (onto_line b lines) ++ more)
onto_front b zero [] rest few = (onto_line b rest, refl)
onto_front b zero (l ∷ ls) rest few = (onto_line b rest, refl)
onto_front b (suc n) [] rest few = absurd (omega arith)
onto_front b (suc n) (l ∷ ls) rest few = (rest, refl)

split_step : (t : Bool) (b n : ℕ) (lines all rest : List (List ℕ)) → n ≤ length lines → all ≡ take n lines ++ rest
    → (more : List (List ℕ)) × (cond t ([] ∷ all) (onto_line b all) ≡ take (cond t (suc n) n) (cond t ([] ∷ lines) (onto_line b lines)) ++ more)
split_step true b n lines all rest few h = (rest, ap (λ (ls : List (List ℕ)). [] ∷ ls) h)
split_step false b n lines all rest few h =
    let onto = onto_front b n lines rest few in
    (onto.0, ap (onto_line b) h ∙ onto.1)

few_step : (t : Bool) (b n : ℕ) (lines : List (List ℕ)) → n ≤ length lines → cond t (suc n) n ≤ length (cond t ([] ∷ lines) (onto_line b lines))
few_step t b n lines few = search rules

-- each LF ends a line
end_count_few : (text : List ℕ) → end_count text ≤ length (lines_of text)
end_count_few [] = omega arith
end_count_few (b ∷ bs) = few_step (is_line_end b) b (end_count bs) (lines_of bs) (end_count_few bs)

pub length-ended_lines : (text : List ℕ) → length (ended_lines text) ≡ end_count text
length-ended_lines text = length-take-le (end_count text) (lines_of text) (end_count_few text)

-- the lines of a text begin with those that end in an LF within a front part
pub lines_of-front : (text more : List ℕ) → (rest : List (List ℕ)) × (lines_of (text ++ more) ≡ ended_lines text ++ rest)
lines_of-front [] more = (lines_of more, refl)
lines_of-front (b ∷ bs) more =
    let front = lines_of-front bs more in
    split_step (is_line_end b) b (end_count bs) (lines_of bs) (lines_of (bs ++ more)) front.0 (end_count_few bs) front.1

count_step : (t : Bool) (m n k : ℕ) → m ≡ n + k → cond t (suc m) m ≡ cond t (suc n) n + k
count_step t m n k h = search rules

pub end_count-append : (text more : List ℕ) → end_count (text ++ more) ≡ end_count text + end_count more
end_count-append [] more = omega arith
end_count-append (b ∷ bs) more = count_step (is_line_end b) (end_count (bs ++ more)) (end_count bs) (end_count more) (end_count-append bs more)

-- .. and so do its lines that end in an LF
pub ended_lines-front : (text more : List ℕ) → (rest : List (List ℕ)) × (ended_lines (text ++ more) ≡ ended_lines text ++ rest)
ended_lines-front text more =
    let front = lines_of-front text more in
    let count : end_count (text ++ more) ≡ length (ended_lines text) + end_count more = omega (arith, end_count-append text more, length-ended_lines text) in (
      take (end_count more) front.0,
      rw (count, front.1) (take-append-add (ended_lines text) front.0 (end_count more)),
    )

-- ---- whether there is a line of a kind

pub any-front : (p : List ℕ → Bool) (text more : List ℕ) → list_any p (ended_lines text) ≡ true → list_any p (ended_lines (text ++ more)) ≡ true
any-front p text more h =
    let front = ended_lines-front text more in
    rw front.1 (list_any-append p (ended_lines text) front.0 ∙ or_left (list_any p (ended_lines text)) (list_any p front.0) h)

-- a front part of a front part
pub any-take : (p : List ℕ → Bool) (text : List ℕ) (m n : ℕ) → m ≤ n → list_any p (ended_lines (take m text)) ≡ true
    → list_any p (ended_lines (take n text)) ≡ true
any-take p text m n le h =
    let more : n ≡ m + (n - m) = omega arith in
    rw (more, take-add m (n - m) text) (any-front p (take m text) (take (n - m) (drop m text)) h)
