-- The lines of a text, from its front.
use Rattle.std.proofs.Common.{◌≡◌, ℕ, ◌+◌, ◌<◌, ◌≤◌, Bool, true, false, not, cond, List, [], ◌∷◌, length, take, drop, get_or, refl, sym, ap, ◌∙◌, add-one, arith}
use Rattle.std.proofs.lemmas.Bool.{false_from_ne_true}
use Rattle.std.proofs.lemmas.List.Sums.{position_or_len_is}
use Rattle.std.proofs.Math.Numerals.{one-add}
use Rattle.std.specs.List.{position_or_len}
use Rattle.memchr.specs.Find.{Nowhere, NoneBefore, Passes, is_byte}
use Rattle.iio_text.specs.Lines.{is_line_end, onto_line, lines_of}

-- the first line of a text with an LF, by whether its first byte is one
split_step : (t : Bool) (b : ℕ) (bs : List ℕ) (n : ℕ) → cond (not t) (1 + n) 0 < length (b ∷ bs)
    → (n < length bs → lines_of bs ≡ take n bs ∷ lines_of (drop (n + 1) bs))
    → cond t ([] ∷ lines_of bs) (onto_line b (lines_of bs)) ≡ take (cond (not t) (1 + n) 0) (b ∷ bs) ∷ lines_of (drop (cond (not t) (1 + n) 0 + 1) (b ∷ bs))
split_step true b bs n h rest = refl
split_step false b bs n h rest =
    ap (onto_line b) (rest (omega arith)) ∙ rw (one-add, add-one, add-one) refl

pub lines_of-split : (text : List ℕ) → position_or_len is_line_end text < length text
    → lines_of text ≡ take (position_or_len is_line_end text) text ∷ lines_of (drop (position_or_len is_line_end text + 1) text)
lines_of-split [] h = absurd (omega arith)
lines_of-split (b ∷ bs) h = split_step (is_line_end b) b bs (position_or_len is_line_end bs) h (lines_of-split bs)

-- the one line of a text without an LF
whole_step : (t : Bool) (b : ℕ) (bs : List ℕ) (n : ℕ) → length (b ∷ bs) ≤ cond (not t) (1 + n) 0
    → (0 < length bs → length bs ≤ n → lines_of bs ≡ bs ∷ [])
    → cond t ([] ∷ lines_of bs) (onto_line b (lines_of bs)) ≡ (b ∷ bs) ∷ []
whole_step true b bs n h rest = absurd (omega arith)
whole_step false b [] n h rest = refl
whole_step false b (c ∷ cs) n h rest = ap (onto_line b) (rest (omega arith) (omega arith))

pub lines_of-whole : (text : List ℕ) → 0 < length text → length text ≤ position_or_len is_line_end text → lines_of text ≡ text ∷ []
lines_of-whole [] some h = absurd (omega arith)
lines_of-whole (b ∷ bs) some h = whole_step (is_line_end b) b bs (position_or_len is_line_end bs) h (λ s l. lines_of-whole bs s l)

-- no byte before a place is an LF
none_before : (text : List ℕ) (n : ℕ) → Nowhere (Passes (is_byte 10) text) 0 n → (k : ℕ) → k < n → is_line_end (get_or text k 0) ≡ false
none_before text n h k below = false_from_ne_true (is_line_end (get_or text k 0)) (h k (omega arith) below)

-- the first LF
pub first_end : (text : List ℕ) (n : ℕ) → NoneBefore (Passes (is_byte 10) text) 0 (length text) n × Passes (is_byte 10) text n
    → n ≡ position_or_len is_line_end text
first_end text n h = sym (position_or_len_is is_line_end text n 0 (let within = h.0.high in omega (arith, within)) (none_before text n h.0.before) (λ _. h.1))

-- a text without an LF
pub no_end : (text : List ℕ) → Nowhere (Passes (is_byte 10) text) 0 (length text) → length text ≡ position_or_len is_line_end text
no_end text h = sym (position_or_len_is is_line_end text (length text) 0 (omega arith) (none_before text (length text) h) (λ past. absurd (omega arith)))
