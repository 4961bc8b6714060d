-- The lines of a text that is read further: its front, its last line, and the line that its end cuts off.
use Rattle.std.proofs.Common.{◌≡◌, ℕ, ◌+◌, ◌<◌, Bool, true, false, ◌||◌, ◌⊎◌, cond, List, [], ◌∷◌, ◌++◌, length, take, drop, reverse, refl, sym, ap, ◌∙◌, inl, inr, arith, subst, append_assoc, rules}
use Rattle.std.proofs.lemmas.Grind.{common_steps}
use Rattle.std.proofs.lemmas.List.{reverse-append, length-append, take-append-drop}
use Rattle.std.proofs.lemmas.List.Folds.{list_any-append}
use Rattle.std.specs.List.{list_any}
use Rattle.iio_text.specs.Lines.{is_line_end, onto_line, lines_of}
use Rattle.iio_history.specs.Input.{ended_part, from_line_end, told_part}
use Rattle.iio_script.specs.LineReader.{IsFront, IsPlain, ended_size}

-- ---- a text without an LF

-- its first byte, and those after it
plain_head : (t : Bool) (rest : Bool) → (t || rest) ≡ false → (t ≡ false) × (rest ≡ false)
plain_head t rest h = search rules

pub plain_append : (a b : List ℕ) → IsPlain a → IsPlain b → IsPlain (a ++ b)
plain_append a b p q = list_any-append is_line_end a b ∙ rw (p, q) refl

pub plain_parts : (a b : List ℕ) → IsPlain (a ++ b) → IsPlain a × IsPlain b
plain_parts a b p = plain_head (list_any is_line_end a) (list_any is_line_end b) (sym (list_any-append is_line_end a b) ∙ p)

pub plain_take : (n : ℕ) (a : List ℕ) → IsPlain a → IsPlain (take n a)
plain_take n a p = (plain_parts (take n a) (drop n a) (subst IsPlain (sym (take-append-drop n a)) p)).0

-- ---- its lines

-- a line that ends in an LF
pub lines_ended : (line more : List ℕ) → IsPlain line → lines_of (line ++ 10 ∷ more) ≡ line ∷ lines_of more
lines_ended [] more plain = refl
lines_ended (b ∷ bs) more plain =
    let parts = plain_head (is_line_end b) (list_any is_line_end bs) plain in
    rw parts.0 (ap (onto_line b) (lines_ended bs more parts.1))

-- a line that ends with the text
pub lines_last : (line : List ℕ) → IsPlain line → 0 < length line → lines_of line ≡ line ∷ []
lines_last [] plain some = absurd (omega arith)
lines_last (b ∷ []) plain some = rw (plain_head (is_line_end b) false plain).0 refl
lines_last (b ∷ c ∷ cs) plain some =
    let parts = plain_head (is_line_end b) (list_any is_line_end (c ∷ cs)) plain in
    rw parts.0 (ap (onto_line b) (lines_last (c ∷ cs) parts.1 (omega arith)))

-- the first line begins with this
pub record BeginsWith (front : List ℕ) (lines : List (List ℕ)) : Type 0 where
  pub rest : List ℕ
  pub more : List (List ℕ)
  pub parts : lines ≡ (front ++ rest) ∷ more

begins_with : (b : ℕ) (lines : List (List ℕ)) → BeginsWith (b ∷ []) (onto_line b lines)
begins_with b lines = search rules

begins_longer : (b : ℕ) (front : List ℕ) (lines : List (List ℕ)) → BeginsWith front lines → BeginsWith (b ∷ front) (onto_line b lines)
begins_longer b front lines begins = record { rest = begins.rest; more = begins.more; parts = ap (onto_line b) begins.parts }

pub lines_begin : (front more : List ℕ) → IsPlain front → 0 < length front → BeginsWith front (lines_of (front ++ more))
lines_begin [] more plain some = absurd (omega arith)
lines_begin (b ∷ []) more plain some = rw (plain_head (is_line_end b) false plain).0 (begins_with b (lines_of more))
lines_begin (b ∷ c ∷ cs) more plain some =
    let parts = plain_head (is_line_end b) (list_any is_line_end (c ∷ cs)) plain in
    rw parts.0 (begins_longer b (c ∷ cs) (lines_of ((c ∷ cs) ++ more)) (lines_begin (c ∷ cs) more parts.1 (omega arith)))

-- ---- the part of a text up to its last LF

from_step : (t : Bool) (b : ℕ) (u v : List ℕ) → from_line_end (u ++ 10 ∷ v) ≡ from_line_end u ++ 10 ∷ v
    → cond t (b ∷ u ++ 10 ∷ v) (from_line_end (u ++ 10 ∷ v)) ≡ cond t (b ∷ u) (from_line_end u) ++ 10 ∷ v
from_step t b u v h = search rules

from_end : (u v : List ℕ) → from_line_end (u ++ 10 ∷ v) ≡ from_line_end u ++ 10 ∷ v
from_end [] v = refl
from_end (b ∷ bs) v = from_step (is_line_end b) b bs v (from_end bs v)

from_none : (u : List ℕ) → IsPlain u → from_line_end u ≡ []
from_none [] plain = refl
from_none (b ∷ bs) plain =
    let parts = plain_head (is_line_end b) (list_any is_line_end bs) plain in
    rw parts.0 (from_none bs parts.1)

plain_reverse : (u : List ℕ) → IsPlain u → IsPlain (reverse u)
plain_reverse [] plain = refl
plain_reverse (b ∷ bs) plain =
    let parts = plain_head (is_line_end b) (list_any is_line_end bs) plain in
    subst IsPlain (sym (reverse-append (b ∷ []) bs)) (plain_append (reverse bs) (b ∷ []) (plain_reverse bs parts.1) (rw parts.0 refl))

pub ended_none : (text : List ℕ) → IsPlain text → ended_part text ≡ []
ended_none text plain = ap reverse (from_none (reverse text) (plain_reverse text plain))

pub ended_behind : (line more : List ℕ) → ended_part (line ++ 10 ∷ more) ≡ (line ++ 10 ∷ []) ++ ended_part more
ended_behind line more = grind (arith, common_steps, from_end)

-- ---- a text with an LF, and one without

pub record Parted (text : List ℕ) : Type 0 where
  pub line : List ℕ
  pub more : List ℕ
  pub plain : IsPlain line
  pub parts : text ≡ line ++ 10 ∷ more

parted_step : (t : Bool) (b : ℕ) (bs : List ℕ) → is_line_end b ≡ t → (IsPlain bs) ⊎ Parted bs → (IsPlain (b ∷ bs)) ⊎ Parted (b ∷ bs)
parted_step true b bs is rest = inr (record { line = []; more = bs; plain = refl; parts = ap (λ c. c ∷ bs) (search (is, arith)) })
parted_step false b bs is (inl plain) = inl (rw is plain)
parted_step false b bs is (inr parted) =
    inr (record { line = b ∷ parted.line; more = parted.more; plain = rw is parted.plain; parts = ap (λ u. b ∷ u) parted.parts })

pub parted : (text : List ℕ) → (IsPlain text) ⊎ Parted text
parted [] = inl refl
parted (b ∷ bs) = parted_step (is_line_end b) b bs refl (parted bs)

-- ---- fronts

pub ended_size-append : (a b : List (List ℕ)) → ended_size (a ++ b) ≡ ended_size a + ended_size b
ended_size-append [] b = omega arith
ended_size-append (l ∷ ls) b = omega (arith, ended_size-append ls b)

pub front_more : (bytes line : List ℕ) (front : List (List ℕ)) → IsFront bytes front → IsPlain line → IsFront (bytes ++ (line ++ 10 ∷ [])) (front ++ line ∷ [])
front_more bytes line front is plain = record {
  lines = λ more.
      ap lines_of (append_assoc bytes (line ++ 10 ∷ []) more) ∙ is.lines ((line ++ 10 ∷ []) ++ more)
      ∙ ap (λ text. front ++ lines_of text) (append_assoc line (10 ∷ []) more) ∙ ap (λ ls. front ++ ls) (lines_ended line more plain)
      ∙ sym (append_assoc front (line ∷ []) (lines_of more));
  ended = grind (arith, common_steps, ended_behind);
  size = omega (arith, ended_size-append front (line ∷ []), is.size, length-append bytes (line ++ 10 ∷ []), length-append line (10 ∷ []));
}

pub told_front : (bytes more : List ℕ) (front : List (List ℕ)) → IsFront bytes front → told_part (bytes ++ more) ≡ bytes ++ told_part more
told_front bytes more front is = grind (arith, common_steps)
