-- The looked-at lines of an input, after a front of it.
use Rattle.std.proofs.Common.{◌≡◌, ℕ, ◌+◌, ◌-◌, ◌<◌, ◌≤◌, true, false, ◌⊎◌, cond, List, [], ◌∷◌, ◌++◌, length, take, nat_lt, refl, sym, ap, ◌∙◌, inl, inr, arith, subst, append_assoc, append-nil, rules}
use Rattle.std.proofs.lemmas.Grind.{common_steps}
use Rattle.std.proofs.Math.Seq.{take-append-add}
use Rattle.std.proofs.lemmas.Bool.{cases_lt}
use Rattle.std.proofs.lemmas.List.{length-append, length-take}
use Rattle.iio_text.specs.Lines.{fits_line, lines_of}
use Rattle.iio_text.specs.declared.lines.TheConstants.{MAX_LINE_BYTES}
use Rattle.iio_history.specs.Input.{cut_line, ended_part, input_limit, scanned_lines, told_part}
use Rattle.iio_script.specs.LineReader.{IsFront, IsPlain}
use Rattle.iio_script.proofs.LineLaws.{BeginsWith, Parted, ended_behind, ended_none, lines_begin, lines_last, parted, plain_append, told_front}

-- the lines that are looked at under a limit
lines_within : ℕ → List ℕ → List (List ℕ)
lines_within limit input = lines_of (cond (nat_lt limit (length input)) (told_part (take limit input)) input)

looked : (input : List ℕ) → lines_within input_limit input ≡ scanned_lines input
unfolding lines_within
looked input = refl

-- they begin with the lines of a front
pub record Begins (front lines : List (List ℕ)) : Type 0 where
  pub more : List (List ℕ)
  pub parts : lines ≡ front ++ more

-- a front within the limit
take_front : (limit : ℕ) (bytes rest : List ℕ) → length bytes ≤ limit → take limit (bytes ++ rest) ≡ bytes ++ take (limit - length bytes) rest
take_front limit bytes rest few =
    let sum : limit ≡ length bytes + (limit - length bytes) = omega (arith, few) in
    ap (λ n. take n (bytes ++ rest)) sum ∙ take-append-add bytes rest (limit - length bytes)

-- an input that isn't longer than the limit
all_within : (limit : ℕ) (input : List ℕ) → length input ≤ limit → lines_within limit input ≡ lines_of input
unfolding lines_within
all_within limit input few = let short : nat_lt limit (length input) ≡ false = grind (arith, few) in rw short refl

-- a longer input
part_within : (limit : ℕ) (bytes rest : List ℕ) (front : List (List ℕ)) → IsFront bytes front → length bytes ≤ limit → limit < length (bytes ++ rest)
    → lines_within limit (bytes ++ rest) ≡ front ++ lines_of (told_part (take (limit - length bytes) rest))
unfolding lines_within
part_within limit bytes rest front is few over = search (rules, take_front, told_front)

begins_within : (limit : ℕ) (bytes rest : List ℕ) (front : List (List ℕ)) → IsFront bytes front → length bytes ≤ limit
    → Begins front (lines_within limit (bytes ++ rest))
begins_within limit bytes rest front is few = elim (cases_lt limit (length (bytes ++ rest))) [
  | inl over ↦ record { more = lines_of (told_part (take (limit - length bytes) rest)); parts = part_within limit bytes rest front is few over }
  | inr short ↦ record { more = lines_of rest; parts = all_within limit (bytes ++ rest) short ∙ is.lines rest }
]

-- the last line, and no line
last_within : (limit : ℕ) (bytes line : List ℕ) (front : List (List ℕ)) → IsFront bytes front → IsPlain line → 0 < length line → length (bytes ++ line) ≤ limit
    → lines_within limit (bytes ++ line) ≡ front ++ line ∷ []
last_within limit bytes line front is plain some short =
    all_within limit (bytes ++ line) short ∙ is.lines line ∙ ap (λ ls. front ++ ls) (lines_last line plain some)

-- no further line is certain
cut_within : (limit : ℕ) (bytes rest : List ℕ) (front : List (List ℕ)) → IsFront bytes front → length bytes ≤ limit → limit < length (bytes ++ rest)
    → IsPlain (take (limit - length bytes) rest) → limit ≤ length bytes + MAX_LINE_BYTES → lines_within limit (bytes ++ rest) ≡ front
cut_within limit bytes rest front is few over plain short =
    let part : List ℕ = take (limit - length bytes) rest in
    let none : ended_part part ≡ [] = ended_none part plain in
    let fits : fits_line (cut_line part) ≡ true = rw none (grind (arith, length-take (limit - length bytes) rest)) in
    part_within limit bytes rest front is few over
    ∙ rw (fits, none) (append-nil front)

-- a line that begins with more bytes than it may have
pub record BeginsLong (lines : List (List ℕ)) : Type 0 where
  pub line : List ℕ
  pub more : List (List ℕ)
  pub parts : lines ≡ line ∷ more
  pub long : fits_line line ≡ false

begins_long : (front : List ℕ) (lines : List (List ℕ)) → BeginsWith front lines → MAX_LINE_BYTES < length front → BeginsLong lines
begins_long front lines begins long = grind (arith, common_steps)

long_lines : (front more : List ℕ) → IsPlain front → MAX_LINE_BYTES < length front → BeginsLong (lines_of (front ++ more))
long_lines front more plain long = begins_long front (lines_of (front ++ more)) (lines_begin front more plain (omega (arith, long))) long

-- .. even if the text goes on
long_ended : (front more : List ℕ) → IsPlain front → MAX_LINE_BYTES < length front → fits_line (cut_line (front ++ more)) ≡ true → (IsPlain more) ⊎ Parted more
    → BeginsLong (lines_of (ended_part (front ++ more)))
long_ended front more plain long fits (inl none) =
    let whole : cut_line (front ++ more) ≡ front ++ more = search (rules, ended_none, plain_append) in
    absurd (grind (arith, length-append front more))
long_ended front more plain long fits (inr parted) =
    let line : List ℕ = parted.line in
    let text : front ++ more ≡ (front ++ line) ++ 10 ∷ parted.more = ap (λ m. front ++ m) parted.parts ∙ sym (append_assoc front line (10 ∷ parted.more)) in
    let part : ended_part (front ++ more) ≡ front ++ (line ++ 10 ∷ ended_part parted.more) = grind (arith, common_steps, ended_behind) in
    subst (λ (t : List ℕ). BeginsLong (lines_of t)) (sym part) (long_lines front (line ++ 10 ∷ ended_part parted.more) plain long)

long_told : (front more : List ℕ) → IsPlain front → MAX_LINE_BYTES < length front → BeginsLong (lines_of (told_part (front ++ more)))
long_told front more plain long = search (rules, long_ended, parted, long_lines)

-- the same after a front
pub record LongBehind (front : List (List ℕ)) (lines : List (List ℕ)) : Type 0 where
  pub line : List ℕ
  pub more : List (List ℕ)
  pub parts : lines ≡ front ++ line ∷ more
  pub long : fits_line line ≡ false

long_behind : (front lines all : List (List ℕ)) → all ≡ front ++ lines → BeginsLong lines → LongBehind front all
long_behind front lines all is begins = search rules

long_within : (limit : ℕ) (bytes line rest : List ℕ) (front : List (List ℕ)) → IsFront bytes front → IsPlain line → MAX_LINE_BYTES < length line
    → length bytes + length line ≤ limit
    → LongBehind front (lines_within limit (bytes ++ (line ++ rest)))
long_within limit bytes line rest front is plain long few = elim (cases_lt limit (length (bytes ++ (line ++ rest)))) [
  | inl over ↦
      let part : take (limit - length bytes) (line ++ rest) ≡ line ++ take (limit - length bytes - length line) rest = search (rules, take_front) in
      long_behind front (lines_of (told_part (line ++ take (limit - length bytes - length line) rest))) (lines_within limit (bytes ++ (line ++ rest)))
      (part_within limit bytes (line ++ rest) front is (omega (arith, few)) over ∙ ap (λ text. front ++ lines_of (told_part text)) part)
      (long_told line (take (limit - length bytes - length line) rest) plain long)
  | inr short ↦
      long_behind front (lines_of (line ++ rest)) (lines_within limit (bytes ++ (line ++ rest)))
      (all_within limit (bytes ++ (line ++ rest)) short ∙ is.lines (line ++ rest)) (long_lines line rest plain long)
]

-- ---- the same for the input's limit

pub scanned_begin : (bytes rest : List ℕ) (front : List (List ℕ)) → IsFront bytes front → length bytes ≤ input_limit
    → Begins front (scanned_lines (bytes ++ rest))
unfolding lines_within
scanned_begin bytes rest front is few = begins_within input_limit bytes rest front is few

pub scanned_whole : (bytes : List ℕ) (front : List (List ℕ)) → IsFront bytes front → length bytes ≤ input_limit → scanned_lines bytes ≡ front
unfolding lines_within
scanned_whole bytes front is few =
    all_within input_limit bytes few ∙ ap lines_of (sym (append-nil bytes)) ∙ is.lines [] ∙ append-nil front

pub scanned_last : (bytes line : List ℕ) (front : List (List ℕ)) → IsFront bytes front → IsPlain line → 0 < length line → length (bytes ++ line) ≤ input_limit
    → scanned_lines (bytes ++ line) ≡ front ++ line ∷ []
unfolding lines_within
scanned_last bytes line front is plain some short = last_within input_limit bytes line front is plain some short

pub scanned_cut : (bytes rest : List ℕ) (front : List (List ℕ)) → IsFront bytes front → length bytes ≤ input_limit → input_limit < length (bytes ++ rest)
    → IsPlain (take (input_limit - length bytes) rest) → input_limit ≤ length bytes + MAX_LINE_BYTES → scanned_lines (bytes ++ rest) ≡ front
unfolding lines_within
scanned_cut bytes rest front is few over plain short = cut_within input_limit bytes rest front is few over plain short

pub scanned_long : (bytes line rest : List ℕ) (front : List (List ℕ)) → IsFront bytes front → IsPlain line → MAX_LINE_BYTES < length line
    → length bytes + length line ≤ input_limit
    → LongBehind front (scanned_lines (bytes ++ (line ++ rest)))
unfolding lines_within
scanned_long bytes line rest front is plain long few = long_within input_limit bytes line rest front is plain long few
