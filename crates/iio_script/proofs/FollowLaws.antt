-- What a reader that goes through an input shows of it.
use Rattle.std.proofs.Common.{◌≡◌, ◌≢◌, ℕ, suc, min, ◌+◌, ◌-◌, ◌<◌, ◌≤◌, Bool, true, false, List, [], ◌∷◌, ◌++◌, length, take, drop, Option, Some, refl, sym, ap, ◌∙◌, inl, inr, arith, subst, append_assoc, append-nil, rules}
use Rattle.std.proofs.lemmas.Grind.{common_steps}
use Rattle.std.proofs.Math.Seq.{take-append_seam, drop-append_seam}
use Rattle.std.proofs.lemmas.Bool.Decides.{nat_tests}
use Rattle.std.proofs.lemmas.List.{length-append, length-take-le, take-append-drop, take-take, take_all, drop_all}
use Rattle.iio_io.specs.Bytes.{TakesAtMost}
use Rattle.iio_text.specs.Lines.{lines_of}
use Rattle.iio_text.specs.declared.lines.TheConstants.{MAX_LINE_BYTES}
use Rattle.iio_history.specs.Input.{ended_part, input_limit, is_overlong, scanned_lines}
use Rattle.iio_script.specs.declared.line_reader.Found.{Found}
use Rattle.iio_script.specs.declared.line_reader.Found.TheVariants.{Cut}
use Rattle.iio_script.specs.LineReader.{Follows, FollowsAll, FollowsBy, FollowsFront, Hand, HasLine, IsCut, IsDone, IsHand, IsLong, IsPlain, NeedsMore, Shows, TakesNear, bytes_until, ended_size, line_of, piece_size, taken_of}
use Rattle.iio_script.proofs.LineLaws.{BeginsWith, ended_none, lines_begin, plain_take}
use Rattle.iio_script.proofs.ScannedLaws.{Begins, LongBehind, scanned_begin, scanned_cut, scanned_long, scanned_whole}
use Rattle.iio_script.proofs.HandLaws.{going_of, last_front, past, passed_front}

-- a reader that has given nothing
pub follows_first : (input : List ℕ) → Follows input [] (record { bytes = []; looked = 0; given = 0; ended = false; over = false }) (Some input)
follows_first input = search rules

-- what it shows, by whether its last line was given
pub by_over : (P : Type 0) (input : List ℕ) (front : List (List ℕ)) (h : Hand) (left : Option (List ℕ)) → (h.over ≡ false → FollowsFront input front h left → P)
    → (h.over ≡ true → FollowsAll input front left → P) → Follows input front h left → P
by_over P input front h left going over follows = cases h.over refl follows
  where
    cases : (o : Bool) → h.over ≡ o → FollowsBy o input front h left → P
    cases o is goes = search rules

-- ---- the next line

pub next_line : (input : List ℕ) (front : List (List ℕ)) (h : Hand) (left : Option (List ℕ)) → IsHand h → HasLine h → Follows input front h left
    → Begins (front ++ line_of h ∷ []) (scanned_lines input)
next_line input front h left is (inl has) follows =
    let goes : FollowsFront input (front ++ line_of h ∷ []) (past h) left = search (rules, passed_front) in
    subst (λ (xs : List ℕ). Begins (front ++ line_of h ∷ []) (scanned_lines xs)) (sym goes.parts)
    (scanned_begin goes.bytes ((past h).bytes ++ goes.rest) (front ++ line_of h ∷ []) goes.front_is (omega (arith, goes.given, has.within)))
next_line input front h left is (inr has) follows = search (rules, last_front)

-- the lines that were given are the first of the looked-at lines
pub follows_begin : (input : List ℕ) (front : List (List ℕ)) (h : Hand) (left : Option (List ℕ)) → IsHand h → Follows input front h left
    → Begins front (scanned_lines input)
follows_begin input front h left is follows =
    by_over (Begins front (scanned_lines input)) input front h left
    (λ going goes. subst (λ (xs : List ℕ). Begins front (scanned_lines xs)) (sym goes.parts)
    (scanned_begin goes.bytes (h.bytes ++ goes.rest) front goes.front_is (omega (arith, goes.given, is.given))))
    (λ over all. record { more = []; parts = all.lines ∙ sym (append-nil front) }) follows

-- no line is left
pub no_line : (input : List ℕ) (front : List (List ℕ)) (h : Hand) (left : Option (List ℕ)) → IsHand h → IsDone h → Follows input front h left
    → (scanned_lines input ≡ front) × (is_overlong input ≡ false) × (left ≡ Some []) × (length input ≤ ended_size front) × (lines_of input ≡ front)
no_line input front h left is done follows =
    by_over ((scanned_lines input ≡ front) × (is_overlong input ≡ false) × (left ≡ Some []) × (length input ≤ ended_size front) × (lines_of input ≡ front))
    input
    front h left
    (λ going goes. at_end goes (spent going done)) (λ over all. (all.lines, all.short, all.none_left, all.size, all.every)) follows
  where
    spent : h.over ≡ false → IsDone h → (h.ended ≡ true) × (h.bytes ≡ [])
    spent going h1 = search rules

    at_end : FollowsFront input front h left → (h.ended ≡ true) × (h.bytes ≡ [])
        → (scanned_lines input ≡ front) × (is_overlong input ≡ false) × (left ≡ Some []) × (length input ≤ ended_size front) × (lines_of input ≡ front)
    at_end goes done =
        let none : goes.rest ≡ [] = goes.end done.0 in
        let parts : input ≡ goes.bytes = search rules in
        let few : length goes.bytes ≤ input_limit = omega (arith, goes.given, is.given) in (
          ap scanned_lines parts ∙ scanned_whole goes.bytes front goes.front_is few,
          grind (arith, few),
          goes.left_is ∙ ap Some none,
          omega (arith, ap length parts, goes.front_is.size),
          ap lines_of (parts ∙ sym (append-nil goes.bytes)) ∙ goes.front_is.lines [] ∙ append-nil front,
        )

-- no further line is certain
pub cut_line : (input : List ℕ) (front : List (List ℕ)) (h : Hand) (left : Option (List ℕ)) → IsHand h → IsCut h → Follows input front h left
    → (scanned_lines input ≡ front) × (is_overlong input ≡ true)
cut_line input front h left is cut follows =
    let goes : FollowsFront input front h left = going_of input front h left cut.going follows in
    let room : ℕ = input_limit - length goes.bytes in
    let few : room ≤ h.looked = omega (arith, goes.given, cut.all, cut.more) in
    let part : take room (h.bytes ++ goes.rest) ≡ take room (line_of h) = grind (arith, common_steps) in
    let size : length input ≡ length goes.bytes + (length h.bytes + length goes.rest) = grind (arith, common_steps) in
    let over : input_limit < length input = omega (arith, size, goes.given, cut.more) in (
      ap scanned_lines goes.parts
          ∙ scanned_cut goes.bytes (h.bytes ++ goes.rest) front goes.front_is (omega (arith, goes.given, is.given)) (omega (arith, over, ap length goes.parts))
          (subst IsPlain (sym part) (plain_take room (line_of h) is.plain)) (omega (arith, goes.given, cut.short)),
      grind (arith, over),
    )

-- the next line is too long
pub long_line : (input : List ℕ) (front : List (List ℕ)) (h : Hand) (left : Option (List ℕ)) → IsHand h → IsLong h → Follows input front h left
    → LongBehind front (scanned_lines input)
long_line input front h left is long follows =
    let goes : FollowsFront input front h left = going_of input front h left long.going follows in
    let n : ℕ = MAX_LINE_BYTES + 1 in
    let few : n ≤ h.looked = omega (arith, long.long) in
    let line : List ℕ = take n (line_of h) in
    let size : length line ≡ n = length-take-le n (line_of h) (omega (arith, few, length-take-le h.looked h.bytes is.looked)) in
    let same : line ≡ take n h.bytes = take-take n h.looked h.bytes few in
    let parts : input ≡ goes.bytes ++ (line ++ (drop n h.bytes ++ goes.rest)) =
    goes.parts ∙ ap (λ t. goes.bytes ++ t)
    (ap (λ t. t ++ goes.rest) (sym (take-append-drop n h.bytes) ∙ ap (λ t. t ++ drop n h.bytes) (sym same)) ∙ append_assoc line (drop n h.bytes) goes.rest) in
    subst (λ (xs : List ℕ). LongBehind front (scanned_lines xs)) (sym parts)
    (scanned_long goes.bytes line (drop n h.bytes ++ goes.rest) front goes.front_is (plain_take n (line_of h) is.plain) (omega (arith, size))
    (omega (arith, size, goes.given, long.within)))

-- ---- the bytes that were taken

-- the bytes of the lines that were given, and those in hand
pub taken_front : (input : List ℕ) (front : List (List ℕ)) (h : Hand) (left : Option (List ℕ)) → (goes : FollowsFront input front h left)
    → (take (taken_of h) input ≡ goes.bytes ++ h.bytes) × (left ≡ Some (drop (taken_of h) input)) × (taken_of h ≤ length input)
taken_front input front h left goes =
    let parts : input ≡ (goes.bytes ++ h.bytes) ++ goes.rest = goes.parts ∙ sym (append_assoc goes.bytes h.bytes goes.rest) in
    let size : taken_of h ≡ length (goes.bytes ++ h.bytes) = omega (arith, goes.given, length-append goes.bytes h.bytes) in (
      ap (λ n. take n input) size ∙ ap (take (length (goes.bytes ++ h.bytes))) parts ∙ take-append_seam (goes.bytes ++ h.bytes) goes.rest,
      goes.left_is ∙ ap Some (sym
          (ap (λ n. drop n input) size ∙ ap (drop (length (goes.bytes ++ h.bytes))) parts ∙ drop-append_seam (goes.bytes ++ h.bytes) goes.rest)),
      omega (arith, size, ap length parts, length-append (goes.bytes ++ h.bytes) goes.rest),
    )

-- a read failed: the whole lines of all that was taken are those that were given
pub whole_lines : (input : List ℕ) (front : List (List ℕ)) (h : Hand) (left : Option (List ℕ)) → IsHand h → NeedsMore h → Follows input front h left
    → (lines_of (ended_part (take (taken_of h) input)) ≡ front) × (left ≡ Some (drop (taken_of h) input))
whole_lines input front h left is needs follows =
    let goes : FollowsFront input front h left = going_of input front h left needs.going follows in
    let taken = taken_front input front h left goes in
    let all : line_of h ≡ h.bytes = take_all h.looked h.bytes (omega (arith, needs.all)) in (
      ap (λ t. lines_of (ended_part t)) taken.0
          ∙ ap lines_of (goes.front_is.ended h.bytes ∙ ap (λ t. goes.bytes ++ t) (ended_none h.bytes (subst IsPlain all is.plain)))
          ∙ goes.front_is.lines [] ∙ append-nil front,
      taken.1,
    )

pub takes_at_most : (input : List ℕ) (front : List (List ℕ)) (h : Hand) (left : Option (List ℕ)) → IsHand h → Follows input front h left
    → TakesAtMost input (input_limit + 1) left
takes_at_most input front h left is follows =
    by_over (TakesAtMost input (input_limit + 1) left) input front h left
    (λ going goes. record { count = taken_of h; within = is.within; rest = (taken_front input front h left goes).1 })
    (λ over all. record {
      count = length input;
      within = grind (arith, nat_tests);
      rest = all.none_left ∙ ap Some (sym (drop_all (length input) input (omega arith)));
    }) follows

-- ---- how much was taken after the line that fails

until_front : (front : List (List ℕ)) (line : List ℕ) (more : List (List ℕ))
    → bytes_until (suc (length front)) (front ++ line ∷ more) ≡ ended_size front + (min (length line) MAX_LINE_BYTES + 1)
until_front [] line more = omega arith
until_front (l ∷ ls) line more = omega (arith, until_front ls line more)

until_end : (front : List (List ℕ)) → bytes_until (suc (length front)) front ≡ ended_size front
until_end [] = refl
until_end (l ∷ ls) = omega (arith, until_end ls)

-- at a line of which at least these bytes are in hand
near_line : (input : List ℕ) (front : List (List ℕ)) (h : Hand) (left : Option (List ℕ)) (line : List ℕ) (more : List (List ℕ)) (number : ℕ) → IsHand h
    → FollowsFront input front h left
    → lines_of input ≡ front ++ line ∷ more → length (h.bytes) ≤ min (length line) MAX_LINE_BYTES + 1 + piece_size → number ≡ length front + 1
    → TakesNear number input left
near_line input front h left line more number is goes lines few at =
    let taken = taken_front input front h left goes in
    let next : number ≡ suc (length front) = omega (arith, at) in
    let until : bytes_until number (lines_of input) ≡ ended_size front + (min (length line) MAX_LINE_BYTES + 1) = search (rules, until_front) in
    record {
      count = taken_of h;
      enough = taken.2;
      near = omega (arith, until, few, goes.front_is.size, goes.given);
      rest = taken.1;
    }

near_found : (input : List ℕ) (front : List (List ℕ)) (h : Hand) (left : Option (List ℕ)) (number : ℕ) → IsHand h → HasLine h → Follows input front h left
    → number ≡ length front + 1
    → TakesNear number input left
near_found input front h left number is (inl has) follows at =
    let goes : FollowsFront input front h left = going_of input front h left has.going follows in
    let passed : FollowsFront input (front ++ line_of h ∷ []) (past h) left = passed_front input front h left is.plain has.stands goes in
    let lines : lines_of input ≡ front ++ line_of h ∷ lines_of ((past h).bytes ++ passed.rest) =
    ap lines_of passed.parts ∙ passed.front_is.lines ((past h).bytes ++ passed.rest)
    ∙ append_assoc front (line_of h ∷ []) (lines_of ((past h).bytes ++ passed.rest)) in
    near_line input front h left (line_of h) (lines_of ((past h).bytes ++ passed.rest)) number is goes lines
    (omega (arith, is.near, is.few, length-take-le h.looked h.bytes is.looked)) at
near_found input front h left number is (inr has) follows at = search (rules, last_front, near_line)

near_long : (input : List ℕ) (front : List (List ℕ)) (h : Hand) (left : Option (List ℕ)) (number : ℕ) → IsHand h → IsLong h → Follows input front h left
    → number ≡ length front + 1
    → TakesNear number input left
near_long input front h left number is long follows at =
    let goes : FollowsFront input front h left = going_of input front h left long.going follows in
    let line : List ℕ = line_of h in
    let size : length line ≡ h.looked = length-take-le h.looked h.bytes is.looked in
    let begins : BeginsWith line (lines_of (line ++ (drop h.looked h.bytes ++ goes.rest))) = search (rules, lines_begin) in
    let rest : h.bytes ++ goes.rest ≡ line ++ (drop h.looked h.bytes ++ goes.rest) =
    ap (λ t. t ++ goes.rest) (sym (take-append-drop h.looked h.bytes)) ∙ append_assoc line (drop h.looked h.bytes) goes.rest in
    let lines : lines_of input ≡ front ++ (line ++ begins.rest) ∷ begins.more = search rules in
    near_line input front h left (line ++ begins.rest) begins.more number is goes lines
    (omega (arith, is.few, size, long.long, length-append line begins.rest)) at

near_end : (input : List ℕ) (front : List (List ℕ)) (h : Hand) (left : Option (List ℕ)) (number : ℕ) → IsHand h → IsDone h → Follows input front h left
    → number ≡ length front + 1
    → TakesNear number input left
near_end input front h left number is done follows at =
    let none = no_line input front h left is done follows in
    let next : number ≡ suc (length front) = omega (arith, at) in
    let until : bytes_until number (lines_of input) ≡ ended_size front = search (rules, until_end) in
    record {
      count = length input;
      enough = omega arith;
      near = omega (arith, until, none.3);
      rest = none.2 ∙ ap Some (sym (drop_all (length input) input (omega arith)));
    }

-- what was found shows where the line with the next number fails
pub near : (input : List ℕ) (front : List (List ℕ)) (h : Hand) (left : Option (List ℕ)) (number : ℕ) (found : Found) → IsHand h → Shows found h → found ≢ Cut
    → Follows input front h left
    → number ≡ length front + 1 → TakesNear number input left
near input front h left number found is shows other follows at = search (rules, near_found, near_long, near_end)
