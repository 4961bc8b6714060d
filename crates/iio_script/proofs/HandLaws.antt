-- What a reader has in hand after it has looked on, and after it has taken one more piece.
use Rattle.std.proofs.Common.{◌≡◌, ℕ, zero, suc, ◌+◌, ◌<◌, ◌≤◌, Bool, true, false, List, [], ◌∷◌, ◌++◌, length, take, drop, get_or, Option, Some, IfSome, nat_eq, refl, sym, ap, ◌∙◌, arith, subst, append_assoc, rules}
use Rattle.std.proofs.lemmas.Grind.{common_steps}
use Rattle.std.proofs.Math.Seq.{take-add}
use Rattle.std.proofs.lemmas.Bool.{false_from_ne_true}
use Rattle.std.proofs.lemmas.List.{length-append, length-drop, drop-take, take_all}
use Rattle.std.proofs.lemmas.List.Folds.{list_any_more}
use Rattle.memchr.specs.Find.{NoneBefore, Nowhere, Passes, is_byte}
use Rattle.iio_text.specs.Lines.{is_line_end, lines_of}
use Rattle.iio_history.specs.Input.{input_limit}
use Rattle.iio_script.specs.LineReader.{Follows, FollowsAll, FollowsBy, FollowsFront, Hand, HasEnded, HasLast, HasLine, IsHand, IsPlain, NeedsMore, ReadsPiece, StandsAtEnd, empty_hand, line_of, piece_size, taken_of, to_take}
use Rattle.iio_script.proofs.LineLaws.{ended_size-append, front_more, lines_last, plain_append}
use Rattle.iio_script.proofs.ScannedLaws.{scanned_last}

-- before the first byte was read
pub hand_first : IsHand empty_hand
hand_first = record { looked = omega arith; plain = refl; near = omega arith; few = omega arith; given = omega arith; within = omega arith }

-- ---- up to the next LF

plain_before : (text : List ℕ) (n : ℕ) → Nowhere (Passes (is_byte 10) text) 0 n → n ≤ length text → IsPlain (take n text)
plain_before text zero none few = refl
plain_before text (suc n) none few =
    let front = plain_before text n (λ k low high. none k low (omega (arith, high))) (omega (arith, few)) in
    let byte : is_line_end (get_or text n 0) ≡ false = false_from_ne_true (is_line_end (get_or text n 0)) (none n (omega arith) (omega arith)) in
    let next : n + 1 ≡ suc n = omega arith in
    subst (λ (k : ℕ). IsPlain (take k text)) next (list_any_more is_line_end text n 0 (omega (arith, few)) ∙ rw (front, byte) refl)

scanned_on : (h : Hand) (k : ℕ) → IsHand h → h.looked + k ≤ length h.bytes → IsPlain (take k (drop h.looked h.bytes))
    → IsHand (record h { looked = h.looked + k })
scanned_on h k is few plain = record {
  looked = few;
  plain = subst IsPlain (sym (take-add h.looked k h.bytes)) (plain_append (line_of h) (take k (drop h.looked h.bytes)) is.plain plain);
  near = omega (arith, is.near);
  few = is.few;
  given = is.given;
  within = is.within;
}

pub scanned_to : (h : Hand) (text : List ℕ) (k : ℕ) → IsHand h → text ≡ drop h.looked h.bytes → NoneBefore (Passes (is_byte 10) text) 0 (length text) k
    × Passes (is_byte 10) text k
    → IsHand (record h { looked = h.looked + k })
scanned_to h text k is same found = grind (arith, common_steps, scanned_on, plain_before)

pub stands_at : (h : Hand) (text : List ℕ) (k : ℕ) → h.looked ≤ length h.bytes → text ≡ drop h.looked h.bytes
    → NoneBefore (Passes (is_byte 10) text) 0 (length text) k × Passes (is_byte 10) text k
    → StandsAtEnd (record h { looked = h.looked + k })
stands_at h text k few same found = grind (arith, common_steps)

pub scanned_all : (h : Hand) (text : List ℕ) (all : ℕ) → IsHand h → text ≡ drop h.looked h.bytes → Nowhere (Passes (is_byte 10) text) 0 (length text)
    → all ≡ length h.bytes
    → IsHand (record h { looked = all })
scanned_all h text all is same none whole =
    let sum : all ≡ h.looked + length text = omega (arith, whole, ap length same, length-drop h.looked h.bytes, is.looked) in
    subst (λ (n : ℕ). IsHand (record h { looked = n })) (sym sum)
    (scanned_on h (length text) is (omega (arith, sum, whole))
    (subst (λ (t : List ℕ). IsPlain (take (length text) t)) same (plain_before text (length text) none (omega arith))))

-- ---- a reader that hasn't given its last line

pub going_of : (input : List ℕ) (front : List (List ℕ)) (h : Hand) (left : Option (List ℕ)) → h.over ≡ false → Follows input front h left
    → FollowsFront input front h left
going_of input front h left going follows = subst (λ (over : Bool). FollowsBy over input front h left) going follows

pub of_going : (input : List ℕ) (front : List (List ℕ)) (h : Hand) (left : Option (List ℕ)) → h.over ≡ false → FollowsFront input front h left
    → Follows input front h left
of_going input front h left going goes = subst (λ (over : Bool). FollowsBy over input front h left) (sym going) goes

-- ---- after a line

-- the bytes in hand up to an LF
ended_at : (text : List ℕ) (n : ℕ) → n < length text → get_or text n 0 ≡ 10 → (take n text ++ 10 ∷ []) ++ drop (n + 1) text ≡ text
ended_at text n some end = grind (arith, common_steps)

abbrev pub past : Hand → Hand
past h = record h { bytes = drop (h.looked + 1) h.bytes; looked = 0; given = h.given + (h.looked + 1) }

pub passed_front : (input : List ℕ) (front : List (List ℕ)) (h : Hand) (left : Option (List ℕ)) → IsPlain (line_of h) → StandsAtEnd h
    → FollowsFront input front h left
    → FollowsFront input (front ++ line_of h ∷ []) (past h) left
passed_front input front h left plain at goes = record {
  bytes = goes.bytes ++ (line_of h ++ 10 ∷ []);
  rest = goes.rest;
  left_is = goes.left_is;
  parts = goes.parts ∙ ap (λ t. goes.bytes ++ (t ++ goes.rest)) (sym (ended_at h.bytes h.looked at.some at.end))
      ∙ ap (λ t. goes.bytes ++ t) (append_assoc (line_of h ++ 10 ∷ []) (drop (h.looked + 1) h.bytes) goes.rest)
      ∙ sym (append_assoc goes.bytes (line_of h ++ 10 ∷ []) (drop (h.looked + 1) h.bytes ++ goes.rest));
  given = grind (arith, common_steps);
  front_is = front_more goes.bytes (line_of h) front goes.front_is plain;
  end = goes.end;
}

-- an LF ends the line
pub passed_ended : (input : List ℕ) (front : List (List ℕ)) (h : Hand) (left : Option (List ℕ)) → IsHand h → HasEnded h → Follows input front h left
    → Follows input (front ++ line_of h ∷ []) (past h) left
passed_ended input front h left is has follows = grind (arith, common_steps, passed_front)

-- the line ends with the input
pub last_front : (input : List ℕ) (front : List (List ℕ)) (h : Hand) (left : Option (List ℕ)) → IsPlain (line_of h) → HasLast h
    → FollowsFront input front h left
    → FollowsAll input (front ++ line_of h ∷ []) left
last_front input front h left plain has goes =
    let none : goes.rest ≡ [] = goes.end has.ended in
    let line : line_of h ≡ h.bytes = take_all h.looked h.bytes (omega (arith, has.all)) in
    let parts : input ≡ goes.bytes ++ line_of h = search rules in
    let size : length input ≡ length goes.bytes + length (line_of h) = ap length parts ∙ length-append goes.bytes (line_of h) in
    let some : 0 < length (line_of h) = omega (arith, ap length line, has.some, has.all) in
    let few : length input ≤ input_limit = omega (arith, size, ap length line, goes.given, has.within) in
    record {
      none_left = goes.left_is ∙ ap Some none;
      lines = search (rules, scanned_last);
      every = ap lines_of parts ∙ goes.front_is.lines (line_of h) ∙ ap (λ ls. front ++ ls) (lines_last (line_of h) plain some);
      short = grind (arith, few);
      size = omega (arith, size, ended_size-append front (line_of h ∷ []), goes.front_is.size);
    }

pub passed_last : (input : List ℕ) (front : List (List ℕ)) (h h' : Hand) (left : Option (List ℕ)) → IsHand h → HasLast h → h'.over ≡ true
    → Follows input front h left
    → Follows input (front ++ line_of h ∷ []) h' left
passed_last input front h h' left is has over follows = search (rules, last_front)

-- in both cases
pub passed : (input : List ℕ) (front : List (List ℕ)) (h h' : Hand) (left : Option (List ℕ)) → IsHand h → HasLine h
    → (h.looked < length h.bytes → h' ≡ past h) → (length h.bytes ≤ h.looked → h'.over ≡ true) → Follows input front h left
    → Follows input (front ++ line_of h ∷ []) h' left
passed input front h h' left is h1 ended last follows = search (rules, passed_ended, passed_last)

-- ---- one more piece

filled_front : (input : List ℕ) (front : List (List ℕ)) (h : Hand) (left left' : Option (List ℕ)) (bytes' : List ℕ) (n : ℕ)
    (goes : FollowsFront input front h left)
    → ReadsPiece goes.rest h.bytes bytes' n left' → FollowsFront input front (record h { bytes = bytes'; ended = nat_eq n 0 }) left'
filled_front input front h left left' bytes' n goes piece = grind (arith, common_steps)

pub filled : (input : List ℕ) (front : List (List ℕ)) (h : Hand) (left left' : Option (List ℕ)) (bytes' : List ℕ) (n : ℕ) → h.over ≡ false
    → IfSome left (λ xs. ReadsPiece xs h.bytes bytes' n left') → Follows input front h left
    → Follows input front (record h { bytes = bytes'; ended = nat_eq n 0 }) left'
filled input front h left left' bytes' n going read follows =
    let goes : FollowsFront input front h left = going_of input front h left going follows in
    of_going input front (record h { bytes = bytes'; ended = nat_eq n 0 }) left' going
    (filled_front input front h left left' bytes' n goes
    (subst (λ (l : Option (List ℕ)). IfSome l (λ xs. ReadsPiece xs h.bytes bytes' n left')) goes.left_is read))

-- after bytes that were given and are still in memory
pub piece_behind : (before after : List ℕ) (begin n : ℕ) (left left' : Option (List ℕ)) → begin ≤ length before
    → IfSome left (λ xs. ReadsPiece xs before after n left')
    → IfSome left (λ xs. ReadsPiece xs (drop begin before) (drop begin after) n left')
piece_behind before after begin n left left' few read = grind (arith, common_steps)

pub filled_hand : (h : Hand) (before after : List ℕ) (begin n : ℕ) (ended : Bool) → IsHand h → NeedsMore h → h.bytes ≡ drop begin before → begin ≤ length before
    → take (length before) after ≡ before
    → length after ≡ length before + n → n ≤ piece_size → taken_of h + n ≤ input_limit + 1 → IsHand (record h { bytes = drop begin after; ended = ended })
filled_hand h before after begin n ended is needs same few behind grown small within =
    let long : length (drop begin after) ≡ length h.bytes + n = omega (arith, length-drop begin after, length-drop begin before, ap length same, grown, few) in
    let sum : length before ≡ begin + h.looked = omega (arith, length-drop begin before, ap length same, few, needs.all) in
    let front : take h.looked (drop begin after) ≡ take h.looked h.bytes = search (rules, drop-take, take_all) in
    record {
      looked = omega (arith, needs.all, long);
      plain = subst IsPlain (sym front) is.plain;
      near = omega (arith, needs.all, long, small);
      few = omega (arith, needs.short, long, small);
      given = is.given;
      within = omega (arith, long, within);
    }

pub takes_more : (h : Hand) (bytes' : List ℕ) (n : ℕ) → NeedsMore h → length bytes' ≡ length h.bytes + n
    → to_take (record h { bytes = bytes'; ended = nat_eq n 0 }) < to_take h
takes_more h bytes' n needs grown = search rules
