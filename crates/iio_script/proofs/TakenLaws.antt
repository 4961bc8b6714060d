-- How much a reader has taken of a description.
use Rattle.std.proofs.Common.{◌≡◌, ℕ, ◌+◌, ◌≤◌, Bool, true, false, ◌||◌, List, [], ◌++◌, length, take, drop, Option, Some, sym, ap, ◌∙◌, inl, inr, arith, append_assoc, append-nil, rules}
use Rattle.std.proofs.lemmas.Grind.{common_steps}
use Rattle.std.proofs.Math.Seq.{take-append_seam}
use Rattle.std.proofs.lemmas.Bool.{false≢true, cases_lt}
use Rattle.std.proofs.lemmas.Bool.Decides.{nat_tests}
use Rattle.std.proofs.lemmas.List.{take-append-drop, take_all, drop_all}
use Rattle.std.proofs.lemmas.List.Folds.{list_any-append}
use Rattle.std.specs.List.{list_any}
use Rattle.iio_text.specs.Lines.{lines_of}
use Rattle.iio_desc.specs.Lines.{is_end}
use Rattle.iio_history.specs.Input.{ended_part, input_limit}
use Rattle.iio_script.specs.LineReader.{Follows, FollowsFront, Hand, IsHand, TakesBlocks, has_end, line_of, taken_of}
use Rattle.iio_script.proofs.FrontLaws.{end_count}
use Rattle.iio_script.proofs.ToldLaws.{has_end-lines, has_end-take}
use Rattle.iio_script.proofs.LineLaws.{ended_none}
use Rattle.iio_script.proofs.FollowLaws.{by_over, taken_front}

-- if there is none among all lines, there is none among the first
any_take : (p : List ℕ → Bool) (n : ℕ) (lines : List (List ℕ)) → list_any p lines ≡ false → list_any p (take n lines) ≡ false
any_take p n lines none =
    (both (list_any p (take n lines)) (list_any p (drop n lines))
    (sym (list_any-append p (take n lines) (drop n lines)) ∙ ap (list_any p) (take-append-drop n lines) ∙ none))
  where
    both : (a b : Bool) → (a || b) ≡ false → a ≡ false
    both a b h = search rules

-- the bytes up to where the reader has looked
scanned_front : (input : List ℕ) (front : List (List ℕ)) (h : Hand) (left : Option (List ℕ)) → IsHand h → (goes : FollowsFront input front h left)
    → take (h.given + h.looked) input ≡ goes.bytes ++ line_of h
scanned_front input front h left is goes =
    let line : List ℕ = line_of h in
    let parts : input ≡ (goes.bytes ++ line) ++ (drop h.looked h.bytes ++ goes.rest) =
    goes.parts ∙ ap (λ t. goes.bytes ++ t)
    (ap (λ t. t ++ goes.rest) (sym (take-append-drop h.looked h.bytes)) ∙ append_assoc line (drop h.looked h.bytes) goes.rest)
    ∙ sym (append_assoc goes.bytes line (drop h.looked h.bytes ++ goes.rest)) in
    let size : h.given + h.looked ≡ length (goes.bytes ++ line) = grind (arith, common_steps) in
    ap (λ n. take n input) size ∙ ap (take (length (goes.bytes ++ line))) parts ∙ take-append_seam (goes.bytes ++ line) (drop h.looked h.bytes ++ goes.rest)

-- .. whose whole lines are those that were given
pub scanned_given : (input : List ℕ) (front : List (List ℕ)) (h : Hand) (left : Option (List ℕ)) → IsHand h → FollowsFront input front h left
    → lines_of (ended_part (take (h.given + h.looked) input)) ≡ front
scanned_given input front h left is goes =
    ap (λ t. lines_of (ended_part t)) (scanned_front input front h left is goes)
    ∙ ap lines_of (goes.front_is.ended (line_of h) ∙ ap (λ t. goes.bytes ++ t) (ended_none (line_of h) is.plain)) ∙ goes.front_is.lines [] ∙ append-nil front

-- none of its lines ends a description
none_ends : (input : List ℕ) (front : List (List ℕ)) (h : Hand) (left : Option (List ℕ)) → IsHand h → FollowsFront input front h left
    → list_any is_end front ≡ false
    → has_end (take (h.given + h.looked) input) ≡ false
none_ends input front h left is goes none = ap (list_any is_end) (scanned_given input front h left is goes) ∙ none

-- .. so a front part with such a line is longer
pub takes_blocks : (input : List ℕ) (front : List (List ℕ)) (h : Hand) (left : Option (List ℕ)) → IsHand h → list_any is_end front ≡ false
    → Follows input front h left
    → TakesBlocks input left
takes_blocks input front h left is none follows =
    by_over (TakesBlocks input left) input front h left
    (λ going goes.
    let taken = taken_front input front h left goes in
    let no_end = none_ends input front h left is goes none in
    record {
      count = taken_of h;
      within = is.within;
      near = search (rules, has_end-take);
      rest = taken.1;
    })
    (λ over all.
    let short : length input ≤ input_limit = grind (arith, nat_tests) in
    let no_end : has_end input ≡ false = has_end-lines input ∙ any_take is_end (end_count input) (lines_of input) (ap (list_any is_end) all.every ∙ none) in
    record {
      count = length input;
      within = omega (arith, short);
      near = λ m ends. elim (cases_lt (length input) m) [
        | inl behind ↦ omega (arith, behind)
        | inr within ↦ absurd (false≢true
            (sym no_end ∙ ap has_end (sym (take_all (length input) input (omega arith))) ∙ has_end-take input m (length input) within ends))
      ];
      rest = all.none_left ∙ ap Some (sym (drop_all (length input) input (omega arith)));
    }) follows
