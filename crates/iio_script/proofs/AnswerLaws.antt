-- What was written before a further piece was taken.
use Rattle.std.proofs.Common.{◌≡◌, ℕ, zero, suc, ◌+◌, Bool, true, false, cond, List, [], ◌∷◌, ◌++◌, length, take, Option, Some, Result, Ok, Err, refl, sym, ap, ◌∙◌, inr, arith, append-nil, rules}
use Rattle.std.proofs.lemmas.Grind.{common_steps}
use Rattle.std.proofs.lemmas.List.{take_all, drop_all}
use Rattle.iio_text.specs.Lines.{lines_of}
use Rattle.iio_desc.specs.declared.reader.DescFault.{DescFault}
use Rattle.iio_desc.specs.Description.{Description}
use Rattle.iio_desc.specs.DescReader.{Reader, after_line, ended_by, new_reader}
use Rattle.iio_desc.specs.Lines.{is_end}
use Rattle.iio_history.specs.Input.{ended_part}
use Rattle.iio_history.specs.Outcome.{Cut, Faulty, Head, described, head_from}
use Rattle.iio_history.specs.Script.{Finished, script_from, script_text}
use Rattle.iio_script.specs.LineReader.{Follows, Hand, IsHand, taken_of}
use Rattle.iio_script.specs.Plays.{AnswersScript, Start}
use Rattle.iio_script.specs.Told.{TakesUnended}
use Rattle.iio_script.proofs.FrontLaws.{end_count}
use Rattle.iio_script.proofs.HandLaws.{going_of}
use Rattle.iio_script.proofs.FollowLaws.{by_over, taken_front}
use Rattle.iio_script.proofs.TakenLaws.{scanned_given}
use Rattle.iio_script.proofs.ToldLaws.{lines_of-ended_part}

-- ---- the description

no_fault : (fault : DescFault) → Faulty fault ≡ Cut → ⊥
no_fault fault is = cc

no_described : (n : ℕ) (lines : List (List ℕ)) (read : Result Description DescFault) → described n lines read ≡ Cut → ⊥
no_described n lines read is = search rules

cut_step : (ends : Bool) (one one' other other' : Head) → (one ≡ Cut → one' ≡ Cut) → (other ≡ Cut → other' ≡ Cut) → cond ends one other ≡ Cut
    → cond ends one' other' ≡ Cut
cut_step ends one one' other other' first second is = search rules

-- if no line of all ends it or is refused, none of the first lines does or is
head_take : (reader : Reader) (n k : ℕ) (lines : List (List ℕ)) → head_from true reader n lines ≡ Cut → head_from true reader n (take k lines) ≡ Cut
head_take (Err fault) n k lines is = absurd (no_fault fault is)
head_take (Ok reading) n zero lines is = refl
head_take (Ok reading) n (suc k) [] is = refl
head_take (Ok reading) n (suc k) (line ∷ lines) is =
    cut_step (is_end line) (described (n + 1) lines (ended_by (Ok reading) line)) (described (n + 1) (take k lines) (ended_by (Ok reading) line))
    (head_from true (after_line (Ok reading) line) (n + 1) lines) (head_from true (after_line (Ok reading) line) (n + 1) (take k lines))
    (λ ends. absurd (no_described (n + 1) lines (ended_by (Ok reading) line) ends)) (head_take (after_line (Ok reading) line) (n + 1) k lines) is

pub takes_unended : (drivers : ℕ) (input : List ℕ) (front : List (List ℕ)) (h : Hand) (left : Option (List ℕ)) → IsHand h
    → head_from true (new_reader drivers) 1 front ≡ Cut
    → Follows input front h left → TakesUnended drivers input left
takes_unended drivers input front h left is cut follows =
    by_over (TakesUnended drivers input left) input front h left
    (λ going goes. record {
      count = taken_of h;
      rest = (taken_front input front h left goes).1;
      before = h.given + h.looked;
      near = omega (arith, is.near);
      head = ap (head_from true (new_reader drivers) 1) (scanned_given input front h left is goes) ∙ cut;
    })
    (λ over all. record {
      count = length input;
      rest = all.none_left ∙ ap Some (sym (drop_all (length input) input (omega arith)));
      before = length input;
      near = omega arith;
      head = ap (λ t. head_from true (new_reader drivers) 1 (lines_of (ended_part t))) (take_all (length input) input (omega arith))
          ∙ ap (head_from true (new_reader drivers) 1) (lines_of-ended_part input ∙ ap (take (end_count input)) all.every)
          ∙ head_take (new_reader drivers) 1 (end_count input) front cut;
    }) follows

-- ---- the script

-- more was written
pub answers_more : (start : Start) (input sent more : List ℕ) (begin left : Option (List ℕ)) → AnswersScript start input sent begin left
    → AnswersScript start input (sent ++ more) begin left
answers_more start input sent more begin left h1 = grind (arith, common_steps)

-- all was written, and after that a read was made
pub answers_found : (start : Start) (given : List (List ℕ)) (input sent : List ℕ) (h : Hand) (begin left : Option (List ℕ)) → IsHand h
    → sent ≡ script_text start.setup (script_from start.setup.desc Finished [] start.first given) → h.over ≡ false
    → Follows input (start.front ++ given) h left
    → AnswersScript start input sent begin left
answers_found start given input sent h begin left is all going follows =
    let goes = going_of input (start.front ++ given) h left going follows in
    inr (record {
      count = taken_of h;
      rest = (taken_front input (start.front ++ given) h left goes).1;
      before = h.given + h.looked;
      near = omega (arith, is.near);
      given = given;
      lines = scanned_given input (start.front ++ given) h left is goes;
      more = [];
      written = all ∙ sym (append-nil (script_text start.setup (script_from start.setup.desc Finished [] start.first given)));
    })
