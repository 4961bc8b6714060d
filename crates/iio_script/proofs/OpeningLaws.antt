-- The description at the head of an input: what a reader's answers show of it.
use Rattle.std.proofs.Common.{◌≡◌, ℕ, ◌+◌, Bool, true, false, cond, List, [], ◌∷◌, ◌++◌, length, Option, None, Some, IfSome, Result, Ok, Err, refl, sym, ap, ◌∙◌, arith, subst, append_assoc, append-nil, length-append, rules}
use Rattle.std.proofs.lemmas.Grind.{common_steps}
use Rattle.std.specs.Prelude.{IfOk, IsOk}
use Rattle.iio_io.specs.declared.whole.ReadEnd.{ReadEnd}
use Rattle.std.specs.List.{list_any}
use Rattle.std.proofs.lemmas.Bool.{false≢true}
use Rattle.iio_text.specs.declared.refusals.Why.{Why}
use Rattle.iio_text.specs.declared.refusals.Why.TheVariants.{Long}
use Rattle.iio_text.specs.Lines.{fits_line}
use Rattle.iio_desc.specs.declared.reader.DescFault.{DescFault}
use Rattle.iio_desc.specs.declared.reader.DescFault.TheVariants.{Line}
use Rattle.iio_desc.specs.DescFault.{at_line}
use Rattle.iio_desc.specs.DescReader.{Reader, after_line, ended_by, finished, line_count, new_reader}
use Rattle.iio_desc.specs.Lines as line
use Rattle.iio_desc.specs.PartialDesc.{PartialDesc}
use Rattle.iio_desc.specs.Lines.{is_end}
use Rattle.iio_history.specs.Outcome.{Cut, Faulty, described, head_from, head_of}
use Rattle.iio_history.specs.Input.{is_overlong, scanned_lines}
use Rattle.iio_script.specs.declared.line_reader.Found.TheVariants as found
use Rattle.iio_script.specs.declared.opening.Opening.{Opening}
use Rattle.iio_script.specs.declared.opening.Opening.TheVariants.{Alone, Described, Refused}
use Rattle.iio_script.specs.declared.opening.Opening.TheVariants as read
use Rattle.iio_script.specs.LineReader.{Follows, Hand, HasLine, IsCut, IsDone, IsHand, IsLong, NeedsMore, TakesBlocks, TakesNear, empty_hand, line_of, taken_of}
use Rattle.iio_script.specs.Told.{FailsWithin, IsEnded, IsRefusedAt, IsUnended, Opens, RefusesAt, TakesUnended, told}
use Rattle.iio_script.proofs.FollowLaws.{cut_line, follows_first, long_line, near, next_line, no_line, whole_lines}
use Rattle.iio_script.proofs.AnswerLaws.{takes_unended}
use Rattle.iio_script.proofs.TakenLaws.{takes_blocks}

-- a line that ends the description
pub ends_at : (overlong : Bool) (reader : Reader) (n : ℕ) (line : List ℕ) (lines : List (List ℕ)) → is_end line ≡ true
    → head_from overlong reader n (line ∷ lines) ≡ described (n + 1) lines (ended_by reader line)
ends_at overlong reader n line lines ends = search rules

-- a line that is refused
pub refused_at : (overlong : Bool) (reader : Reader) (n m : ℕ) (why : Why) (line : List ℕ) (lines : List (List ℕ)) → is_end line ≡ false
    → after_line reader line ≡ Err (Line m why) → head_from overlong reader n (line ∷ lines) ≡ Faulty (Line m why)
refused_at overlong reader n m why line lines other refused = search rules

-- a line that is too long, whatever it says
pub too_long : (overlong : Bool) (reader : Reader) (n : ℕ) (line : List ℕ) (lines : List (List ℕ)) → IsOk reader → line_count reader + 1 ≡ n
    → fits_line line ≡ false
    → head_from overlong reader n (line ∷ lines) ≡ Faulty (Line n Long)
too_long overlong (Err fault) n line lines ok count long = absurd (false≢true ok)
too_long overlong (Ok reading) n text lines ok count long = by_end (is_end text)
  where
    by_end : (t : Bool) → cond t (described (n + 1) lines (ended_by (Ok reading) text)) (head_from overlong (after_line (Ok reading) text) (n + 1) lines)
        ≡ Faulty (Line n Long)
    by_end t = search rules

-- the input's end
pub ends_after : (reader : Reader) (n : ℕ) → head_from false reader n [] ≡ described n [] (finished reader)
ends_after reader n = search rules

pub cut_after : (reader : Reader) (n : ℕ) → IsOk reader → head_from true reader n [] ≡ Cut
cut_after reader n ok = search rules

-- ---- the number of a refused line

abbrev number_of : {A : Type 0} → ℕ → Result A DescFault → ℕ
number_of n (Err (Line m why)) = m
number_of n read = n

number_at : {A : Type 0} (n : ℕ) (read : Result A Why) → number_of n (at_line n read) ≡ n
number_at n read = search rules

pub end_number : (reader : Reader) (line : List ℕ) (m : ℕ) (why : Why) → IsOk reader → ended_by reader line ≡ Err (Line m why) → m ≡ line_count reader + 1
end_number (Err fault) line m why ok refused = absurd (false≢true ok)
end_number (Ok reading) text m why ok refused =
    sym (ap (number_of (reading.lines + 1)) refused) ∙ number_at (reading.lines + 1) (line.desc_at_end reading.desc text)

pub line_number : (reader : Reader) (text : List ℕ) (m : ℕ) (why : Why) → IsOk reader → after_line reader text ≡ Err (Line m why) → m ≡ line_count reader + 1
line_number (Err fault) text m why ok refused = absurd (false≢true ok)
line_number (Ok reading) text m why ok refused = by_line (line.after_line reading.desc text) refl
  where
    by_line : (read : Result PartialDesc Why) → line.after_line reading.desc text ≡ read → m ≡ reading.lines + 1
    by_line (Ok desc) is = sym (ap (number_of (reading.lines + 1)) refused) ∙ rw is refl
    by_line (Err w) is = sym (ap (number_of (reading.lines + 1)) refused) ∙ rw is refl

-- one more line is counted
pub line_counts : (reader : Reader) (text : List ℕ) → IsOk reader → IsOk (after_line reader text) → line_count (after_line reader text) ≡ line_count reader + 1
line_counts (Err fault) text ok read = absurd (false≢true ok)
line_counts (Ok reading) text ok read = by_line (line.after_line reading.desc text) refl read
  where
    by_line : (result : Result PartialDesc Why) → line.after_line reading.desc text ≡ result → IsOk (after_line (Ok reading) text)
        → line_count (after_line (Ok reading) text) ≡ reading.lines + 1
    by_line (Ok desc) is read = rw is refl
    by_line (Err w) is read = absurd (false≢true (rw is at read))

-- ---- the lines that were read

pub record ReadsFront (drivers : ℕ) (reader : Reader) (number : ℕ) (front : List (List ℕ)) : Type 0 where
  pub head : (overlong : Bool) (more : List (List ℕ)) → head_from overlong (new_reader drivers) 1 (front ++ more) ≡ head_from overlong reader number more
  pub count : number ≡ length front + 1
  pub ends : list_any is_end front ≡ false

-- a reader that has reached that line of an input
pub record OpensSoFar (drivers : ℕ) (reader : Reader) (number : ℕ) (h h' : Hand) (left left' : Option (List ℕ)) : Type 0 where
  pub front : List (List ℕ)
  pub reads : ReadsFront drivers reader number front
  pub follows : (input : List ℕ) → Follows input [] h left → Follows input front h' left'

pub opens_first : (drivers : ℕ) (reader : Reader) (h : Hand) (left : Option (List ℕ)) → reader ≡ new_reader drivers → OpensSoFar drivers reader 1 h h left left
opens_first drivers reader h left is = search rules

pub opens_found : (drivers : ℕ) (reader : Reader) (number : ℕ) (h h1 h2 : Hand) (left l1 l2 : Option (List ℕ))
    → ((input : List ℕ) (front : List (List ℕ)) → Follows input front h1 l1 → Follows input front h2 l2) → OpensSoFar drivers reader number h h1 left l1
    → OpensSoFar drivers reader number h h2 left l2
opens_found drivers reader number h h1 h2 left l1 l2 keeps so = search rules

pub opens_more : (drivers : ℕ) (reader reader' : Reader) (number : ℕ) (line : List ℕ) (h h1 h2 : Hand) (left l : Option (List ℕ))
    → ((input : List ℕ) (front : List (List ℕ)) (l : Option (List ℕ)) → Follows input front h1 l → Follows input (front ++ line_of h1 ∷ []) h2 l)
    → line ≡ line_of h1
    → is_end line ≡ false → reader' ≡ after_line reader line → OpensSoFar drivers reader number h h1 left l
    → OpensSoFar drivers reader' (number + 1) h h2 left l
opens_more drivers reader reader' number line h h1 h2 left l passes same other read so = record {
  front = so.front ++ line ∷ [];
  reads = grind (arith, common_steps);
  follows = λ input follows. subst (λ (t : List ℕ). Follows input (so.front ++ t ∷ []) h2 l) (sym same) (passes input so.front l (so.follows input follows));
}

-- ---- what was read

pub opens_taken : (drivers : ℕ) (reader : Reader) (number : ℕ) (h h' : Hand) (left left' : Option (List ℕ)) → h ≡ empty_hand → IsHand h'
    → OpensSoFar drivers reader number h h' left left'
    → IfSome left (λ input. TakesBlocks input left')
opens_taken drivers reader number h h' None left' empty is so = tt
opens_taken drivers reader number h h' (Some input) left' empty is so =
    takes_blocks input so.front h' left' is so.reads.ends
    (so.follows input (subst (λ (x : Hand). Follows input [] x (Some input)) (sym empty) (follows_first input)))

-- a fact about an input, followed from its start
followed : (P : List ℕ → Type 0) (drivers : ℕ) (reader : Reader) (number : ℕ) (h h' : Hand) (left left' : Option (List ℕ)) → h ≡ empty_hand
    → (so : OpensSoFar drivers reader number h h' left left')
    → ((input : List ℕ) → Follows input so.front h' left' → P input) → IfSome left P
followed P drivers reader number h h' left left' empty so each = search (rules, follows_first)

-- the head of an input that goes on like this
head_at : (drivers : ℕ) (reader : Reader) (number : ℕ) (front rest : List (List ℕ)) (input : List ℕ) (overlong : Bool) → ReadsFront drivers reader number front
    → scanned_lines input ≡ front ++ rest
    → is_overlong input ≡ overlong → head_of drivers input ≡ head_from overlong reader number rest
head_at drivers reader number front rest input overlong reads looked long = search rules

pub opens_failed : (drivers : ℕ) (reader : Reader) (number : ℕ) (h h' : Hand) (left left' : Option (List ℕ)) → h ≡ empty_hand → IsHand h' → NeedsMore h'
    → IsOk reader
    → OpensSoFar drivers reader number h h' left left' → IfSome left (λ input. FailsWithin drivers input left')
opens_failed drivers reader number h h' left left' empty is needs ok so =
    followed (λ input. FailsWithin drivers input left') drivers reader number h h' left left' empty so
    (λ input follows. let whole = whole_lines input so.front h' left' is needs follows in record {
      count = taken_of h';
      rest = whole.1;
      head = ap (head_from true (new_reader drivers) 1) (whole.0 ∙ sym (append-nil so.front)) ∙ so.reads.head true [] ∙ cut_after reader number ok;
    })

-- whatever was found
pub opens_unended : (drivers : ℕ) (reader : Reader) (number : ℕ) (h h' : Hand) (left left' : Option (List ℕ)) → h ≡ empty_hand → IsHand h' → IsOk reader
    → OpensSoFar drivers reader number h h' left left'
    → IfSome left (λ input. TakesUnended drivers input left')
opens_unended drivers reader number h h' left left' empty is ok so =
    followed (λ input. TakesUnended drivers input left') drivers reader number h h' left left' empty so
    (λ input follows. takes_unended drivers input so.front h' left' is
    (ap (head_from true (new_reader drivers) 1) (sym (append-nil so.front)) ∙ so.reads.head true [] ∙ cut_after reader number ok) follows)

pub opens_long : (drivers : ℕ) (reader : Reader) (number : ℕ) (h h' : Hand) (left left' : Option (List ℕ)) → h ≡ empty_hand → IsHand h' → IsLong h'
    → IsOk reader → line_count reader + 1 ≡ number
    → OpensSoFar drivers reader number h h' left left' → IfSome left (λ input. RefusesAt drivers (Refused number Long) number input left')
opens_long drivers reader number h h' left left' empty is long ok lines so =
    followed (λ input. RefusesAt drivers (Refused number Long) number input left') drivers reader number h h' left left' empty so
    (λ input follows. let next = long_line input so.front h' left' is long follows in record {
      head = head_at drivers reader number so.front (next.line ∷ next.more) input (is_overlong input) so.reads next.parts refl
          ∙ too_long (is_overlong input) reader number next.line next.more ok lines next.long;
      near = near input so.front h' left' number found.Long is long (λ is. cc) follows so.reads.count;
    })

pub opens_cut : (drivers : ℕ) (reader : Reader) (number : ℕ) (h h' : Hand) (left left' : Option (List ℕ)) → h ≡ empty_hand → IsHand h' → IsCut h' → IsOk reader
    → OpensSoFar drivers reader number h h' left left' → IfSome left (λ input. head_of drivers input ≡ Cut)
opens_cut drivers reader number h h' left left' empty is cut ok so =
    followed (λ input. head_of drivers input ≡ Cut) drivers reader number h h' left left' empty so
    (λ input follows. let none = cut_line input so.front h' left' is cut follows in
    head_at drivers reader number so.front [] input true so.reads (none.0 ∙ sym (append-nil so.front)) none.1 ∙ cut_after reader number ok)

-- by the reader's answer
pub opens_line : (drivers : ℕ) (reader : Reader) (number m : ℕ) (why : Why) (line : List ℕ) (h h' : Hand) (left left' : Option (List ℕ)) → h ≡ empty_hand
    → IsHand h' → HasLine h' → IsOk reader
    → line_count reader + 1 ≡ number → line ≡ line_of h' → is_end line ≡ false → after_line reader line ≡ Err (Line m why)
    → OpensSoFar drivers reader number h h' left left' → IfSome left (λ input. RefusesAt drivers (Refused m why) m input left')
opens_line drivers reader number m why line h h' left left' empty is has ok lines same other refused so =
    followed (λ input. RefusesAt drivers (Refused m why) m input left') drivers reader number h h' left left' empty so
    (λ input follows. let next = next_line input so.front h' left' is has follows in
    let looked : scanned_lines input ≡ so.front ++ line ∷ next.more = grind (arith, common_steps) in
    let at : m ≡ length so.front + 1 = line_number reader line m why ok refused ∙ lines ∙ so.reads.count in
    record {
      head = head_at drivers reader number so.front (line ∷ next.more) input (is_overlong input) so.reads looked refl
          ∙ refused_at (is_overlong input) reader number m why line next.more other refused;
      near = near input so.front h' left' m found.Line is has (λ is. cc) follows at;
    })

pub opens_end : (drivers : ℕ) (reader : Reader) (number : ℕ) (opening : Opening) (h h' : Hand) (left left' : Option (List ℕ)) → h ≡ empty_hand → IsHand h'
    → IsDone h'
    → line_count reader + 1 ≡ number → ((next : ℕ) (more : List (List ℕ)) → told next more opening ≡ described next [] (finished reader))
    → IsRefusedAt (line_count reader + 1) opening
    → IsUnended opening → OpensSoFar drivers reader number h h' left left' → IfSome left (λ input. Opens drivers opening input h' left')
opens_end drivers reader number opening h h' left left' empty is done lines says at unended so =
    followed (λ input. Opens drivers opening input h' left') drivers reader number h h' left left' empty so
    (λ input follows. let none = no_line input so.front h' left' is done follows in
    let head : head_of drivers input ≡ told number [] opening =
    head_at drivers reader number so.front [] input false so.reads (none.0 ∙ sym (append-nil so.front)) none.1 ∙ ends_after reader number
    ∙ sym (says number []) in
    by_opening opening input head none.1 at unended
    (λ m is_m. near input so.front h' left' m found.End is done (λ is. cc) follows (is_m ∙ lines ∙ so.reads.count)))
  where
    by_opening : (opening : Opening) (input : List ℕ) → head_of drivers input ≡ told number [] opening → is_overlong input ≡ false
        → IsRefusedAt (line_count reader + 1) opening → IsUnended opening
        → ((m : ℕ) → m ≡ line_count reader + 1 → TakesNear m input left') → Opens drivers opening input h' left'
    by_opening (Described desc first) input head short at unended close = absurd unended
    by_opening (Alone desc) input head short at unended close = record { next = number; head = head; short = short }
    by_opening (Refused line why) input head short at unended close = record { head = head; near = close line at }
    by_opening read.Cut input head short at unended close = head

pub opens_at : (drivers : ℕ) (reader : Reader) (number : ℕ) (opening : Opening) (line : List ℕ) (h h1 h2 : Hand) (left left' : Option (List ℕ)) → h ≡ empty_hand
    → IsHand h1 → HasLine h1
    → line ≡ line_of h1 → is_end line ≡ true → ((more : List (List ℕ)) → told number more opening ≡ described (number + 1) more (ended_by reader line))
    → IsRefusedAt number opening → IsEnded number opening
    → ((input : List ℕ) (front : List (List ℕ)) (l : Option (List ℕ)) → Follows input front h1 l → Follows input (front ++ line_of h1 ∷ []) h2 l)
    → OpensSoFar drivers reader number h h1 left left' → IfSome left (λ input. Opens drivers opening input h2 left')
opens_at drivers reader number opening line h h1 h2 left left' empty is has same ends says at ended passes so =
    followed (λ input. Opens drivers opening input h2 left') drivers reader number h h1 left left' empty so
    (λ input follows. let next = next_line input so.front h1 left' is has follows in
    let looked : scanned_lines input ≡ so.front ++ line ∷ next.more = grind (arith, common_steps) in
    let head : (overlong : Bool) (more : List (List ℕ))
    → head_from overlong (new_reader drivers) 1 ((so.front ++ line_of h1 ∷ []) ++ more) ≡ told number more opening =
    (λ overlong more. ap (head_from overlong (new_reader drivers) 1) (append_assoc so.front (line_of h1 ∷ []) more ∙ ap (λ l. so.front ++ l ∷ more) (sym same))
    ∙ so.reads.head overlong (line ∷ more)
    ∙ ends_at overlong reader number line more ends ∙ sym (says more)) in
    by_opening opening input next.more (so.front ++ line_of h1 ∷ [])
    (head_at drivers reader number so.front (line ∷ next.more) input (is_overlong input) so.reads looked refl
    ∙ ends_at (is_overlong input) reader number line next.more ends ∙ sym (says next.more))
    head (passes input so.front left' follows) (omega (arith, so.reads.count, length-append so.front (line_of h1 ∷ []))) at ended
    (λ m is_m. near input so.front h1 left' m found.Line is has (λ is. cc) follows (is_m ∙ so.reads.count)))
  where
    by_opening : (opening : Opening) (input : List ℕ) (more front : List (List ℕ)) → head_of drivers input ≡ told number more opening
        → ((overlong : Bool) (more : List (List ℕ)) → head_from overlong (new_reader drivers) 1 (front ++ more) ≡ told number more opening)
        → Follows input front h2 left' → number + 1 ≡ length front + 1 → IsRefusedAt number opening → IsEnded number opening
        → ((m : ℕ) → m ≡ number → TakesNear m input left')
        → Opens drivers opening input h2 left'
    by_opening (Described desc first) input more front head heads follows next at ended close = search rules
    by_opening (Alone desc) input more front head heads follows next at ended close = absurd ended
    by_opening (Refused line why) input more front head heads follows next at ended close = record { head = head; near = close line at }
    by_opening read.Cut input more front head heads follows next at ended close = head

-- by any answer at the end
pub opens_end_by : (drivers : ℕ) (reader : Reader) (number : ℕ) (result : Result Opening ReadEnd) (h h' : Hand) (left left' : Option (List ℕ)) → h ≡ empty_hand
    → IsHand h' → IsDone h'
    → line_count reader + 1 ≡ number → IfOk result (λ opening. (next : ℕ) (more : List (List ℕ)) → told next more opening ≡ described next [] (finished reader))
    → IfOk result (IsRefusedAt (line_count reader + 1)) → IfOk result IsUnended → OpensSoFar drivers reader number h h' left left'
    → IfOk result (λ opening. IfSome left (λ input. Opens drivers opening input h' left'))
opens_end_by drivers reader number (Ok opening) h h' left left' empty is done lines says at unended so =
    opens_end drivers reader number opening h h' left left' empty is done lines says at unended so
opens_end_by drivers reader number (Err fault) h h' left left' empty is done lines says at unended so = tt
