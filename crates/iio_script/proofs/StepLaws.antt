-- The steps of a script, line after line.
use Rattle.std.proofs.Common.{◌≡◌, ◌⊎◌, ℕ, ◌+◌, Bool, true, false, List, [], ◌∷◌, ◌++◌, length, drop, Option, Some, Result, Ok, Err, IfSome, refl, sym, ap, ◌∙◌, inl, inr, subst, arith, append_assoc, append-nil, rules}
use Rattle.std.proofs.lemmas.Grind.{common_steps}
use Rattle.std.proofs.Math.Seq.{drop-append_seam}
use Rattle.std.proofs.lemmas.List.{length-append}
use Rattle.iio_io.specs.Bytes.{TakesAtMost}
use Rattle.iio_text.specs.declared.refusals.Why.{Why}
use Rattle.iio_text.specs.declared.refusals.Why.TheVariants.{Long}
use Rattle.iio_sensor.specs.Driver.{Driver}
use Rattle.iio_device.specs.declared.plug.Plug.{Plug}
use Rattle.iio_history.specs.Input.{input_limit, is_overlong, scanned_lines}
use Rattle.iio_history.specs.Outcome.{Outcome, last_ending, only_ending, outcome_of_script}
use Rattle.iio_history.specs.Registry.{Setup}
use Rattle.iio_history.specs.Script.{Ending, Refused, script_from}
use Rattle.iio_history.specs.Transcript.{with_steps}
use Rattle.iio_system.specs.declared.system.System.{System}
use Rattle.iio_system.specs.Standing.{StandsFor}
use Rattle.iio_script.specs.declared.line_reader.Found.TheVariants as found
use Rattle.iio_script.specs.declared.status.Status.{Status}
use Rattle.iio_script.specs.declared.status.Status.TheVariants as status
use Rattle.iio_script.specs.Ends.{Finishes, Sends, status_of}
use Rattle.iio_script.specs.LineReader.{Follows, Hand, HasLine, IsCut, IsDone, IsHand, IsLong, NeedsMore, TakesNear, line_of}
use Rattle.iio_script.specs.Plays.{AnswersScript, EndsSteps, FinishesAt, IsFrontOf, IsRefusedWith, Plays, Start, TakesFor, progress_of, start_of, with_line}
use Rattle.iio_script.proofs.AnswerLaws.{answers_found, answers_more}
use Rattle.iio_script.proofs.EndLaws.{sends_more}
use Rattle.iio_script.proofs.FollowLaws.{cut_line, follows_begin, long_line, near, next_line, no_line, takes_at_most, whole_lines}
use Rattle.iio_script.proofs.PlayLaws.{behind_sent, plays_all, plays_done, plays_front, plays_last, plays_long}

pub same_rest : {A : Type 0} (front one other : List A) → front ++ one ≡ front ++ other → one ≡ other
same_rest front one other same = sym (drop-append_seam front one) ∙ ap (drop (length front)) same ∙ drop-append_seam front other

-- the outcome of a script with these lines
abbrev script_outcome : Setup → (input : List ℕ) (first : ℕ) (lines : List (List ℕ)) → Outcome
script_outcome s input first lines = outcome_of_script s (script_from s.desc (last_ending (is_overlong input)) [] first lines)

-- how it ends, and how much it took
abbrev Ended : Setup → (first : ℕ) (front more : List (List ℕ)) (input : List ℕ) → Result Status Status
    → (kept : List ℕ) (begin left written written' : Option (List ℕ)) → Type 0
Ended s first front more input result kept begin left written written' =
    (sent : List ℕ) × (IfSome written (λ before. written' ≡ Some (before ++ sent)))
    × EndsSteps (start_of s first front) (script_outcome s input first more) input result sent kept left
    × TakesAtMost input (input_limit + 1) left × AnswersScript (start_of s first front) input sent begin left

-- a script that has ended
ended : (start : Start) (outcome : Outcome) (input : List ℕ) (st : Status) (sent kept : List ℕ) (left : Option (List ℕ))
    → FinishesAt outcome st input (sent ++ kept) left → EndsSteps start outcome input (Ok st) sent kept left
ended start outcome input st sent kept left f = search rules

-- only a refusal says at which line it is
near_for : (st : Status) (number : ℕ) (input : List ℕ) (left : Option (List ℕ)) → IsRefusedWith number st → TakesNear number input left → TakesFor st input left
near_for st number input left is near = search rules

near_none : (st : Status) (over : Bool) (input : List ℕ) (left : Option (List ℕ)) → st ≡ status_of (last_ending over) → TakesFor st input left
near_none st over input left is = search rules

refused_with : (st : Status) (n : ℕ) (why : Why) → st ≡ status.Refused n why → IsRefusedWith n st
refused_with st n why is = subst (λ (x : Status). IsRefusedWith n x) (sym is) refl

no_cut : found.Line ≡ found.Cut → ⊥
no_cut is = cc

no_cut_long : found.Long ≡ found.Cut → ⊥
no_cut_long is = cc

module _ {X : Type 0} {V : X → Type 0} (driver : Plug X V → Driver) where
  -- the lines `given` were played, and `sent` of what they printed was written; the reader has gone on over them
  pub record SoFar (s : Setup) (x : System X V) (kept : List ℕ) (first n : ℕ) (h h' : Hand) (left left' : Option (List ℕ))
      (written written' : Option (List ℕ)) : Type 0 where
    pub given : List (List ℕ)
    pub sent : List ℕ
    pub writes : IfSome written (λ before. written' ≡ Some (before ++ sent))
    pub plays : Plays driver s x (sent ++ kept) (progress_of first n given)
    pub count : n ≡ first + length given
    pub follows : (input : List ℕ) (front : List (List ℕ)) → Follows input front h left → Follows input (front ++ given) h' left'
    pub answers : (input : List ℕ) (front : List (List ℕ)) → Follows input front h left → AnswersScript (start_of s first front) input sent left left'

  pub so_far_first : {s : Setup} {x : System X V} {kept : List ℕ} {first : ℕ} {h : Hand} {left written : Option (List ℕ)} → kept ≡ []
      → Plays driver s x [] (progress_of first first [])
      → SoFar s x kept first first h h left left written written
  so_far_first {s} {x} {kept} {first} {h} {left} {written} none plays = search rules

  -- some of it was written
  so_far_sent : (s : Setup) (x : System X V) (kept kept' : List ℕ) (first n : ℕ) (h h' : Hand) (left left' written w1 w2 : Option (List ℕ))
      → Sends w1 w2 kept kept' → SoFar s x kept first n h h' left left' written w1 → SoFar s x kept' first n h h' left left' written w2
  so_far_sent s x kept kept' first n h h' left left' written w1 w2 sends so = record {
    given = so.given;
    sent = so.sent ++ sends.sent;
    writes = sends_more written w1 w2 so.sent kept kept' so.writes sends;
    plays = grind (arith, common_steps);
    count = so.count;
    follows = so.follows;
    answers = λ input front follows. answers_more (start_of s first front) input so.sent sends.sent left left' (so.answers input front follows);
  }

  -- the next line was looked for
  so_far_found : (s : Setup) (x : System X V) (kept : List ℕ) (first n : ℕ) (h h1 h2 : Hand) (left l1 l2 written written' : Option (List ℕ))
      → ((input : List ℕ) (front : List (List ℕ)) → Follows input front h1 l1 → Follows input front h2 l2) → IsHand h2 → (l2 ≡ l1)
      ⊎ ((h2.over ≡ false) × (kept ≡ []))
      → SoFar s x kept first n h h1 left l1 written written' → SoFar s x kept first n h h2 left l2 written written'
  so_far_found s x kept first n h h1 h2 left l1 l2 written written' keeps is read so = record {
    given = so.given;
    sent = so.sent;
    writes = so.writes;
    plays = so.plays;
    count = so.count;
    follows = λ input front follows. keeps input (front ++ so.given) (so.follows input front follows);
    answers = λ input front follows. answers_by read input front follows;
  }
    where
      answers_by : (l2 ≡ l1) ⊎ ((h2.over ≡ false) × (kept ≡ [])) → (input : List ℕ) (front : List (List ℕ)) → Follows input front h left
          → AnswersScript (start_of s first front) input so.sent left l2
      answers_by (inl same) input front follows = search rules
      answers_by (inr (going, none)) input front follows =
          answers_found (start_of s first front) so.given input so.sent h2 left l2 is
          (sym (append-nil so.sent) ∙ ap (λ k. so.sent ++ k) (sym none) ∙ plays_all driver s x (so.sent ++ kept) _ so.plays) going
          (keeps input (front ++ so.given) (so.follows input front follows))

  -- what is kept was written if it had to be, and the next line was looked for
  pub so_far_next : {s : Setup} {x : System X V} {kept kept' : List ℕ} {first n : ℕ} {h h1 h2 : Hand} {left l1 l2 written w1 w2 : Option (List ℕ)}
      → ((input : List ℕ) (front : List (List ℕ)) → Follows input front h1 l1 → Follows input front h2 l2) → IsHand h2
      → (l2 ≡ l1) ⊎ ((h2.over ≡ false) × (kept' ≡ [])) → Sends w1 w2 kept kept'
      → SoFar s x kept first n h h1 left l1 written w1 → SoFar s x kept' first n h h2 left l2 written w2
  so_far_next {s} {x} {kept} {kept'} {first} {n} {h} {h1} {h2} {left} {l1} {l2} {written} {w1} {w2} keeps is read sends so =
      so_far_found s x kept' first n h h1 h2 left l1 l2 written w2 keeps is read
      (so_far_sent s x kept kept' first n h h1 left l1 written w1 w2 sends so)

  -- it was played
  pub so_far_played : {s : Setup} {x x' : System X V} {kept kept' line : List ℕ} {first n : ℕ} {h h1 h2 : Hand} {left left' written written' : Option (List ℕ)}
      → ((input : List ℕ) (front : List (List ℕ)) (l : Option (List ℕ)) → Follows input front h1 l → Follows input (front ++ line_of h1 ∷ []) h2 l)
      → line ≡ line_of h1
      → (so : SoFar s x kept first n h h1 left left' written written') → Plays driver s x' (so.sent ++ kept') (with_line (progress_of first n so.given) line)
      → SoFar s x' kept' first (n + 1) h h2 left left' written written'
  so_far_played {s} {x} {x'} {kept} {kept'} {line} {first} {n} {h} {h1} {h2} {left} {left'} {written} {written'} passes same so plays =
      grind (arith, common_steps)

  -- ---- the end

  -- the lines given are the looked-at ones, up to the next line
  given_of : (front given more rest : List (List ℕ)) (input : List ℕ) → scanned_lines input ≡ front ++ more → scanned_lines input ≡ (front ++ given) ++ rest
      → more ≡ given ++ rest
  given_of front given more rest input is begins = same_rest front more (given ++ rest) (sym is ∙ begins ∙ append_assoc front given rest)

  pub ends_fault : {s : Setup} {x : System X V} {kept : List ℕ} {first n : ℕ} {h h' : Hand} {left left' written written' : Option (List ℕ)}
      {front : List (List ℕ)} {input : List ℕ} {result : Result Status Status} (kept' : List ℕ) (more : List (List ℕ)) (st : Status) → result ≡ Err st
      → IsHand h' → Follows input front h left → scanned_lines input ≡ front ++ more → SoFar s x kept first n h h' left left' written written'
      → Ended s first front more input result kept' left left' written written'
  ends_fault {s} {x} {kept} {first} {n} {h} {h'} {left} {left'} {written} {written'} {front} {input} kept' more st fails is follows looked so =
      let now = so.follows input front follows in
      let begins = follows_begin input (front ++ so.given) h' left' is now in
      let lines : more ≡ so.given ++ begins.more = given_of front so.given more begins.more input looked begins.parts in
      let whole : IsFrontOf (script_outcome s input first more) (so.sent ++ kept) =
      subst (λ (ls : List (List ℕ)). IsFrontOf (script_outcome s input first ls) (so.sent ++ kept)) (sym lines)
      (plays_front driver s x (so.sent ++ kept) _ begins.more (last_ending (is_overlong input)) so.plays) in
      subst (λ (r : Result Status Status). Ended s first front more input r kept' left left' written written') (sym fails) (
        so.sent,
        so.writes,
        record { rest = kept ++ whole.rest; parts = whole.parts ∙ append_assoc so.sent kept whole.rest },
        takes_at_most input (front ++ so.given) h' left' is now,
        so.answers input front follows,
      )

  -- a write failed, and nothing was read
  pub ends_write_fault : {s : Setup} {x : System X V} {kept : List ℕ} {first n : ℕ} {h h1 h2 : Hand} {left l1 l2 written w1 w2 : Option (List ℕ)}
      {front : List (List ℕ)} {input : List ℕ} {result : Result Status Status} (kept' : List ℕ) (more : List (List ℕ)) (st : Status) → result ≡ Err st
      → ((input : List ℕ) (front : List (List ℕ)) → Follows input front h1 l1 → Follows input front h2 l2) → IsHand h2 → l2 ≡ l1
      → Follows input front h left → scanned_lines input ≡ front ++ more → ((rest : List ℕ) × Sends w1 w2 kept rest)
      → SoFar s x kept first n h h1 left l1 written w1
      → Ended s first front more input result kept' left l2 written w2
  ends_write_fault kept' more st fails keeps is same follows looked sends so =
      ends_fault kept' more st fails is follows looked (so_far_next keeps is (inl same) sends.1 so)

  pub ends_read_fault : {s : Setup} {x : System X V} {kept : List ℕ} {first n : ℕ} {h h' : Hand} {left left' written written' : Option (List ℕ)}
      {front : List (List ℕ)} {input : List ℕ} (more : List (List ℕ))
      → IsHand h' → NeedsMore h' → Follows input front h left → scanned_lines input ≡ front ++ more → SoFar s x kept first n h h' left left' written written'
      → Ended s first front more input (Ok status.ReadFault) kept left left' written written'
  ends_read_fault {s} {x} {kept} {first} {n} {h} {h'} {left} {left'} {written} {written'} {front} {input} more is needs follows looked so =
      let now = so.follows input front follows in
      let begins = follows_begin input (front ++ so.given) h' left' is now in
      let lines : more ≡ so.given ++ begins.more = given_of front so.given more begins.more input looked begins.parts in
      let whole = whole_lines input (front ++ so.given) h' left' is needs now in (
        so.sent,
        so.writes,
        record {
          begins = search rules;
          count = _;
          rest = whole.1;
          given = so.given;
          lines = whole.0;
          printed = plays_all driver s x (so.sent ++ kept) _ so.plays;
        },
        takes_at_most input (front ++ so.given) h' left' is now,
        so.answers input front follows,
      )

  -- at the end of all lines
  ends_last : (s : Setup) (x : System X V) (kept kept' : List ℕ) (first n : ℕ) (h h' : Hand) (left left' written written' : Option (List ℕ))
      (front more : List (List ℕ)) (input : List ℕ) (over : Bool) (st : Status)
      → scanned_lines input ≡ front ++ more → (so : SoFar s x kept first n h h' left left' written written') → scanned_lines input ≡ front ++ so.given
      → is_overlong input ≡ over
      → TakesAtMost input (input_limit + 1) left' → AnswersScript (start_of s first front) input so.sent left left'
      → Finishes (only_ending (last_ending over)) st kept kept' → Ended s first front more input (Ok st) kept' left left' written written'
  ends_last s x kept kept' first n h h' left left' written written' front more input over st looked so all long takes answers f =
      let lines : more ≡ so.given = same_rest front more so.given (sym looked ∙ all) in
      let finishes : Finishes (outcome_of_script s (script_from s.desc (last_ending over) [] first so.given)) st [] (so.sent ++ kept') =
      plays_last driver s x (so.sent ++ kept) (so.sent ++ kept') _ (last_ending over) st so.plays
      (behind_sent so.sent kept kept' (only_ending (last_ending over)) st f) in (
        so.sent,
        so.writes,
        ended (start_of s first front) (script_outcome s input first more) input st so.sent kept' left' (record {
          finishes = search rules;
          near = near_none st over input left' f.ends;
        }),
        takes,
        answers,
      )

  -- the input's end
  pub ends_done : {s : Setup} {x : System X V} {kept kept' : List ℕ} {first n : ℕ} {h h' : Hand} {left left' written written' : Option (List ℕ)}
      {front : List (List ℕ)} {input : List ℕ} (more : List (List ℕ))
      → IsHand h' → IsDone h' → Follows input front h left → scanned_lines input ≡ front ++ more → kept' ≡ kept
      → SoFar s x kept first n h h' left left' written written'
      → Ended s first front more input (Ok status.Done) kept' left left' written written'
  ends_done {s} {x} {kept} {kept'} {first} {n} {h} {h'} {left} {left'} {written} {written'} {front} {input} more is done follows looked same so =
      let now = so.follows input front follows in
      let none = no_line input (front ++ so.given) h' left' is done now in
      ends_last s x kept kept' first n h h' left left' written written' front more input false status.Done looked so none.0 none.1
      (takes_at_most input (front ++ so.given) h' left' is now) (so.answers input front follows)
      (record { end = tt; ends = refl; printed = same ∙ sym (append-nil kept) })

  -- the system then stands for the history of the script's steps
  pub stands_done : {s : Setup} {x : System X V} {kept : List ℕ} {first n : ℕ} {h h' : Hand} {left left' written written' : Option (List ℕ)}
      (front more : List (List ℕ)) (input : List ℕ)
      → IsHand h' → IsDone h' → Follows input front h left → scanned_lines input ≡ front ++ more → SoFar s x kept first n h h' left left' written written'
      → StandsFor driver s (with_steps s [] (script_from s.desc (last_ending (is_overlong input)) [] first more).steps) x
  stands_done {s} {x} {kept} {first} {n} {h} {h'} {left} {left'} {written} {written'} front more input is done follows looked so =
      let none = no_line input (front ++ so.given) h' left' is done (so.follows input front follows) in
      let lines : more ≡ so.given = same_rest front more so.given (sym looked ∙ none.0) in
      subst (λ (ls : List (List ℕ)). StandsFor driver s (with_steps s [] (script_from s.desc (last_ending (is_overlong input)) [] first ls).steps) x)
      (sym lines)
      (plays_done driver s x (so.sent ++ kept) _ (last_ending (is_overlong input)) so.plays)

  -- the end of what is looked at
  pub ends_cut : {s : Setup} {x : System X V} {kept kept' : List ℕ} {first n : ℕ} {h h' : Hand} {left left' written written' : Option (List ℕ)}
      {front : List (List ℕ)} {input : List ℕ} {st : Status} (more : List (List ℕ))
      → IsHand h' → IsCut h' → Follows input front h left → scanned_lines input ≡ front ++ more → Finishes (only_ending (last_ending true)) st kept kept'
      → SoFar s x kept first n h h' left left' written written' → Ended s first front more input (Ok st) kept' left left' written written'
  ends_cut {s} {x} {kept} {kept'} {first} {n} {h} {h'} {left} {left'} {written} {written'} {front} {input} {st} more is cut follows looked f so =
      let now = so.follows input front follows in
      let none = cut_line input (front ++ so.given) h' left' is cut now in
      ends_last s x kept kept' first n h h' left left' written written' front more input true st looked so none.0 none.1
      (takes_at_most input (front ++ so.given) h' left' is now) (so.answers input front follows) f

  -- a line that is refused
  refused : (s : Setup) (x : System X V) (kept kept' : List ℕ) (first n : ℕ) (h h' : Hand) (left left' written written' : Option (List ℕ))
      (front more rest : List (List ℕ)) (line : List ℕ) (input : List ℕ) (st : Status)
      → scanned_lines input ≡ front ++ more → (so : SoFar s x kept first n h h' left left' written written')
      → scanned_lines input ≡ (front ++ so.given) ++ line ∷ rest
      → TakesAtMost input (input_limit + 1) left' → AnswersScript (start_of s first front) input so.sent left left' → TakesFor st input left'
      → Finishes (script_outcome s input first (so.given ++ line ∷ rest)) st [] (so.sent ++ kept')
      → Ended s first front more input (Ok st) kept' left left' written written'
  refused s x kept kept' first n h h' left left' written written' front more rest line input st looked so begins takes answers near f =
      search (rules, given_of)

  -- the number of the next line
  next_number : (s : Setup) (x : System X V) (kept : List ℕ) (first n : ℕ) (h h' : Hand) (left left' written written' : Option (List ℕ)) (front : List (List ℕ))
      → first ≡ length front + 1
      → (so : SoFar s x kept first n h h' left left' written written') → n ≡ length (front ++ so.given) + 1
  next_number s x kept first n h h' left left' written written' front at so = omega (arith, at, so.count, length-append front so.given)

  pub ends_refused : {s : Setup} {x : System X V} {kept line : List ℕ} {first n : ℕ} {h h' : Hand} {left left' written written' : Option (List ℕ)}
      {front : List (List ℕ)} {input : List ℕ} {st : Status} (kept' : List ℕ) (more : List (List ℕ))
      → IsHand h' → HasLine h' → Follows input front h left → first ≡ length front + 1 → scanned_lines input ≡ front ++ more → line ≡ line_of h'
      → IsRefusedWith n st
      → (so : SoFar s x kept first n h h' left left' written written')
      → ((ending : Ending) (lines : List (List ℕ))
      → Finishes (outcome_of_script s (script_from s.desc ending [] first (so.given ++ line ∷ lines))) st [] (so.sent ++ kept'))
      → Ended s first front more input (Ok st) kept' left left' written written'
  ends_refused {s} {x} {kept} {line} {first} {n} {h} {h'} {left} {left'} {written} {written'} {front} {input} {st} kept' more is has
      follows at looked same number so f =
      let now = so.follows input front follows in
      let next = next_line input (front ++ so.given) h' left' is has now in
      let begins : scanned_lines input ≡ (front ++ so.given) ++ line ∷ next.more = grind (arith, common_steps) in
      refused s x kept kept' first n h h' left left' written written' front more next.more line input st looked so begins
      (takes_at_most input (front ++ so.given) h' left' is now) (so.answers input front follows)
      (near_for st n input left' number
      (near input (front ++ so.given) h' left' n found.Line is has (λ is_cut. no_cut is_cut) now
      (next_number s x kept first n h h' left left' written written' front at so)))
      (f (last_ending (is_overlong input)) next.more)

  pub ends_long : {s : Setup} {x : System X V} {kept kept' : List ℕ} {first n : ℕ} {h h' : Hand} {left left' written written' : Option (List ℕ)}
      {front : List (List ℕ)} {input : List ℕ} {st : Status} (more : List (List ℕ))
      → IsHand h' → IsLong h' → Follows input front h left → first ≡ length front + 1 → scanned_lines input ≡ front ++ more
      → Finishes (only_ending (Refused n Long)) st kept kept'
      → SoFar s x kept first n h h' left left' written written' → Ended s first front more input (Ok st) kept' left left' written written'
  ends_long {s} {x} {kept} {kept'} {first} {n} {h} {h'} {left} {left'} {written} {written'} {front} {input} {st} more is long follows at looked f so =
      let now = so.follows input front follows in
      let next = long_line input (front ++ so.given) h' left' is long now in
      refused s x kept kept' first n h h' left left' written written' front more next.more next.line input st looked so next.parts
      (takes_at_most input (front ++ so.given) h' left' is now) (so.answers input front follows)
      (near_for st n input left' (refused_with st n Long f.ends)
      (near input (front ++ so.given) h' left' n found.Long is long (λ is_cut. no_cut_long is_cut) now
      (next_number s x kept first n h h' left left' written written' front at so)))
      (plays_long driver s x (so.sent ++ kept) (so.sent ++ kept') _ next.line next.more (last_ending (is_overlong input)) st next.long so.plays
      (behind_sent so.sent kept kept' (only_ending (Refused n Long)) st f))
