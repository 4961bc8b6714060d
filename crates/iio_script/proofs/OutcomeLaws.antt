-- What a run over an input has printed, from what its parts did.
use Rattle.std.proofs.Common.{◌≡◌, ℕ, ◌+◌, Bool, true, List, [], ◌++◌, length, take, Option, Some, None, IfSome, refl, sym, ap, ◌∙◌, rules}
use Rattle.iio_io.specs.Bytes.{TakesAtMost}
use Rattle.iio_text.specs.Lines.{lines_of}
use Rattle.iio_text.specs.declared.refusals.Why.{Why}
use Rattle.iio_sensor.specs.Driver.{Driver}
use Rattle.iio_desc.specs.Description.{Description}
use Rattle.iio_desc.specs.DescReader.{new_reader}
use Rattle.iio_history.specs.Input.{ended_part, input_limit, is_overlong, scanned_lines}
use Rattle.iio_history.specs.Outcome.{Cut, Described, Head, Outcome, head_from, head_of, last_ending, only_ending, outcome_of, outcome_of_head, outcome_of_script}
use Rattle.iio_history.specs.Script.{script_from}
use Rattle.iio_history.specs.Script as ending
use Rattle.iio_script.specs.declared.opening.Opening.TheVariants as read
use Rattle.iio_script.specs.declared.status.Status.{Status}
use Rattle.iio_script.specs.declared.status.Status.TheVariants.{Done, Memory, ReadFault, Refused, TooLong, Usage, WriteFault}
use Rattle.iio_script.specs.Ends.{Finishes, HasStatus, Writes, WritesFront, WritesWhole, status_of}
use Rattle.iio_script.specs.LineReader.{Follows, Hand, IsHand, TakesBlocks}
use Rattle.iio_script.specs.Plays.{AnswersScript, EndsScript, IsFrontOf, IsRefusedOr, Prints, TakesFor, WritesText, start_of}
use Rattle.iio_script.specs.Taken.{AnswersFirst, EndsRun, Runs, WritesFirst, WritesLines, whole_lines_of}
use Rattle.iio_script.specs.Told.{EndsAlone, EndsAt, FailsWithin, RefusesAt, TakesUnended}
use Rattle.iio_script.proofs.FollowLaws.{follows_begin}
use Rattle.iio_script.proofs.RunLaws.{nothing_sent}

-- ---- outcomes by their heads

outcome_by : (drivers : List Driver) (count : ℕ) (input : List ℕ) (head : Head) → count ≡ length drivers → head_of count input ≡ head
    → outcome_of drivers input ≡ outcome_of_head drivers (is_overlong input) head
outcome_by drivers count input head many is = cc

pub takes_of : (input : List ℕ) (left : Option (List ℕ)) → TakesBlocks input left → TakesAtMost input (input_limit + 1) left
takes_of input left takes = record { count = takes.count; within = takes.within; rest = takes.rest }

-- ---- what was written before a further piece was taken

-- nothing is printed before the description ends
nothing_before : (drivers : List Driver) (count : ℕ) (taken : List ℕ) → count ≡ length drivers
    → head_from true (new_reader count) 1 (lines_of (ended_part taken)) ≡ Cut
    → whole_lines_of drivers taken ≡ []
nothing_before drivers count taken many head = cc

answers_unended : (drivers : List Driver) (count : ℕ) (input text : List ℕ) (left left' : Option (List ℕ)) → count ≡ length drivers
    → TakesUnended count input left → left' ≡ left
    → AnswersFirst drivers input text left'
answers_unended drivers count input text left left' many u same = record {
  count = u.count;
  rest = same ∙ u.rest;
  before = u.before;
  near = u.near;
  more = text;
  written = sym (ap (λ t. t ++ text) (nothing_before drivers count (take u.before input) many u.head));
}

answers_script : (drivers : List Driver) (count : ℕ) (desc : Description) (first : ℕ) (front : List (List ℕ)) (input text : List ℕ)
    (left left' : Option (List ℕ)) → count ≡ length drivers
    → ((overlong : Bool) (lines : List (List ℕ)) → head_from overlong (new_reader count) 1 (front ++ lines) ≡ Described desc first lines)
    → TakesUnended count input left
    → AnswersScript (start_of (record { desc = desc; drivers = drivers }) first front) input text left left' → AnswersFirst drivers input text left'
answers_script drivers count desc first front input text left left' many heads u h1 = search (rules, answers_unended)

-- ---- the outcome says what was printed

run_of_script : (drivers : List Driver) (count : ℕ) (desc : Description) (first : ℕ) (front more : List (List ℕ)) (input : List ℕ) (status : Status)
    (text : List ℕ) (left : Option (List ℕ))
    → count ≡ length drivers
    → ((overlong : Bool) (lines : List (List ℕ)) → head_from overlong (new_reader count) 1 (front ++ lines) ≡ Described desc first lines)
    → scanned_lines input ≡ front ++ more
    → EndsScript (start_of (record { desc = desc; drivers = drivers }) first front)
    (outcome_of_script (record { desc = desc; drivers = drivers }) (script_from desc (last_ending (is_overlong input)) [] first more)) input status text left
    → EndsRun drivers input status text left
run_of_script drivers count desc first front more input status text left many heads looked ends = search rules

pub runs_described : (drivers : List Driver) (count : ℕ) (desc : Description) (first : ℕ) (input : List ℕ) (h : Hand)
    (left left' before after : Option (List ℕ)) (status : Status)
    → count ≡ length drivers → IsHand h → (ends : EndsAt count desc first input h left) → TakesUnended count input left
    → ((front more : List (List ℕ)) → Follows input front h left → first ≡ length front + 1 → scanned_lines input ≡ front ++ more → (text : List ℕ)
    × WritesText before after text
    × EndsScript (start_of (record { desc = desc; drivers = drivers }) first front)
    (outcome_of_script (record { desc = desc; drivers = drivers }) (script_from desc (last_ending (is_overlong input)) [] first more)) input status text left'
    × TakesAtMost input (input_limit + 1) left'
    × AnswersScript (start_of (record { desc = desc; drivers = drivers }) first front) input text left left') → Runs drivers input status left' before after
runs_described drivers count desc first input h left left' before after status many is ends unended played =
    let begins = follows_begin input ends.front h left is ends.follows in
    let run = played ends.front begins.more ends.follows ends.next begins.parts in
    record {
      text = run.0;
      writes = run.1;
      ends = run_of_script drivers count desc first ends.front begins.more input status run.0 left' many ends.head begins.parts run.2;
      takes = run.3;
      answers = answers_script drivers count desc first ends.front input run.0 left left' many ends.head unended run.4;
    }

pub runs_alone : (drivers : List Driver) (count : ℕ) (desc : Description) (input : List ℕ) (left before : Option (List ℕ)) → count ≡ length drivers
    → EndsAlone count desc input → TakesBlocks input left
    → TakesUnended count input left → Runs drivers input Done left before before
runs_alone drivers count desc input left before many alone takes unended =
    let same =
    outcome_by drivers count input (Described desc alone.next []) many alone.head
    ∙ ap (λ (o : Bool). outcome_of_head drivers o (Described desc alone.next [])) alone.short in
    record {
      text = [];
      writes = nothing_sent before;
      ends = record {
        finishes = record { end = tt; ends = ap status_of (sym (ap (λ (o : Outcome). o.ending) same)); printed = sym (ap (λ (o : Outcome). o.printed) same) };
        near = tt;
      };
      takes = takes_of input left takes;
      answers = answers_unended drivers count input [] left left many unended refl;
    }

pub runs_refused : (drivers : List Driver) (count : ℕ) (line : ℕ) (why : Why) (input : List ℕ) (left before after : Option (List ℕ)) (status : Status)
    → count ≡ length drivers
    → RefusesAt count (read.Refused line why) line input left → TakesBlocks input left → TakesUnended count input left → IsRefusedOr line status
    → ((text : List ℕ) × WritesText before after text × Prints (only_ending (ending.Refused line why)) status text)
    → Runs drivers input status left before after
runs_refused drivers count line why input left before after status many refuses takes unended at prints = record {
  text = prints.0;
  writes = prints.1;
  ends = search rules;
  takes = takes_of input left takes;
  answers = answers_unended drivers count input prints.0 left left many unended refl;
}

pub runs_cut : (drivers : List Driver) (count : ℕ) (input : List ℕ) (left before after : Option (List ℕ)) (status : Status) → count ≡ length drivers
    → head_of count input ≡ Cut
    → TakesBlocks input left → TakesUnended count input left
    → ((text : List ℕ) × WritesText before after text × Prints (only_ending ending.TooLong) status text)
    → Runs drivers input status left before after
runs_cut drivers count input left before after status many cut takes unended prints = record {
  text = prints.0;
  writes = prints.1;
  ends = search rules;
  takes = takes_of input left takes;
  answers = answers_unended drivers count input prints.0 left left many unended refl;
}

pub runs_failed : (drivers : List Driver) (count : ℕ) (input : List ℕ) (left before : Option (List ℕ)) → count ≡ length drivers → FailsWithin count input left
    → TakesBlocks input left
    → TakesUnended count input left → Runs drivers input ReadFault left before before
runs_failed drivers count input left before many fails takes unended = record {
  text = [];
  writes = nothing_sent before;
  ends = record {
    begins = record { rest = (outcome_of drivers input).printed; parts = refl };
    count = fails.count;
    rest = fails.rest;
    lines = cc;
  };
  takes = takes_of input left takes;
  answers = answers_unended drivers count input [] left left many unended refl;
}

pub runs_none : (drivers : List Driver) (count : ℕ) (input : List ℕ) (left before : Option (List ℕ)) → count ≡ length drivers
    → TakesAtMost input (input_limit + 1) left → TakesUnended count input left
    → Runs drivers input Memory left before before
runs_none drivers count input left before many takes unended = record {
  text = [];
  writes = nothing_sent before;
  ends = record { rest = (outcome_of drivers input).printed; parts = refl };
  takes = takes;
  answers = answers_unended drivers count input [] left left many unended refl;
}

-- nothing was taken, and nothing written
pub runs_nothing : (drivers : List Driver) (left before : Option (List ℕ)) → IfSome left (λ input. Runs drivers input Memory left before before)
runs_nothing drivers left before = search rules

-- ---- if the source is visible

-- what follows of two facts of the input
pub both_told : (P Q R : List ℕ → Type 0) (left : Option (List ℕ)) → ((input : List ℕ) → P input → Q input → R input) → IfSome left P → IfSome left Q
    → IfSome left R
both_told P Q R left each p q = search rules

-- .. or of three
pub all_told : (P Q R T : List ℕ → Type 0) (left : Option (List ℕ)) → ((input : List ℕ) → P input → Q input → R input → T input) → IfSome left P → IfSome left Q
    → IfSome left R → IfSome left T
all_told P Q R T left each p q r = search rules

pub each_told : (P R : List ℕ → Type 0) (left : Option (List ℕ)) → ((input : List ℕ) → P input → R input) → IfSome left P → IfSome left R
each_told P R left each p = search rules

writes_whole : (outcome : Outcome) (status : Status) (xs text : List ℕ) (after : Option (List ℕ)) → Finishes outcome status [] text → after ≡ Some (xs ++ text)
    → WritesWhole xs outcome status after
writes_whole outcome status xs text after f writes = record { ends = f.ends; written = writes ∙ ap (λ t. Some (xs ++ t)) f.printed }

writes_front : (outcome : Outcome) (xs text : List ℕ) (after : Option (List ℕ)) → IsFrontOf outcome text → after ≡ Some (xs ++ text)
    → WritesFront xs outcome.printed after
writes_front outcome xs text after front writes = record { front = text; rest = front.rest; parts = front.parts; written = writes }

writes_by : (drivers : List Driver) (input : List ℕ) (status : Status) (text : List ℕ) (left : Option (List ℕ)) (xs : List ℕ) (after : Option (List ℕ))
    → EndsRun drivers input status text left
    → after ≡ Some (xs ++ text) → Writes (outcome_of drivers input) xs status after
writes_by drivers input Done text left xs after f writes = writes_whole (outcome_of drivers input) Done xs text after f.finishes writes
writes_by drivers input (Refused line why) text left xs after f writes = search rules
writes_by drivers input TooLong text left xs after f writes = writes_whole (outcome_of drivers input) TooLong xs text after f.finishes writes
writes_by drivers input Usage text left xs after f writes = absurd f.finishes.end
writes_by drivers input ReadFault text left xs after f writes = writes_front (outcome_of drivers input) xs text after f.begins writes
writes_by drivers input WriteFault text left xs after f writes = writes_front (outcome_of drivers input) xs text after f writes
writes_by drivers input Memory text left xs after f writes = writes_front (outcome_of drivers input) xs text after f writes

pub run_writes : (drivers : List Driver) (input : List ℕ) (status : Status) (left before after : Option (List ℕ)) → Runs drivers input status left before after
    → IfSome before (λ xs. Writes (outcome_of drivers input) xs status after)
run_writes drivers input status left None after run = tt
run_writes drivers input status left (Some xs) after run = writes_by drivers input status run.text left xs after run.ends run.writes

status_by : (drivers : List Driver) (input : List ℕ) (status : Status) (text : List ℕ) (left : Option (List ℕ)) → EndsRun drivers input status text left
    → HasStatus (outcome_of drivers input) status
status_by drivers input status text left f = search rules

pub run_status : (drivers : List Driver) (input : List ℕ) (status : Status) (left before after : Option (List ℕ)) → Runs drivers input status left before after
    → HasStatus (outcome_of drivers input) status
run_status drivers input status left before after run = status_by drivers input status run.text left run.ends

near_by : (drivers : List Driver) (input : List ℕ) (status : Status) (text : List ℕ) (left : Option (List ℕ)) → EndsRun drivers input status text left
    → TakesFor status input left
near_by drivers input Done text left f = tt
near_by drivers input (Refused line why) text left f = f.near
near_by drivers input TooLong text left f = tt
near_by drivers input Usage text left f = tt
near_by drivers input ReadFault text left f = tt
near_by drivers input WriteFault text left f = tt
near_by drivers input Memory text left f = tt

pub run_near : (drivers : List Driver) (input : List ℕ) (status : Status) (left before after : Option (List ℕ)) → Runs drivers input status left before after
    → TakesFor status input left
run_near drivers input status left before after run = near_by drivers input status run.text left run.ends

lines_by : (drivers : List Driver) (input : List ℕ) (left before after : Option (List ℕ)) → Runs drivers input ReadFault left before after
    → IfSome before (λ xs. WritesLines drivers input xs left after)
lines_by drivers input left before after run = search rules

pub run_lines : (drivers : List Driver) (input : List ℕ) (status : Status) (left before after : Option (List ℕ)) → status ≡ ReadFault
    → Runs drivers input status left before after
    → IfSome before (λ xs. WritesLines drivers input xs left after)
run_lines drivers input status left before after is run = search (rules, lines_by)

pub run_answers : (drivers : List Driver) (input : List ℕ) (status : Status) (left before after : Option (List ℕ)) → Runs drivers input status left before after
    → IfSome before (λ xs. WritesFirst drivers input xs left after)
run_answers drivers input status left before after run = search rules
