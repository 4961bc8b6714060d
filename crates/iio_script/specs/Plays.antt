-- A run that has reached a line of a script.
use Rattle.std.specs.Prelude.{◌≡◌, ◌⊎◌, ℕ, ◌+◌, ◌≤◌, List, [], ◌∷◌, ◌++◌, length, take, drop, Option, Some, None, IfSome, Result, Ok, Err}
use Rattle.iio_base.specs.Refusals.{ensure, ◌>>=◌, ◌>>◌}
use Rattle.iio_text.specs.declared.refusals.Why.{Why}
use Rattle.iio_text.specs.declared.refusals.Why.TheVariants as why
use Rattle.iio_text.specs.Lines.{lines_of}
use Rattle.iio_sensor.specs.Driver.{Driver}
use Rattle.iio_device.specs.declared.plug.Plug.{Plug}
use Rattle.iio_history.specs.Event.{Event}
use Rattle.iio_history.specs.Input.{ended_part}
use Rattle.iio_history.specs.Outcome.{Outcome, outcome_of_script}
use Rattle.iio_history.specs.Registry.{Setup}
use Rattle.iio_history.specs.Script.{Ending, Finished, Script, ending_text, is_known, keeps_names, script_from, script_text}
use Rattle.iio_history.specs.Transcript.{Step, transcript, with_steps}
use Rattle.iio_system.specs.declared.system.System.{System}
use Rattle.iio_system.specs.Standing.{IsPerformed, StandsFor, names_by}
use Rattle.iio_script.specs.declared.status.Status.{Status}
use Rattle.iio_script.specs.declared.status.Status.TheVariants.{Done, Memory, ReadFault, Refused, TooLong, Usage, WriteFault}
use Rattle.iio_script.specs.Ends.{Finishes, Sends}
use Rattle.iio_script.specs.LineReader.{TakesNear, piece_size}

-- a step that was read, if the name that it feeds is one of those that a script may have
abbrev pub step_kept : List (List ℕ) → Result Step Why → Result Step Why
step_kept names reading = do
  step ← reading
  ensure (keeps_names names (Some step)) why.Limit
  Ok step

-- the same names, in any order
pub record AreSame (one other : List (List ℕ)) : Type 0 where
  pub known : (name : List ℕ) → is_known one name ≡ is_known other name
  pub count : length one ≡ length other

-- what a script prints after a history
abbrev pub text_after : Setup → List Event → Script → List ℕ
text_after s h script = transcript s h script.steps ++ ending_text script.ending

-- how far a run has come: the lines `given`, from the number `first` on, were read; the next line has the number `next`
pub record Progress : Type 0 where
  pub first : ℕ
  pub next : ℕ
  pub given : List (List ℕ)

abbrev pub progress_of : (first next : ℕ) (given : List (List ℕ)) → Progress
progress_of first next given = record { first = first; next = next; given = given }

-- ... and one more line
abbrev pub with_line : Progress → (line : List ℕ) → Progress
with_line run line = record { first = run.first; next = run.next + 1; given = run.given ++ line ∷ [] }

module _ {X : Type 0} {V : X → Type 0} (driver : Plug X V → Driver) where
  -- the lines were played and printed that text. This holds whatever lines follow
  pub record Plays (s : Setup) (x : System X V) (text : List ℕ) (run : Progress) : Type 0 where
    pub done : List Event
    pub names : List (List ℕ)
    pub stands : StandsFor driver s done x
    pub same : AreSame names (names_by x)
    pub printed : (ending : Ending) (lines : List (List ℕ))
        → text ++ text_after s done (script_from s.desc ending names run.next lines)
        ≡ script_text s (script_from s.desc ending [] run.first (run.given ++ lines))
    pub ends : (ending : Ending) (lines : List (List ℕ))
        → (script_from s.desc ending names run.next lines).ending ≡ (script_from s.desc ending [] run.first (run.given ++ lines)).ending
    pub history : (ending : Ending) (lines : List (List ℕ))
        → with_steps s done (script_from s.desc ending names run.next lines).steps
        ≡ with_steps s [] (script_from s.desc ending [] run.first (run.given ++ lines)).steps

  -- what a step that was read makes of a system, and of what was printed: it is performed; or it is refused, and nothing changes
  abbrev pub Performs : Result Step Why → (x x' : System X V) (before after : List ℕ) → Option Why → Type 0
  Performs reading x x' before after None = (step : Step) × ((step_kept (names_by x) reading ≡ Ok step) × IsPerformed driver step x x' before after)
  Performs reading x x' before after (Some why) = (step_kept (names_by x) reading ≡ Err why) × ((x' ≡ x) × (after ≡ before))

  -- a line was played; or it is refused, and the end of the script was printed
  abbrev pub PlaysLine : Setup → System X V → (text : List ℕ) → Progress → (line : List ℕ) → Option Status → Type 0
  PlaysLine s x text run line None = Plays s x text (with_line run line)
  PlaysLine s x text run line (Some status) =
      (ending : Ending) (lines : List (List ℕ))
      → Finishes (outcome_of_script s (script_from s.desc ending [] run.first (run.given ++ line ∷ lines))) status [] text

-- the line of that number is refused
abbrev pub IsRefusedWith : ℕ → Status → Type 0
IsRefusedWith number (Refused line why) = line ≡ number
IsRefusedWith number status = ⊥

-- if it is refused, it is at that line
abbrev pub IsRefusedOr : ℕ → Status → Type 0
IsRefusedOr number (Refused line why) = line ≡ number
IsRefusedOr number status = Unit {0}

-- if a line is refused, not much more was taken than up to its end
abbrev pub TakesFor : Status → List ℕ → Option (List ℕ) → Type 0
TakesFor (Refused line why) left remaining = TakesNear line left remaining
TakesFor status left remaining = Unit {0}

-- a text is a front part of what an outcome prints
pub record IsFrontOf (outcome : Outcome) (text : List ℕ) : Type 0 where
  pub rest : List ℕ
  pub parts : outcome.printed ≡ text ++ rest

-- where a script starts: on a description with its drivers, at the line of that number, behind these lines of the input
pub record Start : Type 0 where
  pub setup : Setup
  pub first : ℕ
  pub front : List (List ℕ)

abbrev pub start_of : Setup → (first : ℕ) (front : List (List ℕ)) → Start
start_of s first front = record { setup = s; first = first; front = front }

-- a read failed: a front part of the input was taken, and its whole lines printed that text
pub record FailsAt (start : Start) (outcome : Outcome) (input text : List ℕ) (left : Option (List ℕ)) : Type 0 where
  pub begins : IsFrontOf outcome text
  pub count : ℕ
  pub rest : left ≡ Some (drop count input)
  pub given : List (List ℕ)
  pub lines : lines_of (ended_part (take count input)) ≡ start.front ++ given
  pub printed : text ≡ script_text start.setup (script_from start.setup.desc Finished [] start.first given)

-- a script that ended was printed in full
pub record FinishesAt (outcome : Outcome) (status : Status) (input text : List ℕ) (left : Option (List ℕ)) : Type 0 where
  pub finishes : Finishes outcome status [] text
  pub near : TakesFor status input left

-- how the steps of a script end: `sent` was written, and `kept` is still to be written
abbrev pub EndsSteps : Start → Outcome → (input : List ℕ) → Result Status Status → (sent kept : List ℕ) → (left : Option (List ℕ)) → Type 0
EndsSteps start outcome input (Ok ReadFault) sent kept left = FailsAt start outcome input (sent ++ kept) left
EndsSteps start outcome input (Ok status) sent kept left = FinishesAt outcome status input (sent ++ kept) left
EndsSteps start outcome input (Err status) sent kept left = IsFrontOf outcome sent

-- before the last piece was taken, all that the whole lines taken until then print had been written
pub record AnswersSteps (start : Start) (input sent : List ℕ) (left : Option (List ℕ)) : Type 0 where
  pub count : ℕ
  pub rest : left ≡ Some (drop count input)
  pub before : ℕ
  pub near : count ≤ before + piece_size
  pub given : List (List ℕ)
  pub lines : lines_of (ended_part (take before input)) ≡ start.front ++ given
  pub more : List ℕ
  pub written : sent ≡ script_text start.setup (script_from start.setup.desc Finished [] start.first given) ++ more

-- this holds once a script has read on; before that nothing was taken
abbrev pub AnswersScript : Start → (input sent : List ℕ) → (begin left : Option (List ℕ)) → Type 0
AnswersScript start input sent begin left = (left ≡ begin) ⊎ AnswersSteps start input sent left

-- a run with more to write has ended by itself, or by a failed read; one without, by a failed write or because memory ran out
abbrev pub IsOver : Result Status Status → Type 0
IsOver (Ok Done) = Unit {0}
IsOver (Ok (Refused line why)) = Unit {0}
IsOver (Ok TooLong) = Unit {0}
IsOver (Ok ReadFault) = Unit {0}
IsOver (Ok status) = ⊥
IsOver (Err WriteFault) = Unit {0}
IsOver (Err Memory) = Unit {0}
IsOver (Err status) = ⊥

-- how a script ends of which that text was written
abbrev pub EndsScript : Start → Outcome → (input : List ℕ) → Status → (text : List ℕ) → (left : Option (List ℕ)) → Type 0
EndsScript start outcome input ReadFault text left = FailsAt start outcome input text left
EndsScript start outcome input WriteFault text left = IsFrontOf outcome text
EndsScript start outcome input Memory text left = IsFrontOf outcome text
EndsScript start outcome input status text left = FinishesAt outcome status input text left

-- that text was written
abbrev pub WritesText : (before after : Option (List ℕ)) → List ℕ → Type 0
WritesText before after text = IfSome before (λ xs. after ≡ Some (xs ++ text))

-- after an end nothing is left to be written: all of it was written, or a write failed
abbrev pub EndsWriting : (status result : Status) (before after : Option (List ℕ)) (kept : List ℕ) → Type 0
EndsWriting status result before after kept =
    ((result ≡ status) × Sends before after kept []) ⊎ ((result ≡ WriteFault) × ((rest : List ℕ) × Sends before after kept rest))

-- an outcome was printed and written, or a front part of it if that failed
abbrev pub Prints : Outcome → Status → (text : List ℕ) → Type 0
Prints outcome ReadFault text = ⊥
Prints outcome Usage text = ⊥
Prints outcome WriteFault text = IsFrontOf outcome text
Prints outcome Memory text = IsFrontOf outcome text
Prints outcome status text = Finishes outcome status [] text
