-- Both worlds of a connection in print: without the steps of other connections, and with them. (This project's own.)
use Rattle.std.specs.Prelude.{◌≡◌, ℕ, Bool, true, false, List, [], ◌∷◌, ◌++◌, map, length, codes, Option, Some, None, option_map, slice_get, Result, Ok, Err, if◌then◌else◌}
use Rattle.iio_text.specs.declared.refusals.Why.TheVariants.{Bystander}
use Rattle.iio_sensor.specs.Driver.{Driver}
use Rattle.iio_desc.specs.declared.reader.DescFault.TheVariants.{Line, Mem}
use Rattle.iio_history.specs.Event.{Event}
use Rattle.iio_history.specs.Registry.{Setup}
use Rattle.iio_history.specs.Told.{Told, told}
use Rattle.iio_history.specs.Input.{is_overlong}
use Rattle.iio_history.specs.Outcome.{Head, Described, Faulty, Cut, Outcome, head_of, last_ending, only_ending, outcome_of}
use Rattle.iio_history.specs.Script.{Ending, Finished, Refused, TooLong, script_from}
use Rattle.iio_history.specs.Numbered.{Numbered, step_of_numbered, numbered_from}
use Rattle.iio_history.specs.Transcript.{Step, printed, with_step, transcript, with_steps}
use Rattle.iio_history.specs.Played.{state_after, step_lines}
use Rattle.iio_worlds.specs.Bystanders.{only_bystanders}
use Rattle.iio_worlds.specs.Worlds.{is_others, without_others, transcript_kept, first_offence}
use Rattle.iio_worlds.specs.Stance.{step_meets}

-- the line number of the first step that has an event against the rules
abbrev pub first_offence_line : Setup → List ℕ → List Event → List Numbered → Option ℕ
first_offence_line s a h [] = None
first_offence_line s a h (t ∷ ts) = if only_bystanders s a (with_step s h t.step) then first_offence_line s a (with_step s h t.step) ts else Some t.number

-- the line between the two texts
abbrev pub between : List ℕ
between = printed (codes "%%" ∷ [])

-- the transcript without the steps of other connections, and the whole transcript without the lines of those steps
abbrev pub both_texts : Setup → List ℕ → List Step → List ℕ
both_texts s a steps = transcript s [] (without_others a steps) ++ between ++ transcript_kept s a [] steps

-- the outcome for a script without a refused line
abbrev pub solo_of_steps : Setup → List ℕ → List Numbered → Outcome
solo_of_steps s a ts = elim (first_offence_line s a [] ts) [
  | None ↦ record { printed = both_texts s a (map step_of_numbered ts); ending = Finished }
  | Some line ↦ only_ending (Refused line Bystander)
]

-- a refused line, or too many bytes, count before any step against the rules
abbrev pub solo_of_script : Setup → List ℕ → List Numbered → Ending → Outcome
solo_of_script s a ts Finished = solo_of_steps s a ts
solo_of_script s a ts ending = only_ending ending

abbrev pub solo_of_head : List ℕ → List Driver → Bool → Head → Outcome
solo_of_head a drivers overlong (Described desc first lines) =
    solo_of_script (record { desc = desc; drivers = drivers }) a (numbered_from desc [] first lines)
    (script_from desc (last_ending overlong) [] first lines).ending
solo_of_head a drivers overlong (Faulty (Line n why)) = only_ending (Refused n why)
solo_of_head a drivers overlong (Faulty Mem) = only_ending Finished
solo_of_head a drivers overlong Cut = only_ending TooLong

-- what `solo` prints for connection `a` of an input, with these drivers, and how it ends
abbrev pub solo_outcome_of : List ℕ → List Driver → List ℕ → Outcome
solo_outcome_of a drivers input = solo_of_head a drivers (is_overlong input) (head_of (length drivers) input)

-- ---- by one run

-- what one run over a script keeps: the lines of all steps but those of other connections; or else how it ends
abbrev pub kept_of_steps : Setup → List ℕ → List Numbered → Result (List ℕ) Ending
kept_of_steps s a ts = elim (first_offence_line s a [] ts) [
  | None ↦ Ok (transcript_kept s a [] (map step_of_numbered ts))
  | Some line ↦ Err (Refused line Bystander)
]

abbrev pub kept_of_script : Setup → List ℕ → List Numbered → Ending → Result (List ℕ) Ending
kept_of_script s a ts Finished = kept_of_steps s a ts
kept_of_script s a ts ending = Err ending

abbrev pub kept_of_head : List ℕ → List Driver → Bool → Head → Result (List ℕ) Ending
kept_of_head a drivers overlong (Described desc first lines) =
    kept_of_script (record { desc = desc; drivers = drivers }) a (numbered_from desc [] first lines)
    (script_from desc (last_ending overlong) [] first lines).ending
kept_of_head a drivers overlong (Faulty (Line n why)) = Err (Refused n why)
kept_of_head a drivers overlong (Faulty Mem) = Err Finished
kept_of_head a drivers overlong Cut = Err TooLong

abbrev pub kept_of : List ℕ → List Driver → List ℕ → Result (List ℕ) Ending
kept_of a drivers input = kept_of_head a drivers (is_overlong input) (head_of (length drivers) input)

-- what is kept, printed twice
abbrev pub twice : Result (List ℕ) Ending → Outcome
twice (Ok text) = record { printed = text ++ between ++ text; ending = Finished }
twice (Err ending) = only_ending ending

-- ---- the run, by the state that it carries

abbrev pub keep : Bool → List ℕ → Result (List ℕ) ℕ → Result (List ℕ) ℕ
keep others text (Ok more) = Ok (if others then more else text ++ more)
keep others text (Err line) = Err line

-- the lines that the run keeps, or the line number of the first step against the rules
abbrev pub kept_from : Setup → List ℕ → Told → List Numbered → Result (List ℕ) ℕ
kept_from s a m [] = Ok []
kept_from s a m (t ∷ ts) =
    if step_meets s a m t.step then keep (is_others a t.step) (step_lines s m t.step) (kept_from s a (state_after s m t.step) ts) else Err t.number

abbrev pub as_ending : Result (List ℕ) ℕ → Result (List ℕ) Ending
as_ending (Ok text) = Ok text
as_ending (Err line) = Err (Refused line Bystander)

-- ---- its law

-- both texts are the one that one run keeps
abbrev pub SoloIsTwice : Type 0
SoloIsTwice = (a : List ℕ) (drivers : List Driver) (input : List ℕ) → solo_outcome_of a drivers input ≡ twice (kept_of a drivers input)

-- the run keeps it by the state that it carries
abbrev pub RunKeeps : Type 0
RunKeeps = (s : Setup) (a : List ℕ) (ts : List Numbered) → kept_of_steps s a ts ≡ as_ending (kept_from s a (told s []) ts)

-- the reported line is that of the first step against the rules, and there is none exactly if all events meet the rules
abbrev pub number_at : List Numbered → Option ℕ → Option ℕ
number_at ts None = None
number_at ts (Some k) = option_map (λ (t : Numbered). t.number) (slice_get ts k)

abbrev pub OffenceLineIs : Type 0
OffenceLineIs =
    (s : Setup) (a : List ℕ) (ts : List Numbered)
    → (first_offence_line s a [] ts ≡ number_at ts (first_offence s a [] (map step_of_numbered ts)))
    × (first_offence_line s a [] ts ≡ None → only_bystanders s a (with_steps s [] (map step_of_numbered ts)) ≡ true)
    × (only_bystanders s a (with_steps s [] (map step_of_numbered ts)) ≡ true → first_offence_line s a [] ts ≡ None)

-- if a line of the input is refused, or the input has too many bytes, then that ending is all that is printed
abbrev pub BadLineIsFirst : Type 0
BadLineIsFirst =
    (a : List ℕ) (drivers : List Driver) (input : List ℕ) → ((outcome_of drivers input).ending ≡ Finished → ⊥)
    → solo_outcome_of a drivers input ≡ only_ending (outcome_of drivers input).ending

-- ---- an input that keeps to the grammar

-- after the description of the input these are its steps, with their line numbers, and no line is refused
pub record HasSteps (drivers : List Driver) (input : List ℕ) (s : Setup) (ts : List Numbered) : Type 0 where
  pub first : ℕ
  pub lines : List (List ℕ)
  pub head : head_of (length drivers) input ≡ Described s.desc first lines
  pub handed : s.drivers ≡ drivers
  pub short : is_overlong input ≡ false
  pub finished : (script_from s.desc Finished [] first lines).ending ≡ Finished
  pub steps : ts ≡ numbered_from s.desc [] first lines

-- the transcript without the steps of other connections, twice
abbrev pub alone_twice : Setup → List ℕ → List Step → List ℕ
alone_twice s a steps = transcript s [] (without_others a steps) ++ between ++ transcript s [] (without_others a steps)

-- if all others are bystanders, both texts are the same
abbrev pub AreAlike : List ℕ → List Driver → List ℕ → Type 0
AreAlike a drivers input =
    (s : Setup) (ts : List Numbered) → HasSteps drivers input s ts → only_bystanders s a (with_steps s [] (map step_of_numbered ts)) ≡ true
    → solo_outcome_of a drivers input ≡ record { printed = alone_twice s a (map step_of_numbered ts); ending = Finished }

-- otherwise the line of the first step against the rules is refused, and nothing else is printed
abbrev pub IsRefusedBeside : List ℕ → List Driver → List ℕ → Type 0
IsRefusedBeside a drivers input =
    (s : Setup) (ts : List Numbered) → HasSteps drivers input s ts → only_bystanders s a (with_steps s [] (map step_of_numbered ts)) ≡ false
    → (line : ℕ) × (number_at ts (first_offence s a [] (map step_of_numbered ts)) ≡ Some line)
    × (solo_outcome_of a drivers input ≡ only_ending (Refused line Bystander))

abbrev pub WorldsAreAlike : Type 0
WorldsAreAlike = (a : List ℕ) (drivers : List Driver) (input : List ℕ) → AreAlike a drivers input

abbrev pub OffenderIsRefused : Type 0
OffenderIsRefused = (a : List ℕ) (drivers : List Driver) (input : List ℕ) → IsRefusedBeside a drivers input
