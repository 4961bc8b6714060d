-- What an input prints, and how it ends: its lines are a description and, after the line that ends it, a script. (This
-- project's own.)
use Rattle.std.specs.Prelude.{ℕ, ◌+◌, Bool, List, [], ◌∷◌, length, Result, Ok, Err, if◌then◌else◌}
use Rattle.iio_sensor.specs.Driver.{Driver}
use Rattle.iio_desc.specs.declared.reader.DescFault.{DescFault}
use Rattle.iio_desc.specs.declared.reader.DescFault.TheVariants.{Line, Mem}
use Rattle.iio_desc.specs.Description.{Description}
use Rattle.iio_desc.specs.DescReader.{Reader, new_reader, after_line, finished, ended_by}
use Rattle.iio_desc.specs.Lines.{is_end}
use Rattle.iio_history.specs.Input.{is_overlong, scanned_lines}
use Rattle.iio_history.specs.Registry.{Setup}
use Rattle.iio_history.specs.Script.{Ending, Finished, Refused, TooLong, Script, script_from, script_text, ending_text}

-- ---- the description at the head

pub data Head : Type 0 where
  -- a description and the lines after it; the first of them has the number `first`
  Described : (desc : Description) (first : ℕ) (lines : List (List ℕ)) → Head
  -- the first line that is refused; its fault is never that memory ran out
  Faulty : (fault : DescFault) → Head
  -- the looked-at lines end before the description does
  Cut : Head

abbrev pub described : ℕ → List (List ℕ) → Result Description DescFault → Head
described first lines (Ok desc) = Described desc first lines
described first lines (Err fault) = Faulty fault

-- the head of these lines for a reader that has read the lines before; the first
-- line has number n; if these are all lines, the description ends with them
abbrev pub head_from : Bool → Reader → ℕ → List (List ℕ) → Head
head_from overlong (Err fault) n lines = Faulty fault
head_from overlong (Ok reading) n [] = if overlong then Cut else described n [] (finished (Ok reading))
head_from overlong (Ok reading) n (line ∷ lines) =
    if is_end line then described (n + 1) lines (ended_by (Ok reading) line) else head_from overlong (after_line (Ok reading) line) (n + 1) lines

-- the head of an input, whose description may use `drivers` drivers
abbrev pub head_of : ℕ → List ℕ → Head
head_of drivers input = head_from (is_overlong input) (new_reader drivers) 1 (scanned_lines input)

-- ---- the whole

pub record Outcome : Type 0 where
  pub printed : List ℕ
  pub ending : Ending

-- an input that ends before anything was printed
abbrev pub only_ending : Ending → Outcome
only_ending ending = record { printed = ending_text ending; ending = ending }

-- the outcome of a script
abbrev pub outcome_of_script : Setup → Script → Outcome
outcome_of_script s script = record { printed = script_text s script; ending = script.ending }

-- how the looked-at lines end
abbrev pub last_ending : Bool → Ending
last_ending overlong = if overlong then TooLong else Finished

abbrev pub outcome_of_head : List Driver → Bool → Head → Outcome
outcome_of_head drivers overlong (Described desc first lines) =
    outcome_of_script (record { desc = desc; drivers = drivers }) (script_from desc (last_ending overlong) [] first lines)
outcome_of_head drivers overlong (Faulty (Line n why)) = only_ending (Refused n why)
outcome_of_head drivers overlong (Faulty Mem) = only_ending Finished
outcome_of_head drivers overlong Cut = only_ending TooLong

-- what an input prints, with these drivers
abbrev pub outcome_of : List Driver → List ℕ → Outcome
outcome_of drivers input = outcome_of_head drivers (is_overlong input) (head_of (length drivers) input)
