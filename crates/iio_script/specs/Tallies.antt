-- The counts of a text that is played. (This project's own.)
use Rattle.std.specs.Prelude.{◌≡◌, ℕ, Bool, List, [], length, Result, Ok, Err}
use Rattle.iio_sensor.specs.Driver.{Driver}
use Rattle.iio_history.specs.Input.{is_overlong}
use Rattle.iio_history.specs.Outcome.{Head, Described, head_of, last_ending, outcome_of}
use Rattle.iio_history.specs.Registry.{Setup}
use Rattle.iio_history.specs.Script.{Script, Finished, script_from}
use Rattle.iio_history.specs.Script as ending
use Rattle.iio_history.specs.Transcript.{with_steps}
use Rattle.iio_history.specs.Summary.{Summary, summary_in, summary_of}
use Rattle.iio_kinds.specs.declared.tally.Tally.{Tally}
use Rattle.iio_system.specs.Tally.{tally_of}
use Rattle.iio_script.specs.declared.stop.Stop.{Stop}
use Rattle.iio_script.specs.declared.stop.Stop.TheVariants.{Refused, Mem}

-- the counts of a script's steps
abbrev pub summary_of_script : Setup → Script → Summary
summary_of_script s script = summary_of s (with_steps s [] script.steps)

-- the counts of the steps after a description; without a description nothing is counted
abbrev pub summary_of_head : List Driver → Bool → Head → Summary
summary_of_head drivers overlong (Described desc first lines) =
    summary_of_script (record { desc = desc; drivers = drivers }) (script_from desc (last_ending overlong) [] first lines)
summary_of_head drivers overlong head = summary_in []

-- the counts of an input, with these drivers
abbrev pub summary_of_input : List Driver → List ℕ → Summary
summary_of_input drivers input = summary_of_head drivers (is_overlong input) (head_of (length drivers) input)

-- a script was played to its end, or up to its first line that fails
abbrev pub TalliesScript : Setup → Script → Result Tally Stop → Type 0
TalliesScript s script (Ok tally) = (script.ending ≡ Finished) × (tally ≡ tally_of (summary_of_script s script))
TalliesScript s script (Err (Refused line why)) = script.ending ≡ ending.Refused line why
TalliesScript s script (Err Mem) = Unit {0}

-- a text was played to its end without drivers, or up to its first line that fails
abbrev pub Tallies : List ℕ → Result Tally Stop → Type 0
Tallies text (Ok tally) = ((outcome_of [] text).ending ≡ Finished) × (tally ≡ tally_of (summary_of_input [] text))
Tallies text (Err (Refused line why)) = (outcome_of [] text).ending ≡ ending.Refused line why
Tallies text (Err Mem) = Unit {0}
