-- Each input of this crate is in the grammar of descriptions and scripts.
use Rattle.std.specs.Prelude.{◌≡◌, ℕ, ◌≤◌, List, [], length}
use Rattle.iio_sensor.specs.Driver.{Driver}
use Rattle.iio_desc.specs.Description.{Description}
use Rattle.iio_history.specs.Input.{input_limit}
use Rattle.iio_history.specs.Outcome.{Described, head_of, outcome_of}
use Rattle.iio_history.specs.Script.{Finished, script_from}
use Rattle.iio_gen.specs.declared.steps.TheConstants.{STEPS}
use Rattle.iio_gen.specs.Input.{made}

-- an input whose description may use `drivers` drivers is played to its end, and has `steps` steps
pub record IsPlayable (drivers steps : ℕ) (input : List ℕ) : Type 0 where
  pub desc : Description
  pub first : ℕ
  pub lines : List (List ℕ)
  -- no line of the description is refused; these are the lines after it, and the first of them has that number
  pub described : head_of drivers input ≡ Described desc first lines
  -- none of these lines is refused
  pub finished : (script_from desc Finished [] first lines).ending ≡ Finished
  pub count : length (script_from desc Finished [] first lines).steps ≡ steps
  -- the whole input is looked at
  pub short : length input ≤ input_limit

abbrev pub MadeIsPlayable : Type 0
MadeIsPlayable = (n drivers : ℕ) → IsPlayable drivers STEPS (made n)

-- what `play` does: whatever drivers are handed in, the outcome is neither a refusal nor too long an input
abbrev pub MadeFinishes : Type 0
MadeFinishes = (n : ℕ) (drivers : List Driver) → (outcome_of drivers (made n)).ending ≡ Finished
