-- The steps of a script with the numbers of their lines. (This project's own.)
use Rattle.std.specs.Prelude.{◌≡◌, ℕ, ◌+◌, List, [], ◌∷◌, map, Option, Some, None, Ok, Err}
use Rattle.iio_desc.specs.Description.{Description}
use Rattle.iio_history.specs.Transcript.{Step}
use Rattle.iio_history.specs.Script.{Ending, step_after, names_after, script_from}

pub record Numbered : Type 0 where
  pub number : ℕ
  pub step : Step

abbrev pub step_of_numbered : Numbered → Step
step_of_numbered t = t.step

-- a line without a step isn't listed here
abbrev pub first_numbered : ℕ → Option Step → List Numbered → List Numbered
first_numbered n None ts = ts
first_numbered n (Some step) ts = record { number = n; step = step } ∷ ts

-- the steps of these lines up to the first refused line; the first line has number n, and these names were fed before
abbrev pub numbered_from : Description → List (List ℕ) → ℕ → List (List ℕ) → List Numbered
numbered_from desc names n [] = []
numbered_from desc names n (line ∷ lines) = elim (step_after desc names line) [
  | Err why ↦ []
  | Ok step ↦ first_numbered n step (numbered_from desc (names_after names step) (n + 1) lines)
]

-- the numbered steps are the steps of the script
abbrev pub NumberedAreSteps : Type 0
NumberedAreSteps =
    (desc : Description) (ending : Ending) (names : List (List ℕ)) (n : ℕ) (lines : List (List ℕ))
    → map step_of_numbered (numbered_from desc names n lines) ≡ (script_from desc ending names n lines).steps
