-- The numbered steps of lines are the steps of their script.
use Rattle.std.proofs.Common.{◌≡◌, ℕ, ◌+◌, List, [], ◌∷◌, map, Option, Result, Ok, Err, refl, rules}
use Rattle.iio_text.specs.declared.refusals.Why.{Why}
use Rattle.iio_desc.specs.Description.{Description}
use Rattle.iio_history.specs.Transcript.{Step}
use Rattle.iio_history.specs.Script.{Ending, Refused, Script, first_step, step_after, names_after, script_from}
use Rattle.iio_history.specs.Numbered.{Numbered, first_numbered, numbered_from, step_of_numbered}

abbrev by_line : Description → Ending → List (List ℕ) → ℕ → List (List ℕ) → Result (Option Step) Why → Script
by_line desc ending names n lines o = elim o [
  | Err why ↦ record { steps = []; ending = Refused n why }
  | Ok step ↦ first_step step (script_from desc ending (names_after names step) (n + 1) lines)
]

abbrev numbered_by : Description → List (List ℕ) → ℕ → List (List ℕ) → Result (Option Step) Why → List Numbered
numbered_by desc names n lines o = elim o [ Err why ↦ [] | Ok step ↦ first_numbered n step (numbered_from desc (names_after names step) (n + 1) lines) ]

pub numbered_are_steps : (desc : Description) (ending : Ending) (names : List (List ℕ)) (n : ℕ) (lines : List (List ℕ))
    → map step_of_numbered (numbered_from desc names n lines) ≡ (script_from desc ending names n lines).steps
numbered_are_steps desc ending names n [] = refl
numbered_are_steps desc ending names n (line ∷ lines) =
    same (step_after desc names line) (λ step. numbered_are_steps desc ending (names_after names step) (n + 1) lines)
  where
    same : (o : Result (Option Step) Why)
        → ((step : Option Step) → map step_of_numbered (numbered_from desc (names_after names step) (n + 1) lines)
        ≡ (script_from desc ending (names_after names step) (n + 1) lines).steps)
        → map step_of_numbered (numbered_by desc names n lines o) ≡ (by_line desc ending names n lines o).steps
    same o rest = search rules
