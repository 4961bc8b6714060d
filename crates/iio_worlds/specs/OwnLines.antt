-- An input without the lines of other connections' steps.
use Rattle.std.specs.Prelude.{◌≡◌, ℕ, Bool, false, List, [], ◌∷◌, Option, Some, Result, Ok, if◌then◌else◌}
use Rattle.iio_text.specs.declared.refusals.Why.{Why}
use Rattle.iio_desc.specs.Description.{Description}
use Rattle.iio_history.specs.Registry.{Setup}
use Rattle.iio_history.specs.Transcript.{Step, transcript}
use Rattle.iio_history.specs.Script.{Finished, script_from, script_text, step_of}
use Rattle.iio_worlds.specs.Worlds.{is_others, without_others}

-- whether a line is a step of another connection
abbrev pub says_others : List ℕ → Result (Option Step) Why → Bool
says_others a (Ok (Some step)) = is_others a step
says_others a said = false

-- the lines without those
abbrev pub own_lines : Description → List ℕ → List (List ℕ) → List (List ℕ)
own_lines desc a [] = []
own_lines desc a (line ∷ lines) = if says_others a (step_of desc line) then own_lines desc a lines else line ∷ own_lines desc a lines

-- if no line is refused, none is refused without those lines either, and they then print the transcript without the steps of
-- other connections; so the first of the two texts is what playing the input without those lines prints
abbrev pub OwnLinesPlay : Type 0
OwnLinesPlay =
    (s : Setup) (a : List ℕ) (first : ℕ) (lines : List (List ℕ)) → (script_from s.desc Finished [] first lines).ending ≡ Finished
    → ((script_from s.desc Finished [] first (own_lines s.desc a lines)).ending ≡ Finished)
    × (script_text s (script_from s.desc Finished [] first (own_lines s.desc a lines))
    ≡ transcript s [] (without_others a (script_from s.desc Finished [] first lines).steps))
