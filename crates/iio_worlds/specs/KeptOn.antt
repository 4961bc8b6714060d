-- How a run over a script goes on, step by step, by what the run carries. No reader has to believe it.
use Rattle.std.specs.Prelude.{◌≡◌, ℕ, true, false, List, [], ◌∷◌, ◌++◌, map, Option, Some, None, Result, Ok, Err, if◌then◌else◌}
use Rattle.iio_text.specs.declared.refusals.Why.TheVariants.{Bystander}
use Rattle.iio_history.specs.Event.{Event}
use Rattle.iio_history.specs.Registry.{Setup}
use Rattle.iio_history.specs.Script.{Ending, Finished, Refused}
use Rattle.iio_history.specs.Numbered.{Numbered, step_of_numbered}
use Rattle.iio_history.specs.Transcript.{with_step, lines_of_step}
use Rattle.iio_worlds.specs.Bystanders.{only_bystanders}
use Rattle.iio_worlds.specs.Worlds.{is_others, transcript_kept}
use Rattle.iio_worlds.specs.Solo.{first_offence_line, kept_of_script}

-- what the run keeps in all, if it has kept this text over this history without an offence, and these steps are still to come
abbrev pub kept_after : Setup → List ℕ → List ℕ → List Event → List Numbered → Result (List ℕ) Ending
kept_after s a text h ts = elim (first_offence_line s a h ts) [
  | None ↦ Ok (text ++ transcript_kept s a h (map step_of_numbered ts))
  | Some line ↦ Err (Refused line Bystander)
]

-- once a step has offended, the run only ends differently if a line is refused, or if there are too many bytes
abbrev pub kept_once : Setup → List ℕ → Option ℕ → List ℕ → List Event → List Numbered → Result (List ℕ) Ending
kept_once s a None text h ts = kept_after s a text h ts
kept_once s a (Some line) text h ts = Err (Refused line Bystander)

abbrev pub kept_on : Setup → List ℕ → Option ℕ → List ℕ → List Event → List Numbered → Ending → Result (List ℕ) Ending
kept_on s a offence text h ts Finished = kept_once s a offence text h ts
kept_on s a offence text h ts ending = Err ending

-- how the run begins, goes on and ends
abbrev pub KeptGoesOn : Type 0
KeptGoesOn =
    (s : Setup) (a : List ℕ) (ending : Ending)
    → ((ts : List Numbered) → kept_on s a None [] [] ts ending ≡ kept_of_script s a ts ending)
    × ((text : List ℕ) (h : List Event) (t : Numbered) (ts : List Numbered) → only_bystanders s a (with_step s h t.step) ≡ true
    → kept_on s a None text h (t ∷ ts) ending
    ≡ kept_on s a None (text ++ (if is_others a t.step then [] else lines_of_step s h t.step)) (with_step s h t.step) ts ending)
    × ((text : List ℕ) (h : List Event) (t : Numbered) (ts : List Numbered) → only_bystanders s a (with_step s h t.step) ≡ false
    → (text' : List ℕ) (h' : List Event) → kept_on s a None text h (t ∷ ts) ending ≡ kept_on s a (Some t.number) text' h' ts ending)
    × ((line : ℕ) (text : List ℕ) (h : List Event) (t : Numbered) (ts : List Numbered) (text' : List ℕ) (h' : List Event)
    → kept_on s a (Some line) text h (t ∷ ts) ending ≡ kept_on s a (Some line) text' h' ts ending)
    × ((text : List ℕ) (h : List Event) → kept_on s a None text h [] Finished ≡ Ok text)
