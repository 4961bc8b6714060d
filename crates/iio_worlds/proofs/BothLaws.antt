-- Both worlds of an input that keeps to the grammar.
use Rattle.std.proofs.Common.{◌≡◌, ℕ, Bool, true, false, List, [], ◌++◌, map, Option, Some, None, refl, sym, ap, ◌∙◌, rules}
use Rattle.iio_text.specs.declared.refusals.Why.TheVariants.{Bystander}
use Rattle.iio_sensor.specs.Driver.{Driver}
use Rattle.iio_history.specs.Input.{is_overlong}
use Rattle.iio_history.specs.Numbered.{Numbered, numbered_from, step_of_numbered}
use Rattle.iio_history.specs.Outcome.{Outcome, last_ending, only_ending}
use Rattle.iio_history.specs.Registry.{Setup}
use Rattle.iio_history.specs.Script.{Ending, Finished, Refused, script_from}
use Rattle.iio_history.specs.Transcript.{transcript}
use Rattle.iio_worlds.specs.Solo.{AreAlike, HasSteps, IsRefusedBeside, between, both_texts, first_offence_line, number_at, solo_of_head, solo_of_script, solo_of_steps, solo_outcome_of}
use Rattle.iio_worlds.specs.Worlds.{first_offence, without_others}
use Rattle.iio_worlds.proofs.SoloLaws.{offence_line_is}
use Rattle.iio_worlds.proofs.TwoWorldsLaws.{two_worlds}

solo_steps : (a : List ℕ) (drivers : List Driver) (input : List ℕ) (s : Setup) (ts : List Numbered) → HasSteps drivers input s ts
    → solo_outcome_of a drivers input ≡ solo_of_steps s a ts
solo_steps a drivers input s ts has =
    ap (solo_of_head a drivers (is_overlong input)) has.head
    ∙ ap (λ (o : Bool). solo_of_script (record { desc = s.desc; drivers = drivers }) a (numbered_from s.desc [] has.first has.lines)
    (script_from s.desc (last_ending o) [] has.first has.lines).ending) has.short
    ∙ ap (λ (e : Ending). solo_of_script (record { desc = s.desc; drivers = drivers }) a (numbered_from s.desc [] has.first has.lines) e) has.finished
    ∙ ap (λ (ds : List Driver). solo_of_steps (record { desc = s.desc; drivers = ds }) a (numbered_from s.desc [] has.first has.lines)) (sym has.handed)
    ∙ ap (λ (us : List Numbered). solo_of_steps s a us) (sym has.steps)

-- by the line of the first step against the rules
abbrev by_line : Setup → List ℕ → List Numbered → Option ℕ → Outcome
by_line s a ts o = elim o [
  | None ↦ record { printed = both_texts s a (map step_of_numbered ts); ending = Finished }
  | Some line ↦ only_ending (Refused line Bystander)
]

pub are_alike : (a : List ℕ) (drivers : List Driver) (input : List ℕ) → AreAlike a drivers input
are_alike a drivers input s ts has only =
    solo_steps a drivers input s ts has
    ∙ ap (λ (o : Option ℕ). by_line s a ts o) ((offence_line_is s a ts).2 only)
    ∙ ap (λ (t : List ℕ). (let x : Outcome =
    record { printed = transcript s [] (without_others a (map step_of_numbered ts)) ++ between ++ t; ending = Finished } in x))
    (sym (two_worlds s a (map step_of_numbered ts) only))

pub is_refused_beside : (a : List ℕ) (drivers : List Driver) (input : List ℕ) → IsRefusedBeside a drivers input
is_refused_beside a drivers input s ts has others = by (first_offence_line s a [] ts) refl
  where
    by : (o : Option ℕ) → first_offence_line s a [] ts ≡ o
        → (line : ℕ) × (number_at ts (first_offence s a [] (map step_of_numbered ts)) ≡ Some line)
        × (solo_outcome_of a drivers input ≡ only_ending (Refused line Bystander))
    by None is = let never : true ≡ false = sym ((offence_line_is s a ts).1 is) ∙ others in cc
    by (Some line) is = (line, sym (offence_line_is s a ts).0 ∙ is, solo_steps a drivers input s ts has ∙ ap (λ (o : Option ℕ). by_line s a ts o) is)
