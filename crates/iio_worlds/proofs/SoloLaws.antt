-- Both texts of a connection's worlds are the one that one run keeps.
use Rattle.std.proofs.Common.{◌≡◌, ℕ, suc, Bool, true, false, List, [], ◌∷◌, ◌++◌, map, length, Option, Some, None, option_map, Result, Ok, Err, cond, refl, ap, ◌∙◌, rules}
use Rattle.iio_text.specs.declared.refusals.Why.TheVariants.{Bystander}
use Rattle.iio_sensor.specs.Driver.{Driver}
use Rattle.iio_history.specs.Event.{Event}
use Rattle.iio_history.specs.Registry.{Setup}
use Rattle.iio_history.specs.Told.{Told, told}
use Rattle.iio_history.specs.Input.{is_overlong}
use Rattle.iio_history.specs.Outcome.{Head, head_of, only_ending, outcome_of, outcome_of_head}
use Rattle.iio_history.specs.Script.{Ending, Finished, Refused}
use Rattle.iio_history.specs.Numbered.{Numbered, step_of_numbered, numbered_from}
use Rattle.iio_history.specs.Transcript.{with_step, lines_of_step, with_steps}
use Rattle.iio_history.specs.Played.{state_after, step_lines}
use Rattle.iio_history.proofs.TranscriptLaws.{lines_are, state_is}
use Rattle.iio_worlds.specs.Bystanders.{only_bystanders}
use Rattle.iio_worlds.specs.Worlds.{is_others, transcript_kept, first_offence}
use Rattle.iio_worlds.specs.Solo.{first_offence_line, solo_of_steps, solo_of_script, solo_of_head, solo_outcome_of, kept_of_steps, kept_of_script, kept_of_head, kept_of, twice, keep, kept_from, as_ending, number_at}
use Rattle.iio_worlds.proofs.TwoWorldsLaws.{two_worlds, offence_is}
use Rattle.iio_worlds.proofs.StanceLaws.{step_decides}

-- ---- the offending step's line

at_next : (t : Numbered) (ts : List Numbered) (o : Option ℕ) → number_at (t ∷ ts) (option_map suc o) ≡ number_at ts o
at_next t ts o = search rules

line_is : (s : Setup) (a : List ℕ) (h : List Event) (ts : List Numbered)
    → first_offence_line s a h ts ≡ number_at ts (first_offence s a h (map step_of_numbered ts))
line_is s a h [] = refl
line_is s a h (t ∷ ts) = search (rules, with_step, number_at, at_next, line_is s a (with_step s h t.step) ts)

none_then : (s : Setup) (a : List ℕ) (h : List Event) (ts : List Numbered) → first_offence_line s a h ts ≡ None
    → first_offence s a h (map step_of_numbered ts) ≡ None
none_then s a h [] is = refl
none_then s a h (t ∷ ts) is = search (rules, with_step, none_then s a (with_step s h t.step) ts)

pub offence_line_is : (s : Setup) (a : List ℕ) (ts : List Numbered)
    → (first_offence_line s a [] ts ≡ number_at ts (first_offence s a [] (map step_of_numbered ts)))
    × (first_offence_line s a [] ts ≡ None → only_bystanders s a (with_steps s [] (map step_of_numbered ts)) ≡ true)
    × (only_bystanders s a (with_steps s [] (map step_of_numbered ts)) ≡ true → first_offence_line s a [] ts ≡ None)
offence_line_is s a ts = search (rules, line_is, offence_is, none_then, number_at)

-- ---- both texts are one

twice_steps : (s : Setup) (a : List ℕ) (ts : List Numbered) → solo_of_steps s a ts ≡ twice (kept_of_steps s a ts)
twice_steps s a ts = search (rules, twice, two_worlds, offence_line_is)

twice_script : (s : Setup) (a : List ℕ) (ts : List Numbered) (ending : Ending) → solo_of_script s a ts ending ≡ twice (kept_of_script s a ts ending)
twice_script s a ts ending = search (rules, twice_steps)

twice_head : (a : List ℕ) (drivers : List Driver) (overlong : Bool) (head : Head)
    → solo_of_head a drivers overlong head ≡ twice (kept_of_head a drivers overlong head)
twice_head a drivers overlong head = search (rules, twice_script, numbered_from)

pub solo_is_twice : (a : List ℕ) (drivers : List Driver) (input : List ℕ) → solo_outcome_of a drivers input ≡ twice (kept_of a drivers input)
solo_is_twice a drivers input = twice_head a drivers (is_overlong input) (head_of (length drivers) input)

-- ---- a run over the state that it carries keeps that text

kept_after : Setup → List ℕ → List Event → List Numbered → Result (List ℕ) Ending
kept_after s a h ts = elim (first_offence_line s a h ts) [
  | None ↦ Ok (transcript_kept s a h (map step_of_numbered ts))
  | Some line ↦ Err (Refused line Bystander)
]

before_more : (b : Bool) (text more : List ℕ) (o : Option ℕ) (r : Result (List ℕ) ℕ)
    → elim o [ None ↦ Ok more | Some line ↦ Err (Refused line Bystander) ] ≡ as_ending r
    → elim o [ None ↦ Ok (cond b [] text ++ more) | Some line ↦ Err (Refused line Bystander) ] ≡ as_ending (keep b text r)
before_more b text more o r is = search rules

run_after : (s : Setup) (a : List ℕ) (h : List Event) (ts : List Numbered) → only_bystanders s a h ≡ true
    → kept_after s a h ts ≡ as_ending (kept_from s a (told s h) ts)
unfolding kept_after
run_after s a h [] only = refl
run_after s a h (t ∷ ts) only =
    by_step (only_bystanders s a (with_step s h t.step)) refl (run_after s a (with_step s h t.step) ts)
    ∙ ap (λ b. as_ending (cond b (keep (is_others a t.step) (step_lines s (told s h) t.step) (kept_from s a (state_after s (told s h) t.step) ts))
    (Err t.number))) (step_decides s a h t.step only)
  where
    more : List ℕ
    more = transcript_kept s a (with_step s h t.step) (map step_of_numbered ts)

    by_step : (b : Bool) → only_bystanders s a (with_step s h t.step) ≡ b
        → (only_bystanders s a (with_step s h t.step) ≡ true
        → kept_after s a (with_step s h t.step) ts ≡ as_ending (kept_from s a (told s (with_step s h t.step)) ts))
        → elim (cond b (first_offence_line s a (with_step s h t.step) ts) (Some t.number)) [
          | None ↦ Ok (cond (is_others a t.step) [] (lines_of_step s h t.step) ++ more)
          | Some line ↦ Err (Refused line Bystander)
        ]
        ≡ as_ending (cond b (keep (is_others a t.step) (step_lines s (told s h) t.step) (kept_from s a (state_after s (told s h) t.step) ts)) (Err t.number))
    by_step false is rest = refl
    by_step true is rest =
        before_more (is_others a t.step) (lines_of_step s h t.step) more (first_offence_line s a (with_step s h t.step) ts)
        (kept_from s a (told s (with_step s h t.step)) ts) (rest is)
        ∙ ap (λ text. as_ending (keep (is_others a t.step) text (kept_from s a (told s (with_step s h t.step)) ts))) (lines_are s h t.step)
        ∙ ap (λ (m : Told). as_ending (keep (is_others a t.step) (step_lines s (told s h) t.step) (kept_from s a m ts))) (state_is s h t.step)

pub run_keeps : (s : Setup) (a : List ℕ) (ts : List Numbered) → kept_of_steps s a ts ≡ as_ending (kept_from s a (told s []) ts)
unfolding kept_after
run_keeps s a ts = run_after s a [] ts refl

-- ---- a bad line counts first

bad_head : (a : List ℕ) (drivers : List Driver) (overlong : Bool) (head : Head) → ((outcome_of_head drivers overlong head).ending ≡ Finished → ⊥)
    → solo_of_head a drivers overlong head ≡ only_ending (outcome_of_head drivers overlong head).ending
bad_head a drivers overlong head bad = search rules

pub bad_line_is_first : (a : List ℕ) (drivers : List Driver) (input : List ℕ) → ((outcome_of drivers input).ending ≡ Finished → ⊥)
    → solo_outcome_of a drivers input ≡ only_ending (outcome_of drivers input).ending
bad_line_is_first a drivers input bad = bad_head a drivers (is_overlong input) (head_of (length drivers) input) bad
