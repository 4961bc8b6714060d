-- Each input that a number makes is played to its end.
use Rattle.std.proofs.Common.{◌≡◌, ℕ, ◌≤◌, false, List, [], ◌++◌, length, refl, sym, ap, ◌∙◌, arith, append-nil}
use Rattle.std.proofs.lemmas.Bool.{le-ltb}
use Rattle.std.proofs.lemmas.List.{length-append}
use Rattle.iio_sensor.specs.Driver.{Driver}
use Rattle.iio_text.specs.Lines.{lines_of}
use Rattle.iio_desc.specs.DescReader.{new_reader}
use Rattle.iio_history.specs.Input.{input_limit, is_overlong}
use Rattle.iio_history.specs.Outcome.{head_from, head_of, last_ending, outcome_of, outcome_of_head}
use Rattle.iio_history.specs.Script.{Finished, Script, script_from}
use Rattle.iio_gen.specs.Input.{description, several, step_line}
use Rattle.iio_gen.specs.Law.{IsPlayable, MadeFinishes, MadeIsPlayable}
use Rattle.iio_gen.proofs.DescriptionLaws.{Opens, opens}
use Rattle.iio_gen.proofs.Several.{by_each}
use Rattle.iio_gen.proofs.StepLaws.{Plays, behind, plays_none, step_more}

not_overlong : (input : List ℕ) → length input ≤ input_limit → is_overlong input ≡ false
not_overlong input h = le-ltb input_limit (length input) h

-- such an input is looked at in full
head_whole : (drivers : ℕ) (input : List ℕ) → length input ≤ input_limit → head_of drivers input ≡ head_from false (new_reader drivers) 1 (lines_of input)
head_whole drivers input h = rw (not_overlong input h) refl

playable_by : (drivers count : ℕ) (front steps : List ℕ) (o : Opens drivers front) → Plays o.desc o.first count steps → count ≤ 20000
    → IsPlayable drivers count (front ++ steps)
playable_by drivers count front steps o p few =
    let short : length (front ++ steps) ≤ input_limit = let a = o.short in let b = p.short in omega (arith, length-append front steps) in
    let script : script_from o.desc Finished [] o.first (lines_of steps) ≡ behind p.steps (record { steps = []; ending = Finished }) =
    ap (λ t. script_from o.desc Finished [] o.first (lines_of t)) (sym (append-nil steps)) ∙ p.plays [] in record {
      desc = o.desc;
      first = o.first;
      lines = lines_of steps;
      described = head_whole drivers (front ++ steps) short ∙ o.head steps;
      finished = ap (λ (s : Script). s.ending) script;
      count = ap (λ (s : Script). length s.steps) script ∙ ap length (append-nil p.steps) ∙ p.counted;
      short = short;
    }

pub made_is_playable : MadeIsPlayable
made_is_playable n drivers =
    let o = opens drivers n in
    let x = (description n).1 in
    playable_by drivers 20000 (description n).0 (several step_line 20000 x).0 o
    (by_each step_line (Plays o.desc o.first) 20000 [] (plays_none o.desc o.first) (step_more o.desc o.first o.triggers) 20000 x (omega arith)) (omega arith)

finishes_by : (drivers : List Driver) (steps : ℕ) (input : List ℕ) → IsPlayable (length drivers) steps input → (outcome_of drivers input).ending ≡ Finished
finishes_by drivers steps input p =
    ap (λ h. (outcome_of_head drivers (is_overlong input) h).ending) p.described
    ∙ ap (λ b. (script_from p.desc (last_ending b) [] p.first p.lines).ending) (not_overlong input p.short)
    ∙ p.finished

pub made_finishes : MadeFinishes
made_finishes n drivers = finishes_by drivers 20000 _ (made_is_playable n (length drivers))
