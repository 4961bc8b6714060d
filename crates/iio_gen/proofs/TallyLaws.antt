-- What `tally` returns for the input of a number.
use Rattle.std.proofs.Common.{◌≡◌, ℕ, ◌≤◌, List, [], length, Ok, Err, ap, ◌∙◌, subst, sym}
use Rattle.iio_text.specs.declared.refusals.Why.{Why}
use Rattle.iio_history.specs.Input.{input_limit}
use Rattle.iio_history.specs.Outcome.{outcome_of}
use Rattle.iio_history.specs.Script.{Ending, Finished}
use Rattle.iio_history.specs.Script as ending
use Rattle.iio_kinds.specs.declared.tally.Tally.{Tally}
use Rattle.iio_system.specs.Tally.{tally_of}
use Rattle.iio_script.specs.declared.stop.Stop.{Stop}
use Rattle.iio_script.specs.declared.stop.Stop.TheVariants.{Refused}
use Rattle.iio_script.specs.Tallies.{Tallies, summary_of_input}
use Rattle.iio_gen.specs.Input.{made}
use Rattle.iio_gen.proofs.MadeLaws.{made_finishes, made_is_playable}

pub short_by : (n : ℕ) (text : List ℕ) → text ≡ made n → length text ≤ input_limit
short_by n text is = subst (λ (t : List ℕ). length t ≤ input_limit) (sym is) (made_is_playable n 0).short

pub counted_by : (n : ℕ) (text : List ℕ) (counted : Tally) → text ≡ made n → Tallies text (Ok counted) → counted ≡ tally_of (summary_of_input [] (made n))
counted_by n text counted is (finished, tallied) = tallied ∙ ap (λ (t : List ℕ). tally_of (summary_of_input [] t)) is

not_refused : (e : Ending) (line : ℕ) (why : Why) → e ≡ Finished → e ≡ ending.Refused line why → ⊥
not_refused e line why finished refused = absurd (cc)

pub never_refused : (n : ℕ) (text : List ℕ) (stop : Stop) (line : ℕ) (why : Why) → text ≡ made n → Tallies text (Err stop) → stop ≡ Refused line why → ⊥
never_refused n text stop line why is tallied refused =
    let stopped : (outcome_of [] text).ending ≡ ending.Refused line why = subst (λ (s : Stop). Tallies text (Err s)) refused tallied in
    not_refused (outcome_of [] text).ending line why (ap (λ (t : List ℕ). (outcome_of [] t).ending) is ∙ made_finishes n []) stopped
