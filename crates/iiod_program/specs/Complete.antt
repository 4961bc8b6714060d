-- Every input is answered to its end. (This project's own.)
use Rattle.std.specs.Prelude.{List, ℕ, Option}
use Rattle.iio_history.specs.Outcome.{Outcome}
use Rattle.iio_script.specs.declared.status.Status.{Status}
use Rattle.iio_script.specs.declared.status.Status.TheVariants.{Memory}
use Rattle.iio_script.specs.Ends.{WritesWhole}

-- the whole text of an outcome was written, and the status is the outcome's, unless memory ran out
abbrev pub Completes : Outcome → (before : List ℕ) → Status → Option (List ℕ) → Type 0
Completes outcome before Memory after = Unit {0}
Completes outcome before status after = WritesWhole before outcome status after
