-- What holds if nothing was refused.
use Rattle.std.proofs.Common.{◌≡◌, ℕ, List, Bool, true, false, not, Option, Some, option_map, Result, Ok, refl, ap}
use Rattle.std.specs.Prelude.{codes, bytes_eq, ⊤}
use Rattle.iio_base.specs.Refusals.{ensure}
use Rattle.iio_text.specs.declared.refusals.Why.{Why}
use Rattle.iio_desc.specs.DeviceLines.{unless_dash}

-- a check that was passed holds
pub ensured : (b : Bool) (why : Why) (r : Result ⊤ Why) (u : ⊤) → r ≡ ensure b why → r ≡ Ok u → b ≡ true
ensured true why r u is ok = refl
ensured false why r u is ok = cc

pub is_false : (b : Bool) → not b ≡ true → b ≡ false
is_false true h = cc
is_false false h = refl

-- a word other than `-` is looked up
pub looked_up : (find : List ℕ → Option ℕ) (word : List ℕ) (o : Option ℕ) → bytes_eq word (codes "-") ≡ false → o ≡ find word
    → option_map (λ n. Some n) o ≡ unless_dash find word
looked_up find word o other found = rw other (ap (option_map (λ n. Some n)) found)
