-- Biases that are kept in a list, as a function of the channel.
use Rattle.std.proofs.Common.{◌≡◌, ℕ, ◌<◌, List, length, set, replicate, inl, inr, arith, ℤ, pos}
use mathlib.Core.Path.{fun_ext}
use Rattle.std.proofs.lemmas.Bool.{cases_eq, cases_lt, eq-eqb, ne_eqb}
use Rattle.std.proofs.lemmas.List.{get_or_past, get_or-replicate, get_or-set_other, get_or-set_same, length-replicate}
use Rattle.iio_sensor.specs.Driver.{bias_in, with_one}
use Rattle.iio_sensor.specs.declared.sensor.TheConstants.{MAX_BIASES}

-- no bias
pub bias_none : ◌≡◌ {A = ℕ → ℤ} (bias_in (replicate MAX_BIASES (pos 0))) (λ c. pos 0)
bias_none = fun_ext (λ c. elim (cases_lt c MAX_BIASES) [
  | inl within ↦ get_or-replicate MAX_BIASES c (pos 0) (pos 0) within
  | inr past ↦ get_or_past (replicate MAX_BIASES (pos 0)) c (pos 0) (let many = length-replicate {A = ℤ} MAX_BIASES (pos 0) in omega (arith, many))
])

-- one bias is set
pub bias_set : (biases : List ℤ) (c : ℕ) (v : ℤ) → c < length biases → ◌≡◌ {A = ℕ → ℤ} (bias_in (set biases c v)) (with_one (bias_in biases) c v)
bias_set biases c v within = fun_ext (λ k. elim (cases_eq k c) [
  | inl same ↦ let is = eq-eqb k c same in rw (is, same) (get_or-set_same biases c v (pos 0) within)
  | inr other ↦ let is = ne_eqb k c other in rw is (get_or-set_other biases c k v (pos 0) other)
])
