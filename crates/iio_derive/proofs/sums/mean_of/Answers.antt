use Rattle.std.proofs.Common.{◌≡◌, ◌≤◌, ◌<ℤ◌, FitsSigned, ap, subst, sym, ◌∙◌, w64, pos, to_z, of_z, ℤ, ℕ, arith}
use Rattle.std.specs.Int.{w128}
use Rattle.std.specs.Prelude.{int_div}
use Rattle.std.proofs.lemmas.Int.{ints, quot_fits, quot_is, to_z-of_z}
use Rattle.iio_derive.proofs.SumLemmas.{mean_fits}
use Rattle.iio_derive.proofs.sums.mean_of.Goals as goal

-- the quotient as the code computes it
quotient : (size : ℕ) (sum : ℤ) → 1 ≤ size → size ≤ 1000 → FitsSigned w128 sum
    → to_z w128 (of_z w128 (int_div (to_z w128 (of_z w128 sum)) (to_z w128 (of_z w128 (pos size))))) ≡ int_div sum (pos size)
quotient size sum some few fits =
    let more : pos 0 <ℤ pos size = omega (arith, ints) in
    let divisor : FitsSigned w128 (pos size) = omega (arith, ints) in
    quot_is w128 sum (pos size) fits divisor (quot_fits w128 sum (pos size) fits more)

pub overflow_cast-result : goal.overflow_cast-result
overflow_cast-result c =
    let whole = quotient c.args.size c.args.sum c.requires.some c.requires.few c.ranges.sum in
    rw c.from.ensures (subst (λ (z : ℤ). FitsSigned w64 z) (sym whole) (mean_fits c.args.size c.args.sum c.requires.some c.requires.sum))

pub returns : goal.returns
returns c =
    let whole = quotient c.args.size c.args.sum c.requires.some c.requires.few c.ranges.sum in
    let fits = mean_fits c.args.size c.args.sum c.requires.some c.requires.sum in
    rw c.from.ensures (ap (λ (z : ℤ). to_z w64 (of_z w64 z)) whole ∙ to_z-of_z w64 (int_div c.args.sum (pos c.args.size)) fits)
