use Rattle.std.proofs.Common.{◌≡◌, ℤ, ◌+ℤ◌, FitsSigned, w64, rules, ◌∙◌, ap, sym, subst}
use Rattle.std.proofs.lemmas.Int.{to_z-of_z}
use Rattle.std.specs.Int.{int_max, int_min, saturate_signed}
use Rattle.iio_scan_type.specs.Format.{Format, IsInRange, saturated}
use Rattle.iio_scan_type.proofs.Numbers.{saturated_first, saturated_within}
use Rattle.iio_scan_type.proofs.ScanType.saturating_sum.Goals as goal

pub returns-then-carries-clause-value : goal.returns-then-carries-clause-value
returns-then-carries-clause-value c =
    let f : Format = c.args.self.now in
    let z : ℤ = c.args.value +ℤ c.args.bias in
    let sum : ℤ = c.saturating_add-sum.result in
    let fits : FitsSigned w64 sum = search rules in
    let fits_v = c.ranges.value in
    let fits_b = c.ranges.bias in
    let is : sum ≡ saturate_signed w64 z = simp to_z-of_z at c.saturating_add-sum.ensures in
    let range = subst (λ v. IsInRange f v) (to_z-of_z w64 sum fits) (c.carries.ensures.range c.if-carries.true) in
    to_z-of_z w64 sum fits ∙ sym (saturated_within f sum range) ∙ ap (saturated f) is ∙ saturated_first f z c.carries.ensures.profile

pub returns-clause-value : goal.returns-clause-value
returns-clause-value c =
    let f : Format = c.args.self.now in
    let z : ℤ = c.args.value +ℤ c.args.bias in
    let sum : ℤ = c.saturating_add-sum.result in
    let l : ℤ = c.range-least.result.0 in
    let g : ℤ = c.range-least.result.1 in
    let fits : FitsSigned w64 sum = search rules in
    let fits_l : FitsSigned w64 l = search rules in
    let fits_g : FitsSigned w64 g = search rules in
    let fits_r : FitsSigned w64 c.clamp.result = search rules in
    let fits_v = c.ranges.value in
    let fits_b = c.ranges.bias in
    let is : sum ≡ saturate_signed w64 z = simp to_z-of_z at c.saturating_add-sum.ensures in
    let clamped : c.clamp.result ≡ int_max l (int_min sum g) = simp to_z-of_z at c.clamp.ensures.value in
    to_z-of_z w64 c.clamp.result fits_r ∙ clamped
    ∙ rw (c.range-least.ensures.least, c.range-least.ensures.greatest) (ap (saturated f) is ∙ saturated_first f z c.carries.ensures.profile)
