use Rattle.std.proofs.Common.{◌≡◌, pos, ap, ◌∙◌, sym, rules, w64, FitsSigned, to_z}
use Rattle.std.proofs.lemmas.Int.{to_z-of_z}
use Rattle.iio_scan_type.proofs.Numbers.{saturate_zero}
use Rattle.iio_scan_type.proofs.saturating_add.Goals as goal

pub returns-then-bias-eq0 : goal.returns-then-bias-eq0
returns-then-bias-eq0 c =
    let none : c.args.bias ≡ pos 0 = sym (to_z-of_z w64 c.args.bias c.ranges.bias) ∙ ap (to_z w64) c.if-bias-eq0.true in
    to_z-of_z w64 c.args.value c.ranges.value ∙ saturate_zero c.args.value c.args.bias c.ranges.value none

pub returns : goal.returns
returns c =
    let fits : FitsSigned w64 c.saturating_add.result = search rules in
    let fits_v = c.ranges.value in
    let fits_b = c.ranges.bias in
    to_z-of_z w64 c.saturating_add.result fits ∙ (simp to_z-of_z at c.saturating_add.ensures)
