use Rattle.std.proofs.Common.{◌≡◌, FitsSigned, w64, rules, sym, ◌∙◌, ap, subst, to_z, of_z}
use Rattle.std.proofs.lemmas.Bool.{eqb-true}
use Rattle.std.proofs.lemmas.Int.{to_z-of_z}
use Rattle.iio_scan_type.specs.Format.{Format, IsInProfile}
use Rattle.iio_scan_type.proofs.Elements.{extended_in_range}
use Rattle.iio_scan_type.proofs.ScanType.carries.Goals as goal

pub returns-clause-profile : goal.returns-clause-profile
returns-clause-profile c = subst (λ (f : Format). IsInProfile f) c.self.view_is c.self.invariant

pub returns-clause-range : goal.returns-clause-range
returns-clause-range c = λ test.
    let f : Format = c.args.self.now in
    let profile = subst (λ (g : Format). IsInProfile g) c.self.view_is c.self.invariant in
    let fits : FitsSigned w64 c.extended.result = search rules in
    let same : to_z w64 (of_z w64 c.extended.result) ≡ to_z w64 (of_z w64 c.args.value) = ap (to_z w64) (eqb-true _ _ test) in
    let is : c.extended.result ≡ c.args.value = sym (to_z-of_z w64 c.extended.result fits) ∙ same ∙ to_z-of_z w64 c.args.value c.ranges.value in
    extended_in_range f _ c.args.value profile (search rules) (sym c.extended.ensures ∙ is)
