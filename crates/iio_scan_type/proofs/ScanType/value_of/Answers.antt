use Rattle.std.proofs.Common.{◌-◌, ◌*◌, ◌/◌, ◌%◌, ◌^◌, FitsSigned, w64, rules, sym, ◌∙◌, ap}
use Rattle.std.proofs.lemmas.Int.{to_z-of_z}
use Rattle.iio_scan_type.specs.Format.{Format}
use Rattle.iio_scan_type.specs.View.{format_of}
use Rattle.iio_scan_type.specs.Bytes.{value_by, value_in}
use Rattle.iio_scan_type.proofs.Numbers.{number_field}
use Rattle.iio_scan_type.proofs.ScanType.value_of.Goals as goal

pub returns : goal.returns
returns c =
    let f : Format = format_of c.self.inside in
    let n = c.args.number in
    let fits : FitsSigned w64 c.extended.result = search rules in
    to_z-of_z w64 c.extended.result fits ∙ c.extended.ensures
    ∙ ap (λ (g : Format). value_by g.sign g.realbits ((n * 2 ^ (64 - f.realbits - f.shift)) % 2 ^ 64 / 2 ^ (64 - g.realbits))) (sym c.self.view_is)
    ∙ ap (value_by f.sign f.realbits) (number_field f n c.self.invariant) ∙ ap (λ (g : Format). value_in g n) c.self.view_is
