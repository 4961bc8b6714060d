use Rattle.std.proofs.Common.{◌-◌, ◌/◌, ◌^◌, FitsSigned, w64, rules, ◌∙◌, ap}
use Rattle.std.proofs.lemmas.Int.{to_z-of_z, to_z_pos}
use Rattle.std.specs.Int.{int_shr}
use Rattle.iio_scan_type.specs.Format.{Format}
use Rattle.iio_scan_type.specs.View.{format_of}
use Rattle.iio_scan_type.specs.Bytes.{value_by}
use Rattle.iio_scan_type.proofs.Numbers.{high_signed, high_unsigned, high_unsigned_small}
use Rattle.iio_scan_type.proofs.ScanType.extended.Goals as goal

pub overflow_cast-result-in-Unsigned-2 : goal.overflow_cast-result-in-Unsigned-2
overflow_cast-result-in-Unsigned-2 c =
    record { sfits = high_unsigned_small (format_of c.self.inside) c.args.word c.self.invariant c.in-Unsigned.is c.ranges.word.fits }

pub returns-in-Signed : goal.returns-in-Signed
returns-in-Signed c =
    let f : Format = format_of c.self.inside in
    let fits : FitsSigned w64 c.cast_signed.result = search rules in
    let shifted : FitsSigned w64 (int_shr c.cast_signed.result (64 - f.realbits)) = search rules in
    simp to_z-of_z (ap (λ z. int_shr z (64 - f.realbits)) c.cast_signed.ensures ∙ high_signed f c.args.word c.self.invariant c.in-Signed.is c.ranges.word.fits
    ∙ ap (λ (g : Format). value_by g.sign g.realbits (c.args.word / 2 ^ (64 - g.realbits))) c.self.view_is)

pub returns-in-Unsigned : goal.returns-in-Unsigned
returns-in-Unsigned c =
    let f : Format = format_of c.self.inside in
    to_z_pos w64 _ (high_unsigned_small f c.args.word c.self.invariant c.in-Unsigned.is c.ranges.word.fits) ∙ high_unsigned f c.args.word c.in-Unsigned.is
    ∙ ap (λ (g : Format). value_by g.sign g.realbits (c.args.word / 2 ^ (64 - g.realbits))) c.self.view_is
