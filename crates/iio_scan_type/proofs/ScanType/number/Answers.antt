use Rattle.std.proofs.Common.{◌*◌, ◌^◌, ◌<◌, ◌∙◌, ap, subst}
use Rattle.std.proofs.lemmas.Int.{to_z-of_z}
use Rattle.iio_scan_type.specs.Bytes.{low_bits}
use Rattle.iio_scan_type.specs.Format.{Format}
use Rattle.iio_scan_type.specs.View.{format_of}
use Rattle.iio_scan_type.proofs.Numbers.{number_put}
use Rattle.iio_scan_type.proofs.Elements.{number_below}
use Rattle.iio_scan_type.proofs.ScanType.number.Goals as goal

value : goal.returns-clause-value
value c =
    let f : Format = format_of c.self.inside in
    let fits = c.ranges.value in
    let word = simp to_z-of_z at c.cast_unsigned.ensures in
    number_put f c.args.value _ c.self.invariant fits word ∙ ap (λ (g : Format). low_bits g.realbits c.args.value * 2 ^ g.shift) c.self.view_is

pub returns-clause-value : goal.returns-clause-value
returns-clause-value c = value c

pub returns-clause-below : goal.returns-clause-below
returns-clause-below c =
    let f : Format = format_of c.self.inside in
    let below = number_below f c.args.value c.self.invariant in
    rw (value c) (subst (λ (g : Format). low_bits g.realbits c.args.value * 2 ^ g.shift < 2 ^ g.storagebits) c.self.view_is below)
