use Rattle.std.proofs.Common.{arith}
use Rattle.std.proofs.lemmas.Fmt.{decimal_is_IsNumeral}
use Rattle.std.proofs.lemmas.Str.{IsCharBoundary-from_ascii}
use Rattle.iio_text.proofs.decimals.push_behind_first.Goals as goal

pub range_from-requires : goal.range_from-requires
range_from-requires c some =
    let numeral = decimal_is_IsNumeral c.args.number (omega (arith, c.ranges.number.fits)) in
    IsCharBoundary-from_ascii c.format.result.now 1 c.format.ensures.ascii (rw c.format.ensures.text numeral.0.0)
