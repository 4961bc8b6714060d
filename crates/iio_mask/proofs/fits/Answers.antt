use Rattle.std.proofs.Common.{sym, ◌∙◌, arith}
use Rattle.std.proofs.lemmas.Bool.{le-leb, lt-ltb}
use Rattle.std.proofs.Math.Pow.{pow_mono}
use Rattle.iio_mask.proofs.fits.Goals as goal

pub returns-then-channels-ge64 : goal.returns-then-channels-ge64
returns-then-channels-ge64 c =
    let enough = pow_mono c.if-channels-ge64.true in
    le-leb 64 c.args.channels c.if-channels-ge64.true ∙ sym (lt-ltb c.args.bits _ (omega arith))
