use Rattle.std.proofs.Common.{◌<◌, length, sym, arith}
use Rattle.iio_layout.proofs.ActiveLemmas.{first_below, none_below}
use Rattle.iio_layout.proofs.active_mask.has_data.Goals as goal

pub returns-then-mask-eq0 : goal.returns-then-mask-eq0
returns-then-mask-eq0 c = rw c.if-mask-eq0.true (sym (none_below (length c.args.shape.now.channels)))

pub returns : goal.returns
returns c =
    let some : 0 < c.args.mask.bits = omega arith in
    rw c.inputs.ensures.value (first_below c.args.mask.bits (length c.args.shape.now.channels) some (omega arith))
