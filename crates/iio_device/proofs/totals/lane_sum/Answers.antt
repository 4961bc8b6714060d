use Rattle.std.proofs.Common.{take_all, ap, ◌∙◌, arith}
use Rattle.iio_device.proofs.LaneLemmas.{added, added-sum}
use Rattle.iio_device.proofs.totals.lane_sum.Goals as goal

pub returns : goal.returns
returns c =
    let bytes = c.args.bytes.now in
    ap (λ bs. added 0 bs) (take_all 64 bytes (omega (arith, c.requires))) ∙ added-sum 0 bytes c.type_inv.bytes (omega (arith, c.requires))
