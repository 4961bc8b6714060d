use Rattle.std.proofs.Common.{rules, sym, ap, ◌∙◌}
use Rattle.iio_mask.specs.Mask.{union_of}
use Rattle.iio_device.proofs.MaskLemmas.{union_more}
use Rattle.iio_device.proofs.members.union_mask.Goals as goal

pub loop-member-preserved : goal.loop-member-preserved
loop-member-preserved g c =
    c.union-union.ensures.value ∙ ap (λ u. union_of c.member-item.result.mask.bits u) c.loop-member.invariant
    ∙ sym (union_more c.args.members.now c.loop-member.member-index c.member-item.result (search rules) (search rules))
