use Rattle.std.proofs.Common.{rules, ◌≡◌, ◌==◌, true, false, sym, ap, ◌∙◌, arith}
use Rattle.iio_mask.specs.Mask.{union_of}
use Rattle.iio_mask.specs.declared.Mask.{Mask}
use Rattle.iio_device.proofs.RemaskLemmas.{others_more, others_same}
use Rattle.iio_device.proofs.members.union_of_others.Goals as goal
use Rattle.iio_device.proofs.members.union_of_others.Goals.{then-member-number, else-member-number}

pub loop-member-preserved : goal.loop-member-preserved
loop-member-preserved g c = elim c.if-member-number.branch [
  | then-member-number w ↦
      let other : (c.member-item.result.number == c.args.number) ≡ false = grind (arith, w.if-member-number.true) in
      ap (λ (m : Mask). m.bits) w.union-is ∙ w.union-union.ensures.value ∙ ap (λ u. union_of c.member-item.result.mask.bits u) c.loop-member.invariant
      ∙ sym (others_more c.args.members.now c.args.number c.loop-member.member-index c.member-item.result (search rules) (search rules) other)
  | else-member-number w ↦
      let own : (c.member-item.result.number == c.args.number) ≡ true = grind (arith, w.if-member-number.false) in
      ap (λ (m : Mask). m.bits) w.union-is ∙ c.loop-member.invariant
      ∙ sym (others_same c.args.members.now c.args.number c.loop-member.member-index c.member-item.result (search rules) (search rules) own)
]
