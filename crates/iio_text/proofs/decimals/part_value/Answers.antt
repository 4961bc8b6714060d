use Rattle.std.proofs.Common.{◌*◌, ◌+◌, ap, sym, ◌∙◌, arith}
use Rattle.std.proofs.lemmas.Grind.{common_steps}
use Rattle.iio_text.proofs.FixedLemmas.{small_power, part_more}
use Rattle.iio_text.proofs.decimals.part_value.Goals as goal

pub overflow_mul-value : goal.overflow_mul-value
overflow_mul-value c = omega (arith, small_power c.loop-i.i (omega arith))

pub overflow_add-value : goal.overflow_add-value
overflow_add-value c = omega (arith, small_power c.loop-i.i (omega arith))

pub loop-i-preserved : goal.loop-i-preserved
loop-i-preserved c = record {
  value =
      ap (λ n. n * 10 + c.digit_at.result) c.loop-i.invariant.value
      ∙ sym (part_more c.args.digits.now c.args.places c.loop-i.i c.digit_at.result c.loop-i-test.true c.digit_at.ensures.here c.digit_at.ensures.past);
  within = grind (arith, common_steps);
}
