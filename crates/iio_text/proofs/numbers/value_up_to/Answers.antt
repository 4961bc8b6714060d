use Rattle.std.proofs.Common.{sym, ◌∙◌}
use Rattle.iio_text.proofs.NumberLemmas.{digits_value_after-past, no_digits, value_up_to-no_digits, value_up_to-past}
use Rattle.iio_text.proofs.numbers.value_up_to.Goals as goal

pub returns-then-not-is_ascii_digit : goal.returns-then-not-is_ascii_digit
returns-then-not-is_ascii_digit c =
    let e = sym c.is_ascii_digit.ensures.value ∙ c.if-not-is_ascii_digit.true in
    sym (value_up_to-no_digits c.args.limit c.args.text.now (c.loop-byte.invariant.digits ∙ no_digits _ c.loop-byte.byte-index c.loop-byte-test.true e))

pub returns-then-value-most : goal.returns-then-value-most
returns-then-value-most c =
    let past = digits_value_after-past c.args.limit c.loop-byte.value c.args.text.now c.loop-byte.byte-index c.loop-byte-test.true c.if-value-most.true in
    sym (value_up_to-past c.args.limit c.args.text.now (rw c.loop-byte.invariant.value past))
