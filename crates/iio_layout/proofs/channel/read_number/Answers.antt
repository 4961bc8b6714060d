use Rattle.std.proofs.Common.{sym, ◌∙◌, arith}
use Rattle.std.proofs.lemmas.List.{drop_all}
use Rattle.iio_layout.proofs.IdLemmas.{number_overflows, number_there}
use Rattle.iio_layout.proofs.channel.read_number.Goals as goal

pub returns-in_err-checked_mul : goal.returns-in_err-checked_mul
returns-in_err-checked_mul c =
    let over = c.in_err-checked_mul.ensures in
    c.from_residual.ensures
    ∙ number_overflows c.args.text.now c.loop-digit.digit-index c.loop-digit.value c.loop-digit-test.true
    (sym c.is_ascii_digit.ensures.value ∙ c.if-not-is_ascii_digit.false) c.loop-digit.invariant.value (omega arith)

pub returns-in_err-value : goal.returns-in_err-value
returns-in_err-value c =
    let over = c.in_err-value.ensures in
    let ten = c.in_ok-checked_mul.ensures in
    let digit = c.from.ensures in
    c.from_residual-in_err-value.ensures
    ∙ number_overflows c.args.text.now c.loop-digit.digit-index c.loop-digit.value c.loop-digit-test.true
    (sym c.is_ascii_digit.ensures.value ∙ c.if-not-is_ascii_digit.false) c.loop-digit.invariant.value (omega arith)

pub returns : goal.returns
returns c =
    let passed = drop_all c.loop-digit.digit-index c.args.text.now c.loop-digit-test.false in
    let value = rw passed at c.loop-digit.invariant.value in
    let digits = rw passed at c.loop-digit.invariant.digits in
    number_there c.args.text.now c.loop-digit.value (sym c.starts_number.ensures ∙ c.if-not-starts_number.false) (sym digits) value c.loop-digit.invariant.small
