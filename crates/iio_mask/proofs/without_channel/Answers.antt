use Rattle.std.proofs.Common.{sym, ◌∙◌, arith}
use Rattle.iio_mask.proofs.PlaceLemmas.{has-lt}
use Rattle.iio_mask.proofs.without_channel.Goals as goal

pub overflow_shl-result : goal.overflow_shl-result
overflow_shl-result c = has-lt c.args.bits c.args.c (omega arith) (sym c.has.ensures ∙ c.if-has.true)
