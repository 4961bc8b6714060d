use Rattle.std.proofs.Common.{sym, ◌∙◌, arith}
use Rattle.std.proofs.lemmas.Bool.{le-ltb}
use Rattle.iio_mask.proofs.PlaceLemmas.{has-above}
use Rattle.iio_mask.proofs.has.Goals as goal

pub returns-else-c-lt64 : goal.returns-else-c-lt64
returns-else-c-lt64 c =
    le-ltb c.args.c 64 c.if-c-lt64.false ∙ sym (has-above c.args.bits c.args.c (omega arith) c.if-c-lt64.false)
