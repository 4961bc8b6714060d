use Rattle.std.proofs.Common.{arith}
use Rattle.std.proofs.lemmas.Grind.{common_steps}
use Rattle.iio_desc.proofs.device_builder.read_masks.Goals as goal

pub loop-word-smaller : goal.loop-word-smaller
loop-word-smaller c = grind (arith, common_steps)
