use Rattle.std.proofs.Common.{arith}
use Rattle.std.proofs.lemmas.Grind.{common_steps}
use Rattle.iio_desc.proofs.desc_builder.DescBuilder.average_line.Goals as goal

pub read_base-requires : goal.read_base-requires
read_base-requires c = grind (arith, common_steps)
