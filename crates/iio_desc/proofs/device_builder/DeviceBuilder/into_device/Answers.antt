use Rattle.std.proofs.Common.{arith}
use Rattle.std.proofs.lemmas.Grind.{common_steps}
use Rattle.iio_desc.proofs.device_builder.DeviceBuilder.into_device.Goals as goal

pub unwrap-requires : goal.unwrap-requires
unwrap-requires c = grind (arith, common_steps)
