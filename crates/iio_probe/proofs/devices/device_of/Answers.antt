use Rattle.std.proofs.Common.{length, sym, subst}
use Rattle.std.specs.Prelude.{All}
use Rattle.iio_desc.specs.Description.{DeviceRecord}
use Rattle.iio_desc.specs.WellFormed.{IsWrite}
use Rattle.iio_probe.proofs.devices.device_of.Goals as goal

pub new-requires-3-clause-writes : goal.new-requires-3-clause-writes
new-requires-3-clause-writes g c = subst (λ (d : DeviceRecord). All (IsWrite (length d.shape.channels)) d.attrs) (sym c.desc.view_is) c.requires.writes
