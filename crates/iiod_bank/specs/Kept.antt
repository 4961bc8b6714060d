-- A device of a hub, as its jobs leave it.
use Rattle.std.specs.Prelude.{◌≡◌}
use Rattle.iio_device.specs.Device.{DeviceView}
use Rattle.iio_kfifo.specs.Ends.{WriterEnd}

-- what no job changes of a device
pub record Kept (a b : DeviceView WriterEnd) : Type 0 where
  pub name : b.name ≡ a.name
  pub number : b.number ≡ a.number
  pub shape : b.standing.shape ≡ a.standing.shape
