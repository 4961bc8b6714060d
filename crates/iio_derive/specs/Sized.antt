-- What always holds of a member. Cited by the model and by private functions alone.
use Rattle.std.specs.Prelude.{◌≡◌, ◌*◌, ◌^◌, ◌<◌, ◌≤◌}
use Rattle.iio_scan_type.specs.declared.TheConstants.{MAX_CHANNEL_SIZE}
use Rattle.iio_layout.specs.Layout.{scan_size}
use Rattle.iio_layout.specs.Shape.{ShapeRecord, count_of}
use Rattle.iio_derive.specs.declared.members.Membership.{Membership}

-- a member's queue has scans under its mask
pub record IsSized (shape : ShapeRecord) (m : Membership) : Type 0 where
  pub below : m.mask.bits < 2 ^ count_of shape
  pub size : m.queue.size ≡ scan_size shape m.mask.bits
  pub few : m.queue.size ≤ MAX_CHANNEL_SIZE * count_of shape
