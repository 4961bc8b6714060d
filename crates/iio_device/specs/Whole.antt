-- What holds of a device's parts besides its members. No public clause cites this file: the type keeps it.
use Rattle.std.specs.Prelude.{◌≡◌, ℕ, ◌≤◌, ◌<◌, ◌||◌, true, List, length, Option, IfSome, is_some}
use Rattle.iio_desc.specs.declared.limits.TheConstants.{MAX_TRIGGERS}
use Rattle.iio_device.specs.declared.membership.Membership.{Membership}
use Rattle.iio_device.specs.declared.stored.Stored.{Stored}
use Rattle.iio_device.specs.Site.{is_empty}

-- each attachment began with a joining; there are values for each channel; the trigger's number is below the largest number of
-- triggers that a description can have; a device with a member has a trigger
pub record IsWhole (channels attachments next : ℕ) (trigger : Option ℕ) {Q : Type 0} (members : List (Membership Q)) (stored : Stored) : Type 0 where
  pub attachment : attachments ≤ next
  pub values : length stored.values.items ≡ channels
  pub below : IfSome trigger (λ t. t < MAX_TRIGGERS)
  pub hosted : (is_some trigger || is_empty members) ≡ true
