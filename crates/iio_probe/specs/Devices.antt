-- The devices of a description, before anything is done with them. (Kernel, driver-api: a device begins with its driver's
-- probe, with what the firmware's description says of it. Recorded rows and handed-in drivers are this project's own.)
use Rattle.std.specs.Prelude.{ℕ, suc, ◌<◌, List, [], ◌∷◌, length, replicate, slice_index_or, All, Option, None, Some, unwrap_or, slice_get, slice_set, IfSome, pos}
use Rattle.std.specs.Option.{option_map_or}
use Rattle.iio_layout.specs.Rows.{IsRecording}
use Rattle.iio_layout.specs.Shape.{RowsRecord}
use Rattle.iio_sensor.specs.declared.sensor.TheConstants.{MAX_BIASES}
use Rattle.iio_sensor.specs.Driver.{Driver}
use Rattle.iio_sensor.specs.Recorded.{driver_of}
use Rattle.iio_desc.specs.Description.{DeviceRecord}
use Rattle.iio_desc.specs.WellFormed.{IsWrite}
use Rattle.iio_desc.specs.declared.limits.TheConstants.{MAX_TRIGGERS}
use Rattle.iio_device.specs.Device.{DeviceView, new_view}
use Rattle.iio_device.specs.Site.{no_driver}

-- the driver that recorded rows make
abbrev pub recorded : RowsRecord → Driver
recorded rows = driver_of (record { rows = rows; biases = replicate MAX_BIASES (pos 0); asked = 0; last = None })

-- what a device samples: the driver of its driver's number among those that are handed in, or its recorded rows
abbrev pub first_driver : List Driver → DeviceRecord → Driver
first_driver drivers d = option_map_or (λ k. slice_index_or drivers k no_driver) d.driver (recorded d.rows)

-- new devices, numbered from `number` on
abbrev pub first_devices : {Q : Type 0} → List Driver → ℕ → List DeviceRecord → List (DeviceView Q)
first_devices drivers number [] = []
first_devices drivers number (d ∷ ds) = new_view d number (first_driver drivers d) ∷ first_devices drivers (suc number) ds

-- a device that can be made if `drivers` drivers are handed in: its trigger, if it has one, is of a possible number, its
-- driver, if it has one, is one of the drivers, its rows can be played back, and its attributes can be written
pub record IsFit (drivers : ℕ) (d : DeviceRecord) : Type 0 where
  pub attached : IfSome d.trigger (λ t. t < MAX_TRIGGERS)
  pub driven : IfSome d.driver (λ k. k < drivers)
  pub recording : IsRecording d.rows
  pub writes : All (IsWrite (length d.shape.channels)) d.attrs

-- ---- for this crate's private functions alone

module _ {B : Type 0} where
  -- what is in the slot of that number, if there is one
  abbrev pub slot_in : Option ℕ → List (Option B) → Option B
  slot_in None slots = None
  slot_in (Some k) slots = unwrap_or (slice_get slots k) None

  -- the slots after that was taken
  abbrev pub slots_left : Option ℕ → List (Option B) → List (Option B)
  slots_left None slots = slots
  slots_left (Some k) slots = slice_set slots k None

  -- the driver of what was taken, or of the rows
  abbrev pub driver_from : (B → Driver) → Option B → RowsRecord → Driver
  driver_from given slot rows = option_map_or given slot (recorded rows)
