-- What each description has.
use Rattle.std.specs.Prelude.{◌≡◌, ℕ, ◌+◌, ◌<◌, ◌≤◌, Bool, true, false, [], length, All, AllPairs, IfSome, None}
use Rattle.std.specs.Option.{option_map_or}
use Rattle.iio_layout.specs.Shape.{width_of}
use Rattle.iio_layout.specs.Rows.{IsRecording}
use Rattle.iio_attr.specs.Attributes.{is_writable}
use Rattle.iio_desc.specs.declared.description.TriggerDesc.{TriggerDesc}
use Rattle.iio_desc.specs.declared.description.AttrDesc.{AttrDesc}
use Rattle.iio_trigger.specs.declared.limits.TheConstants.{MAX_PLACES}
use Rattle.iio_desc.specs.declared.limits.TheConstants.{MAX_TRIGGERS, MAX_DEVICES, MAX_WINDOW}
use Rattle.iio_desc.specs.Description.{AverageRecord, DeviceRecord, Description, OutputRecord}
use Rattle.iio_desc.specs.DeviceLines.{drives}

-- a trigger serves 1 to 8 devices
abbrev pub HasPlaces : TriggerDesc → Type 0
HasPlaces t = (0 < t.places) × (t.places ≤ MAX_PLACES)

-- a write to an attribute of the device, or of one of its `channels` channels
pub record IsWrite (channels : ℕ) (a : AttrDesc) : Type 0 where
  pub channel : IfSome a.channel (λ c. c < channels)
  pub writable : is_writable a.attr ≡ true

-- a device, with `triggers` triggers and `drivers` handed-in drivers: it has a channel, it is on one of the triggers or on
-- none, it has one of the drivers or none, its rows can be played back and are as wide as its channels, and its attributes
-- can be written
pub record IsWellFormedDevice (triggers drivers : ℕ) (device : DeviceRecord) : Type 0 where
  pub some : 0 < length device.shape.channels
  pub attached : IfSome device.trigger (λ t. t < triggers)
  pub driven : IfSome device.driver (λ k. k < drivers)
  pub recording : IsRecording device.rows
  pub width : device.rows.width ≡ width_of device.shape
  pub writes : All (IsWrite (length device.shape.channels)) device.attrs

-- an output device among that many triggers: it has channels alone, and is on one of the triggers or on none
pub record IsWellFormedOutput (triggers : ℕ) (device : OutputRecord) : Type 0 where
  pub some : 0 < length device.shape.channels
  pub unstamped : device.shape.stamp ≡ None
  pub unlisted : device.shape.listed ≡ []
  pub attached : IfSome device.trigger (λ t. t < triggers)

-- an averaging device over one of that many devices
pub record IsWellFormedAverage (devices : ℕ) (device : AverageRecord) : Type 0 where
  pub over : device.base < devices
  pub some : 2 ≤ device.window
  pub bounded : device.window ≤ MAX_WINDOW

-- whether two devices have one driver
abbrev pub share_driver : DeviceRecord → DeviceRecord → Bool
share_driver a b = option_map_or (λ k. drives k a) b.driver false

-- no more triggers and devices of all kinds than there may be, each well formed, and no two devices with one driver
pub record IsWellFormed (drivers : ℕ) (desc : Description) : Type 0 where
  pub triggers : length desc.triggers ≤ MAX_TRIGGERS
  pub devices : length desc.devices + length desc.outputs + length desc.averages ≤ MAX_DEVICES
  pub places : All HasPlaces desc.triggers
  pub sound : All (IsWellFormedDevice (length desc.triggers) drivers) desc.devices
  pub apart : AllPairs (λ a b. share_driver a b ≡ false) desc.devices
  pub outputs : All (IsWellFormedOutput (length desc.triggers)) desc.outputs
  pub averages : All (IsWellFormedAverage (length desc.devices)) desc.averages
