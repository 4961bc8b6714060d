-- What contracts see of the fields of the builders. No public clause cites this file.
use Rattle.std.specs.Prelude.{◌≡◌, ℕ, ◌+◌, ◌*◌, ◌^◌, ◌<◌, ◌≤◌, true, false, length, map, All, AllPairs, IfSome, option_map, List}
use Rattle.iio_scan_type.specs.declared.TheConstants.{MAX_CHANNEL_SIZE}
use Rattle.iio_layout.specs.declared.shape.TheConstants.{MAX_CHANNELS}
use Rattle.iio_layout.specs.Rows.{Rises}
use Rattle.iio_layout.specs.Shape.{same_channel, stamp_formats}
use Rattle.iio_desc.specs.declared.limits.TheConstants.{MAX_TRIGGERS, MAX_DEVICES, MAX_ROWS}
use Rattle.iio_desc.specs.declared.device_builder.DeviceBuilder.TheInside.{Inside as DeviceInside}
use Rattle.iio_desc.specs.declared.desc_builder.DescBuilder.TheInside.{Inside}
use Rattle.iio_desc.specs.Description.{DeviceRecord}
use Rattle.iio_desc.specs.DeviceLines.{is_free}
use Rattle.iio_desc.specs.PartialDesc.{PartialDesc, device_count, earlier_rows}
use Rattle.iio_desc.specs.PartialDevice.{PartialDevice, row_width}
use Rattle.iio_desc.specs.WellFormed.{HasPlaces, IsWrite, IsWellFormedAverage, IsWellFormedDevice, IsWellFormedOutput, share_driver}

abbrev pub partial_device : DeviceInside → PartialDevice
partial_device b = record {
  direction = b.direction;
  name = b.name;
  trigger = b.trigger;
  channels = b.channels.items;
  stamp = b.stamp;
  listed = map (λ mask. mask.bits) b.listed.items;
  moments = b.moments.items;
  values = b.values.items;
  driver = b.driver;
  attrs = b.attrs.items;
}

-- the width is kept, the channels and masks are those of a shape, the rows rise and are whole, and the attributes can
-- be written
pub record IsSoundDevice (b : DeviceInside) : Type 0 where
  pub width : b.width ≡ row_width (partial_device b)
  pub narrow : b.width ≤ MAX_CHANNEL_SIZE * length b.channels.items
  pub few : length b.channels.items + length (stamp_formats b.stamp) ≤ MAX_CHANNELS
  pub distinct : AllPairs (λ a c. same_channel a c ≡ false) b.channels.items
  pub listed : All (λ bits. (0 < bits) × (bits < 2 ^ length b.channels.items)) (map (λ mask. mask.bits) b.listed.items)
  pub rises : Rises b.moments.items
  pub whole : length b.values.items ≡ length b.moments.items * row_width (partial_device b)
  pub writes : All (IsWrite (length b.channels.items)) b.attrs.items

abbrev pub partial_desc : Inside → PartialDesc
partial_desc b = record {
  drivers = b.drivers;
  context = option_map (λ context. context.items) b.context;
  triggers = b.triggers.items;
  devices = b.devices.items;
  outputs = b.outputs.items;
  averages = b.averages.items;
  current = b.current;
}

-- the device whose lines are being read: it is on one of the triggers or on none; its driver, if any, is handed in
-- and no device before has it; and its rows and those of the devices before are no more than there may be
pub record FitsCurrent (triggers drivers earlier : ℕ) (devices : List DeviceRecord) (device : PartialDevice) : Type 0 where
  pub attached : IfSome device.trigger (λ t. t < triggers)
  pub driven : IfSome device.driver (λ k. is_free drivers devices k ≡ true)
  pub rows : earlier + length device.moments ≤ MAX_ROWS

-- there are no more triggers, devices and rows than there may be, each is well formed, and rows are counted
pub record IsSound (b : Inside) : Type 0 where
  pub triggers : length b.triggers.items ≤ MAX_TRIGGERS
  pub places : All HasPlaces b.triggers.items
  pub devices : device_count (partial_desc b) ≤ MAX_DEVICES
  pub sound : All (IsWellFormedDevice (length b.triggers.items) b.drivers) b.devices.items
  pub outputs : All (IsWellFormedOutput (length b.triggers.items)) b.outputs.items
  pub averages : All (IsWellFormedAverage (length b.devices.items)) b.averages.items
  pub apart : AllPairs (λ v u. share_driver v u ≡ false) b.devices.items
  pub earlier : b.earlier ≡ earlier_rows (partial_desc b)
  pub rows : b.earlier ≤ MAX_ROWS
  pub current : IfSome b.current (FitsCurrent (length b.triggers.items) b.drivers b.earlier b.devices.items)

-- what a device keeps at the lines that are neither its rows nor its driver
pub record KeepsPlace (old new : PartialDevice) : Type 0 where
  pub trigger : new.trigger ≡ old.trigger
  pub driver : new.driver ≡ old.driver
  pub moments : new.moments ≡ old.moments
