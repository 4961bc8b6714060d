-- A description as its lines so far say.
use Rattle.std.specs.Prelude.{ℕ, ◌+◌, ◌||◌, Bool, true, false, List, [], ◌∷◌, ◌++◌, length, sum_by, Option, Some, None}
use Rattle.std.specs.List.{list_any}
use Rattle.std.specs.Option.{option_map_or}
use Rattle.std.specs.Str.{bytes_eq}
use Rattle.iio_desc.specs.declared.description.TriggerDesc.{TriggerDesc}
use Rattle.iio_layout.specs.declared.channel.Direction.{Direction}
use Rattle.iio_layout.specs.declared.channel.Direction.TheVariants.{Input, Output}
use Rattle.iio_desc.specs.Description.{AverageRecord, DeviceRecord, OutputRecord}
use Rattle.iio_desc.specs.PartialDevice.{PartialDevice, device_of, has_channels, output_of}

-- how many drivers are handed in, the context, the triggers so far, the devices and the output devices that have no further
-- line, the averaging devices, which have none besides their own, and the device whose lines are being read
pub record PartialDesc : Type 0 where
  pub drivers : ℕ
  pub context : Option (List ℕ)
  pub triggers : List TriggerDesc
  pub devices : List DeviceRecord
  pub outputs : List OutputRecord
  pub averages : List AverageRecord
  pub current : Option PartialDevice

-- before the first line
abbrev pub new_desc : ℕ → PartialDesc
new_desc drivers = record { drivers = drivers; context = None; triggers = []; devices = []; outputs = []; averages = []; current = None }

-- a device by the direction of its channels
abbrev pub device_by : Direction → PartialDevice → List DeviceRecord
device_by Input device = device_of device ∷ []
device_by Output device = []

abbrev pub output_by : Direction → PartialDevice → List OutputRecord
output_by Input device = []
output_by Output device = output_of device ∷ []

abbrev pub devices_of : Option PartialDevice → List DeviceRecord
devices_of None = []
devices_of (Some device) = device_by device.direction device

abbrev pub outputs_of : Option PartialDevice → List OutputRecord
outputs_of None = []
outputs_of (Some device) = output_by device.direction device

-- the devices, the one whose lines are being read among them
abbrev pub all_devices : PartialDesc → List DeviceRecord
all_devices desc = desc.devices ++ devices_of desc.current

-- the output devices, with that one
abbrev pub all_outputs : PartialDesc → List OutputRecord
all_outputs desc = desc.outputs ++ outputs_of desc.current

-- how many devices there are so far
abbrev pub device_count : PartialDesc → ℕ
device_count desc = length (all_devices desc) + length (all_outputs desc) + length desc.averages

-- the number of rows of the devices that have no further line
abbrev pub earlier_rows : PartialDesc → ℕ
earlier_rows desc = sum_by (λ device. length device.rows.moments) desc.devices

abbrev pub is_current_named : Option PartialDevice → List ℕ → Bool
is_current_named current name = option_map_or (λ device. bytes_eq device.name name) current false

-- triggers and devices share one set of names
abbrev pub is_taken : PartialDesc → List ℕ → Bool
is_taken desc name =
    list_any (λ t. bytes_eq t.name name) desc.triggers
    || list_any (λ d. bytes_eq d.name name) desc.devices
    || list_any (λ (x : OutputRecord). bytes_eq x.name name) desc.outputs
    || list_any (λ (x : AverageRecord). bytes_eq x.name name) desc.averages
    || is_current_named desc.current name

-- whether the device whose lines are being read, if any, has a channel
abbrev pub is_current_whole : Option PartialDevice → Bool
is_current_whole current = option_map_or has_channels current true
