-- What no call of an `Iio` changes: the context, the triggers, and the names, kinds and shapes of the devices.
use Rattle.std.specs.Prelude.{ℕ, List, [], Option, position, slice_get}
use Rattle.std.specs.Option.{option_map_or}
use Rattle.std.specs.Str.{bytes_eq}
use Rattle.iio_layout.specs.Shape.{ShapeRecord, count_of}
use Rattle.iio_layout.specs.Layout.{scan_size}
use Rattle.iio_desc.specs.Description.{Description, DeviceHead, heads_of, no_shape, trigger_number}
use Rattle.iio_desc.specs.Kind.{Kind, Input}
use Rattle.iio_desc.specs.declared.description.TriggerDesc.{TriggerDesc}

pub record Front : Type 0 where
  pub context : List ℕ
  pub triggers : List TriggerDesc
  pub devices : List DeviceHead

-- the front of a description
abbrev pub first_front : Description → Front
first_front desc = record { context = desc.context; triggers = desc.triggers; devices = heads_of desc }

-- the number of the device, or of the trigger, of that name
unfoldable pub find_device : Front → List ℕ → Option ℕ
find_device front name = position (λ (d : DeviceHead). bytes_eq d.name name) front.devices

unfoldable pub find_trigger : Front → List ℕ → Option ℕ
find_trigger front name = trigger_number front.triggers name

-- the name of the device, or of the trigger, of that number
unfoldable pub device_name : Front → ℕ → List ℕ
device_name front dev = option_map_or (λ (d : DeviceHead). d.name) (slice_get front.devices dev) []

unfoldable pub trigger_name : Front → ℕ → List ℕ
trigger_name front trigger = option_map_or (λ (t : TriggerDesc). t.name) (slice_get front.triggers trigger) []

-- the number of devices that the trigger of that number can serve at once
abbrev pub place_count : Front → ℕ → ℕ
place_count front trigger = option_map_or (λ (t : TriggerDesc). t.places) (slice_get front.triggers trigger) 0

unfoldable pub shape_at : Front → ℕ → ShapeRecord
shape_at front dev = option_map_or (λ (d : DeviceHead). d.shape) (slice_get front.devices dev) no_shape

unfoldable pub kind_at : Front → ℕ → Kind
kind_at front dev = option_map_or (λ (d : DeviceHead). d.kind) (slice_get front.devices dev) Input

-- the number of channels of a device, with the timestamp
abbrev pub channel_count : Front → ℕ → ℕ
channel_count front dev = count_of (shape_at front dev)

-- the size in bytes of a scan of a device under a mask
abbrev pub size_at : Front → ℕ → ℕ → ℕ
size_at front dev mask = scan_size (shape_at front dev) mask
