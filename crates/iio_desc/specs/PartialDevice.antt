-- A device as its lines so far say.
use Rattle.std.specs.Prelude.{ℕ, ◌==◌, ◌&&◌, nat_lt, Bool, ℤ, List, [], length, is_none, Option, None}
use Rattle.iio_scan_type.specs.declared.Endian.{Endian}
use Rattle.iio_layout.specs.declared.channel.Channel.{Channel}
use Rattle.iio_layout.specs.declared.channel.Direction.{Direction}
use Rattle.iio_layout.specs.declared.channel.Direction.TheVariants.{Input}
use Rattle.iio_layout.specs.Shape.{ShapeRecord, same_direction, width_of, count_of}
use Rattle.iio_desc.specs.declared.description.AttrDesc.{AttrDesc}
use Rattle.iio_desc.specs.Description.{DeviceRecord, OutputRecord}

-- the direction is that of its channels: `Output` if its own line was `output`
pub record PartialDevice : Type 0 where
  pub direction : Direction
  pub name : List ℕ
  pub trigger : Option ℕ
  pub channels : List Channel
  pub stamp : Option Endian
  pub listed : List ℕ
  pub moments : List ℤ
  pub values : List ℤ
  pub driver : Option ℕ
  pub attrs : List AttrDesc

-- a device of which only its own line was read
abbrev pub new_device : Direction → List ℕ → Option ℕ → PartialDevice
new_device direction name trigger =
    record {
      direction = direction;
      name = name;
      trigger = trigger;
      channels = [];
      stamp = None;
      listed = [];
      moments = [];
      values = [];
      driver = None;
      attrs =
          [];
    }

-- the shape that it has so far
abbrev pub shape_of : PartialDevice → ShapeRecord
shape_of device = record { channels = device.channels; stamp = device.stamp; listed = device.listed }

-- how many values a row has
abbrev pub row_width : PartialDevice → ℕ
row_width device = width_of (shape_of device)

-- how many channels there are, with the timestamp
abbrev pub channel_count : PartialDevice → ℕ
channel_count device = count_of (shape_of device)

-- the device, if no further line of it follows
abbrev pub device_of : PartialDevice → DeviceRecord
device_of device = record {
  name = device.name;
  trigger = device.trigger;
  shape = shape_of device;
  rows = record { moments = device.moments; values = device.values; width = row_width device };
  driver = device.driver;
  attrs = device.attrs;
}

-- the output device, if no further line of it follows: it has channels alone
abbrev pub output_of : PartialDevice → OutputRecord
output_of device = record { name = device.name; trigger = device.trigger; shape = record { channels = device.channels; stamp = None; listed = [] } }

-- ---- which lines may stand next

-- whether it has a channel
abbrev pub has_channels : PartialDevice → Bool
has_channels device = nat_lt 0 (length device.channels)

-- whether lines other than channels may follow: never for an output device
abbrev pub may_go_on : PartialDevice → Bool
may_go_on device = same_direction device.direction Input && has_channels device

-- whether it has no masks, row, driver or attr line yet
abbrev pub may_list : PartialDevice → Bool
may_list device = length device.listed == 0 && length device.moments == 0 && is_none device.driver && length device.attrs == 0

-- whether its only lines so far are channels
abbrev pub has_only_channels : PartialDevice → Bool
has_only_channels device = is_none device.stamp && may_list device

-- whether it has no row and no driver line yet
abbrev pub may_drive : PartialDevice → Bool
may_drive device = length device.moments == 0 && is_none device.driver
