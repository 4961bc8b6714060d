-- What each line of a device says, and the first check that fails if it is refused, in the order of the checks.
-- `words` are those after the line's first word. (This project's own.)
use Rattle.std.specs.Prelude.{ℕ, ◌+◌, ◌-◌, ◌^◌, ◌==◌, ◌&&◌, nat_lt, nat_le, Bool, true, false, not, ℤ, int_lt, pos, negsuc, List, [], ◌∷◌, ◌++◌, length, codes, Option, Some, None, is_none, option_map, option_and_then, Result, Ok, Err, slice_get, if◌then◌else◌}
use Rattle.std.specs.List.{list_any}
use Rattle.std.specs.Option.{ok_or, option_map_or}
use Rattle.std.specs.Result.{result_ok}
use Rattle.std.specs.Str.{bytes_eq}
use Rattle.iio_base.specs.Refusals.{ensure, ◌>>=◌, ◌>>◌}
use Rattle.iio_text.specs.declared.refusals.Why.{Why}
use Rattle.iio_text.specs.declared.refusals.Why.TheVariants.{Order, Count, Name, Taken, BadType, Mask, Moment, Number, Driver, Attr, Limit}
use Rattle.iio_text.specs.Words.{one_of, two_of, three_of}
use Rattle.iio_text.specs.Numbers.{int_of}
use Rattle.iio_attr.specs.declared.attributes.Scope.{Scope}
use Rattle.iio_attr.specs.declared.attributes.Scope.TheVariants as scope
use Rattle.iio_attr.specs.declared.values.Value.TheVariants as value
use Rattle.iio_attr.specs.Attributes.{find_of, is_writable, check_of}
use Rattle.iio_scan_type.specs.declared.Endian.{Endian}
use Rattle.iio_scan_type.specs.declared.Endian.TheVariants.{Big, Little}
use Rattle.iio_scan_type.specs.Format.{Format}
use Rattle.iio_scan_type.specs.Text.{type_of}
use Rattle.iio_mask.specs.Text.{mask_of}
use Rattle.iio_layout.specs.declared.shape.TheConstants.{MAX_CHANNELS}
use Rattle.iio_layout.specs.declared.channel.Kind.{Kind}
use Rattle.iio_layout.specs.declared.channel.Suffix.{Suffix}
use Rattle.iio_layout.specs.Id.{id_of, same_id}
use Rattle.iio_layout.specs.Shape.{id_at, channel_of}
use Rattle.iio_desc.specs.declared.limits.TheConstants.{MAX_MASKS, MAX_ROWS}
use Rattle.iio_desc.specs.Description.{DeviceRecord}
use Rattle.iio_desc.specs.PartialDevice.{PartialDevice, shape_of, row_width, channel_count, may_go_on, may_list, has_only_channels, may_drive}

-- a word that is `-`, or that is looked up
abbrev pub unless_dash : (List ℕ → Option ℕ) → List ℕ → Option (Option ℕ)
unless_dash find word = if bytes_eq word (codes "-") then Some None else option_map (λ n. Some n) (find word)

-- ---- channels

-- whether a channel has that ID
abbrev pub has_id : PartialDevice → Kind × Suffix → Bool
has_id device id = list_any (λ channel. same_id (id_at channel) id) device.channels

-- with another channel, of the device's direction
abbrev pub with_channel : PartialDevice → Kind × Suffix → Format → PartialDevice
with_channel device id format =
    record device { channels = device.channels ++ (record { kind = id.0; suffix = id.1; direction = device.direction; ty = format }) ∷ [] }

-- with another channel, if there may be another one
abbrev pub channel_added : PartialDevice → Kind × Suffix → Format → Result PartialDevice Why
channel_added device id format = do
  ensure (nat_lt (length device.channels) MAX_CHANNELS) Limit
  Ok (with_channel device id format)

-- `channel ID TYPE`
abbrev pub channel_line : PartialDevice → List (List ℕ) → Result PartialDevice Why
channel_line device words = do
  ensure (has_only_channels device) Order
  (id, format) ← ok_or (two_of words) Count
  id ← ok_or (id_of id) Name
  ensure (not (has_id device id)) Taken
  format ← ok_or (type_of format) BadType
  channel_added device id format

-- ---- the timestamp

-- the byte order that a word says
abbrev pub endian_of : List ℕ → Option Endian
endian_of word = if bytes_eq word (codes "le") then Some Little else if bytes_eq word (codes "be") then Some Big else None

-- the byte order that the words of a line say; without a word it is `le`
abbrev pub stamp_of : List (List ℕ) → Result Endian Why
stamp_of [] = Ok Little
stamp_of (word ∷ []) = ok_or (endian_of word) BadType
stamp_of (word ∷ other ∷ words) = Err Count

-- `timestamp`, `timestamp be` or `timestamp le`
abbrev pub stamp_line : PartialDevice → List (List ℕ) → Result PartialDevice Why
stamp_line device words = do
  ensure (may_go_on device && has_only_channels device) Order
  endian ← stamp_of words
  ensure (nat_lt (length device.channels) MAX_CHANNELS) Limit
  Ok (record device { stamp = Some endian })

-- ---- listed masks

-- a mask that can be listed: it has a data channel, and lacks the timestamp, whose bit is the highest
abbrev pub listable : ℕ → ℕ → Option ℕ
listable channels bits = if nat_lt 0 bits && nat_lt bits (2 ^ channels) then Some bits else None

-- the mask that a word says, of `channels` data channels, which are `count` channels with the timestamp
abbrev pub listed_of : ℕ → ℕ → List ℕ → Option ℕ
listed_of channels count word = option_and_then (λ bits. listable channels bits) (mask_of word count)

-- a value, and those that follow, if all of them are there
abbrev pub before : {A : Type 0} → Option A → Option (List A) → Option (List A)
before None others = None
before (Some x) others = option_map (λ xs. x ∷ xs) others

-- the masks that words say, if each says one
abbrev pub masks_of : ℕ → ℕ → List (List ℕ) → Option (List ℕ)
masks_of channels count [] = Some []
masks_of channels count (word ∷ words) = before (listed_of channels count word) (masks_of channels count words)

-- `masks H ..`
abbrev pub masks_line : PartialDevice → List (List ℕ) → Result PartialDevice Why
masks_line device words = do
  ensure (may_go_on device && may_list device) Order
  ensure (nat_lt 0 (length words)) Count
  masks ← ok_or (masks_of (length device.channels) (channel_count device) words) Mask
  ensure (nat_le (length masks) MAX_MASKS) Limit
  Ok (record device { listed = masks })

-- ---- rows

-- the integers that words say, if each says one
abbrev pub ints_of : List (List ℕ) → Option (List ℤ)
ints_of [] = Some []
ints_of (word ∷ words) = before (int_of word) (ints_of words)

-- whether a moment is after that of the row before, if any
abbrev pub rises : List ℤ → ℤ → Bool
rises moments t = option_map_or (λ last. int_lt last t) (slice_get moments (length moments - 1)) true

-- the moment of a row, and its values
abbrev pub row_of : List ℤ → List (List ℕ) → Result (ℤ × List ℤ) Why
row_of moments [] = Err Count
row_of moments (t ∷ vs) = do
  moment ← ok_or (int_of t) Number
  ensure (rises moments moment) Moment
  values ← ok_or (ints_of vs) Number
  Ok (moment, values)

-- the moment of a row, and its `width` values
abbrev pub counted_row : ℕ → List ℤ → List (List ℕ) → Result (ℤ × List ℤ) Why
counted_row width moments words = do
  ensure (length words == width + 1) Count
  row_of moments words

-- `row T v ..`; the devices before have `earlier` rows
abbrev pub row_line : ℕ → PartialDevice → List (List ℕ) → Result PartialDevice Why
row_line earlier device words = do
  ensure (may_go_on device && is_none device.driver) Order
  (moment, values) ← counted_row (row_width device) device.moments words
  ensure (nat_lt (earlier + length device.moments) MAX_ROWS) Limit
  Ok (record device { moments = device.moments ++ moment ∷ []; values = device.values ++ values })

-- ---- drivers

-- whether a device has the driver of that number
abbrev pub drives : ℕ → DeviceRecord → Bool
drives k device = option_map_or (λ driver. driver == k) device.driver false

-- whether driver `k` is one of `drivers` that are handed in, and no device above has it
abbrev pub is_free : ℕ → List DeviceRecord → ℕ → Bool
is_free drivers devices k = nat_lt k drivers && not (list_any (drives k) devices)

-- the number of such a driver
abbrev pub free_driver : ℕ → List DeviceRecord → ℤ → Option ℕ
free_driver drivers devices (pos k) = if is_free drivers devices k then Some k else None
free_driver drivers devices (negsuc k) = None

abbrev pub driver_of : ℕ → List DeviceRecord → List ℕ → Option ℕ
driver_of drivers devices word = option_and_then (λ k. free_driver drivers devices k) (int_of word)

-- `driver K`, of `drivers` handed-in drivers; `devices` are those before
abbrev pub driver_line : ℕ → List DeviceRecord → PartialDevice → List (List ℕ) → Result PartialDevice Why
driver_line drivers devices device words = do
  ensure (may_go_on device && may_drive device) Order
  word ← ok_or (one_of words) Count
  driver ← ok_or (driver_of drivers devices word) Driver
  Ok (record device { driver = Some driver })

-- ---- attributes

-- what an attribute belongs to: the device, or a channel
abbrev pub scope_at : Option ℕ → Scope
scope_at None = scope.Device
scope_at (Some channel) = scope.Channel

-- `attr CHANNEL NAME VALUE`, where CHANNEL is `-` for the device's own attributes
abbrev pub attr_line : PartialDevice → List (List ℕ) → Result PartialDevice Why
attr_line device words = do
  ensure (may_go_on device) Order
  (id, name, text) ← ok_or (three_of words) Count
  channel ← ok_or (unless_dash (channel_of (shape_of device)) id) Attr
  attr ← ok_or (find_of (scope_at channel) name) Attr
  ensure (is_writable attr) Attr
  number ← ok_or (result_ok (check_of attr text)) Attr
  Ok (record device { attrs = device.attrs ++ (record { channel = channel; attr = attr; value = value.Number number }) ∷ [] })
