-- What a device's channels are: the shape that scans, masks and values follow.
use Rattle.std.specs.Prelude.{◌≡◌, ℕ, ◌^◌, ◌<◌, ◌≤◌, ◌&&◌, Bool, true, false, List, [], ◌∷◌, ◌++◌, length, map, sum_by, Option, Some, None, option_and_then, slice_get, codes, All, AllPairs, position, ℤ}
use Rattle.iio_scan_type.specs.declared.Endian.{Endian}
use Rattle.iio_scan_type.specs.Format.{Format, stamp_format}
use Rattle.iio_layout.specs.declared.channel.Kind.{Kind}
use Rattle.iio_layout.specs.declared.channel.Suffix.{Suffix}
use Rattle.iio_layout.specs.declared.channel.Direction.{Direction}
use Rattle.iio_layout.specs.declared.channel.Direction.TheVariants.{Input, Output}
use Rattle.iio_layout.specs.declared.channel.Channel.{Channel}
use Rattle.iio_layout.specs.declared.shape.TheConstants.{MAX_CHANNELS}
use Rattle.iio_layout.specs.Id.{id_of, id_text, same_id}

-- a device's channels in the order of their numbers; the byte order of its timestamp, which is the last channel,
-- if it has one; and the masks that its sensor can be asked under, if they are listed
pub record ShapeRecord : Type 0 where
  pub channels : List Channel
  pub stamp : Option Endian
  pub listed : List ℕ

-- recorded values: a moment for each row, the rows' values one after another, and how many a row has
pub record RowsRecord : Type 0 where
  pub moments : List ℤ
  pub values : List ℤ
  pub width : ℕ

-- the timestamp's type (kernel: `IIO_CHAN_SOFT_TIMESTAMP`)
abbrev pub stamp_formats : Option Endian → List Format
stamp_formats None = []
stamp_formats (Some endian) = stamp_format endian ∷ []

-- the types of all channels, the timestamp's last
abbrev pub formats_of : ShapeRecord → List Format
formats_of shape = map (λ channel. channel.ty) shape.channels ++ stamp_formats shape.stamp

-- how many channels there are, with the timestamp
abbrev pub count_of : ShapeRecord → ℕ
count_of shape = length (formats_of shape)

-- how many values a capture has, without the moment
abbrev pub width_of : ShapeRecord → ℕ
width_of shape = sum_by (λ channel. channel.ty.repeat) shape.channels

-- the ID of a channel
abbrev pub id_at : Channel → Kind × Suffix
id_at channel = (channel.kind, channel.suffix)

-- the number of the first channel of that ID
abbrev pub channel_with : ShapeRecord → Kind × Suffix → Option ℕ
channel_with shape id = position (λ channel. same_id (id_at channel) id) shape.channels

-- the number of the first channel whose ID a text spells
abbrev pub channel_of : ShapeRecord → List ℕ → Option ℕ
channel_of shape text = option_and_then (λ id. channel_with shape id) (id_of text)

-- ---- which shapes there are

-- whether values come from the device in both cases, or go to it in both
abbrev pub same_direction : Direction → Direction → Bool
same_direction Input Input = true
same_direction Input Output = false
same_direction Output Input = false
same_direction Output Output = true

-- whether two channels have the same kind, suffix and direction
abbrev pub same_channel : Channel → Channel → Bool
same_channel a b = same_id (id_at a) (id_at b) && same_direction a.direction b.direction

-- there is a channel, there are at most 64, with the timestamp, no two are the same, and each listed mask has a
-- channel and neither the timestamp's bit nor one above it (this project's own limits)
pub record IsShape (shape : ShapeRecord) : Type 0 where
  pub some : 0 < length shape.channels
  pub few : count_of shape ≤ MAX_CHANNELS
  pub distinct : AllPairs (λ a b. same_channel a b ≡ false) shape.channels
  pub listed : All (λ mask. (0 < mask) × (mask < 2 ^ length shape.channels)) shape.listed

-- the ID of a data channel, or else the timestamp's
abbrev pub name_of : Option Channel → List ℕ
name_of (Some channel) = id_text channel.kind channel.suffix
name_of None = codes "timestamp"

-- the ID of channel c; after the data channels it is the timestamp's
abbrev pub channel_name : ShapeRecord → ℕ → List ℕ
channel_name shape c = name_of (slice_get shape.channels c)
