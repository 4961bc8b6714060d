-- What contracts see of a shape's fields.
use Rattle.std.specs.Prelude.{◌≡◌, ◌↔◌, ℕ, ◌<◌, IsTrue, List, get_or, map, length, slice_index}
use Rattle.iio_layout.specs.declared.channel.Channel.{Channel}
use Rattle.iio_layout.specs.declared.channel.Suffix.TheVariants.{Number}
use Rattle.iio_layout.specs.declared.shape.Shape.TheInside.{Inside}
use Rattle.iio_layout.specs.declared.shape.TheConstants.{MAX_CHANNELS}
use Rattle.iio_layout.specs.Shape.{ShapeRecord, IsShape, formats_of, width_of}
use Rattle.iio_layout.specs.Scan.{first_value}

abbrev pub record_of : Inside → ShapeRecord
record_of a = record { channels = a.channels.items; stamp = a.stamp; listed = map (λ mask. mask.bits) a.listed.items }

-- the suffix of each channel is its place as a number
abbrev pub AreNumbered : List Channel → Type 0
AreNumbered channels = (c : ℕ) (d : Channel) → c < length channels → (get_or channels c d).suffix ≡ Number c

-- each shape is one that `new` accepts; it keeps where each channel's values begin, how many there are in all, and whether the
-- suffix of each channel is its place as a number
pub record IsSound (a : Inside) : Type 0 where
  pub shape : IsShape (record_of a)
  pub starts : (c : ℕ) → c < length a.channels.items → slice_index a.starts c ≡ first_value (formats_of (record_of a)) c
  pub room : length a.starts ≡ MAX_CHANNELS
  pub width : a.width ≡ width_of (record_of a)
  pub numbered : IsTrue a.numbered ↔ AreNumbered a.channels.items
