-- The attributes that an `Iio` may be asked for.
use Rattle.std.specs.Prelude.{◌≡◌, ℕ, ◌<◌, true, length, Option, Some, None, Ok, List}
use Rattle.iio_text.specs.declared.values.Fixed.{Fixed}
use Rattle.iio_attr.specs.declared.attributes.Attr.{Attr}
use Rattle.iio_attr.specs.declared.attributes.Scope.TheVariants as scope
use Rattle.iio_attr.specs.Attributes.{row_of, is_writable, check_of}
use Rattle.iio_core.specs.Front.{Front, kind_at, shape_at}
use Rattle.iiod_commands.specs.Attributes.{has_attribute}

-- an attribute that the device has for a channel, or one of the device's own
abbrev pub MayRead : Front → ℕ → Option ℕ → Attr → Type 0
MayRead front dev None a = ((row_of a).scope ≡ scope.Device) × (has_attribute (kind_at front dev) a ≡ true)
MayRead front dev (Some c) a = (c < length (shape_at front dev).channels) × ((row_of a).scope ≡ scope.Channel) × (has_attribute (kind_at front dev) a ≡ true)

-- an attribute that can be written, and a value that a text gives for it
pub record MayWrite (front : Front) (dev : ℕ) (channel : Option ℕ) (a : Attr) (v : Fixed) : Type 0 where
  pub named : MayRead front dev channel a
  pub writable : is_writable a ≡ true
  pub text : List ℕ
  pub value : check_of a text ≡ Ok v
