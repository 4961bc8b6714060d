-- An averaging device and its base. (This project's own.)
use Rattle.std.specs.Prelude.{◌≡◌, ℕ, ◌-◌, ◌^◌, ◌<◌, ◌≤◌, not, true, false, List, length, Some, slice_get}
use Rattle.std.specs.Option.{option_map_or}
use Rattle.iio_layout.specs.Shape.{ShapeRecord}
use Rattle.iio_desc.specs.Description.{DeviceHead, no_shape, shape_of_means}
use Rattle.iio_desc.specs.Kind.{Kind, Input, Average, is_average}
use Rattle.iio_device.specs.Site.{is_empty}
use Rattle.iio_core.specs.Machine.{Station, station_in}
use Rattle.iio_kinds.specs.Places.{is_hosted}
use Rattle.iio_kinds.specs.Inner.{has_inner}

-- the kind and the shape of a device, as a front has them
abbrev pub kind_in : List DeviceHead → ℕ → Kind
kind_in heads dev = option_map_or (λ (d : DeviceHead). d.kind) (slice_get heads dev) Input

abbrev pub shape_in : List DeviceHead → ℕ → ShapeRecord
shape_in heads dev = option_map_or (λ (d : DeviceHead). d.shape) (slice_get heads dev) no_shape

-- a device that an averaging device of that shape can be over: an input device before number `first`
pub record IsBase (first : ℕ) (heads : List DeviceHead) (means : ShapeRecord) (base : ℕ) : Type 0 where
  pub before : base < first
  pub input : kind_in heads base ≡ Input
  pub shape : means ≡ shape_of_means (Some (shape_in heads base))

-- the devices from number `first` on are averaging ones, those before it aren't, and each averaging device has its base
pub record HasBases (first : ℕ) (heads : List DeviceHead) : Type 0 where
  pub within : first ≤ length heads
  pub others : (dev : ℕ) → dev < first → is_average (kind_in heads dev) ≡ false
  pub averages : (dev : ℕ) → first ≤ dev → dev < length heads → is_average (kind_in heads dev) ≡ true
  pub bases : (j base window : ℕ) → kind_in heads j ≡ Average base window → IsBase first heads (shape_in heads j) base

-- averaging device j is plugged exactly if its base is, has its inner member there while it has a member, and has made no more
-- means than its base captures, which can be counted
pub record HasInner (j : ℕ) (base st : Station) : Type 0 where
  pub plugged : st.site.plugged ≡ base.site.plugged
  pub inner : has_inner j base ≡ not (is_empty st.members)
  pub fewer : st.captures ≤ base.captures
  pub most : base.captures ≤ 2 ^ 64 - 1

-- each device has one of the triggers or, without a member, none; for an averaging device its base has it
pub record IsAveraged (triggers first : ℕ) (heads : List DeviceHead) (stations : List Station) : Type 0 where
  pub bases : HasBases first heads
  pub hosted : (dev : ℕ) → is_average (kind_in heads dev) ≡ false → is_hosted triggers (station_in stations dev) ≡ true
  pub inners : (j base window : ℕ) → kind_in heads j ≡ Average base window → HasInner j (station_in stations base) (station_in stations j)
