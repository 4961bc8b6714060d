-- What happens to several devices of a bench at once. Only this crate's private functions cite this file.
use Rattle.std.specs.Prelude.{◌≡◌, ℕ, ◌<◌, ◌==◌, ◌&&◌, not, Bool, true, false, All, List, [], length, map, slice_get, Option, Some, if◌then◌else◌}
use Rattle.std.specs.Option.{option_map_or}
use Rattle.iio_layout.specs.Layout.{scan_size}
use Rattle.iio_layout.specs.Shape.{ShapeRecord}
use Rattle.iio_desc.specs.Kind.{Kind, Average, is_over, is_unplugged_by}
use Rattle.iio_derive.specs.Window.{full_mask}
use Rattle.iio_sensor.specs.Driver.{Driver}
use Rattle.iio_device.specs.declared.plug.Plug.{Plug}
use Rattle.iio_device.specs.Site.{is_empty, unplugged}
use Rattle.iio_core.specs.Machine.{Station, with_site}
use Rattle.iio_core.specs.Moves.{Capture, station_after_gathering}
use Rattle.iio_device.specs.declared.handling.Handled.TheVariants.{Captured}
use Rattle.iio_kinds.specs.declared.any_device.AnyDevice.{AnyDevice}
use Rattle.iio_core.specs.declared.became.Became.{Became}
use Rattle.iio_core.specs.declared.became.Became.TheVariants.{Asked}
use Rattle.iio_bench.specs.Averages.{HasBases}
use Rattle.iio_kinds.specs.Handling.{IsScanOf, is_last}
use Rattle.iio_kinds.specs.Station.{KeepsFront, any_front, any_station, full_scan_by}

-- each device has changed as `R` says, by its number
pub record Together {D : Type 0} (R : ℕ → D → D → Type 0) (old new : List D) : Type 0 where
  pub same : length new ≡ length old
  pub each : (i : ℕ) (d d' : D) → slice_get old i ≡ Some d → slice_get new i ≡ Some d' → R i d d'

-- ---- a capture

-- whether a device of a kind is over that base and has a member
abbrev pub gathers : (base : ℕ) → Kind → Station → Bool
gathers base kind st = is_over kind base && not (is_empty st.members)

-- a device of a kind after another capture of that base
abbrev pub with_capture : (base : ℕ) → Capture → Kind → ShapeRecord → Station → Station
with_capture base c (Average b window) shape st = if base == b then station_after_gathering window shape (Some c) st else st
with_capture base c kind shape st = st

-- the scan of all channels that is kept at a device
abbrev pub scan_at : {X : Type 0} {V : X → Type 0} → (base : ℕ) → List (AnyDevice X V) → List ℕ
scan_at base devices = option_map_or full_scan_by (slice_get devices base) []

-- `P` holds if the handling of an entry made a capture
abbrev pub OnCapture : Option Became → Type 0 → Type 0
OnCapture (Some (Asked (Captured members))) P = P
OnCapture became P = Unit {0}

module _ {X : Type 0} {V : X → Type 0} (driver : Plug X V → Driver) where
  -- the device can take the scan
  pub record CanTake (scan : List ℕ) (d : AnyDevice X V) : Type 0 where
    pub size : length scan ≡ scan_size (any_front d).shape (full_mask (any_front d).shape)
    pub fewer : is_last (any_station driver d).captures ≡ false

  abbrev pub IsReady : (base : ℕ) → (scan : List ℕ) → AnyDevice X V → Type 0
  IsReady base scan d = gathers base (any_front d).kind (any_station driver d) ≡ true → CanTake scan d

  -- the device took the scan, if it had to
  pub record IsGathered (base : ℕ) (scan : List ℕ) (old new : AnyDevice X V) : Type 0 where
    pub keeps : KeepsFront old new
    pub station : (c : Capture) → (gathers base (any_front old).kind (any_station driver old) ≡ true → IsScanOf (any_front old).shape c scan)
        → any_station driver new ≡ with_capture base c (any_front old).kind (any_front old).shape (any_station driver old)

  -- each device did
  abbrev pub AreGathered : (base : ℕ) → (scan : List ℕ) → (old new : List (AnyDevice X V)) → Type 0
  AreGathered base scan old new = Together (λ i d d'. IsGathered base scan d d') old new

  -- all devices over a base can take the scan that is kept there
  pub record CanGather (first base : ℕ) (devices : List (AnyDevice X V)) : Type 0 where
    pub before : base < first
    pub bases : HasBases first (map any_front devices)
    pub ready : All (IsReady base (scan_at base devices)) devices

  -- the devices after the handling of an entry of a base
  abbrev pub AfterEntry : Option Became → (base : ℕ) → (old new : List (AnyDevice X V)) → Type 0
  AfterEntry (Some (Asked (Captured members))) base old new = AreGathered base (scan_at base old) old new
  AfterEntry became base old new = new ≡ old

  -- ---- an unplugging

  pub record IsUnplugged (dev i : ℕ) (old new : AnyDevice X V) : Type 0 where
    pub keeps : KeepsFront old new
    pub station : any_station driver new
        ≡ (if is_unplugged_by (any_front old).kind dev i then with_site unplugged (any_station driver old) else any_station driver old)

  abbrev pub AreUnplugged : (dev : ℕ) → (old new : List (AnyDevice X V)) → Type 0
  AreUnplugged dev old new = Together (IsUnplugged dev) old new
