-- What is kept at a device besides the plain state when an entry of it is handled: the scan that it is given, the scan that its
-- inner members take, and how many captures it has made.
use Rattle.std.specs.Prelude.{◌≡◌, ℕ, ℤ, ◌+◌, ◌-◌, ◌^◌, ◌==◌, Bool, true, List, Option, Some, None, option_map, is_some, length, if◌then◌else◌}
use Rattle.std.specs.List.{list_any}
use Rattle.iio_desc.specs.Kind.{Kind, Average}
use Rattle.iio_scan_type.specs.declared.Endian.{Endian}
use Rattle.iio_scan_type.specs.Format.{IsInRange, stamp_format}
use Rattle.iio_layout.specs.Layout.{scan_size}
use Rattle.iio_layout.specs.Scan.{scan_of}
use Rattle.iio_layout.specs.Shape.{ShapeRecord}
use Rattle.iio_derive.specs.ReadBack.{IsCapture}
use Rattle.iio_derive.specs.Window.{full_mask}
use Rattle.iio_output.specs.Last.{GivenScan}
use Rattle.iio_trigger.specs.Trigger.{Handed}
use Rattle.iio_device.specs.declared.handling.Handled.TheVariants.{Captured, Idle}
use Rattle.iio_core.specs.declared.became.Became.{Became}
use Rattle.iio_core.specs.declared.became.Became.TheVariants.{Asked, Gave}
use Rattle.iio_core.specs.declared.became.Gave.{Gave as Giving}
use Rattle.iio_core.specs.declared.became.Gave.TheVariants as gave
use Rattle.iio_core.specs.Machine.{Member, Station}
use Rattle.iio_core.specs.Moves.{Capture, capture_in, station_after_entry, station_after_gathering, kind_answer, next_of}

-- ---- devices that have made their last capture

-- whether the device has made its last capture
abbrev pub is_last : ℕ → Bool
is_last captures = captures == 2 ^ 64 - 1

-- a device that has made its last capture isn't asked any more
abbrev pub unless_ended : {A : Type 0} → (ended : Bool) → (idle made : A) → A
unless_ended ended idle made = if ended then idle else made

-- a device after the handling of the entry that it has at a trigger, if any; then its answer, and the capture that it makes
abbrev pub entry_station : Kind → Option Handed → (ended : Bool) → ShapeRecord → Station → Station
entry_station kind o ended shape st = unless_ended ended st (station_after_entry kind shape o st)

abbrev pub entry_became : Kind → Option Handed → (ended : Bool) → Station → Option Became
entry_became kind o ended st = option_map (λ (e : Handed). unless_ended ended (Asked Idle) (kind_answer kind e st)) o

abbrev pub entry_capture : Kind → Option Handed → (ended : Bool) → ShapeRecord → Station → Option Capture
entry_capture kind o ended shape st = unless_ended ended None (capture_in kind shape o st)

-- the number of captures that a device has made after an entry was handled with that answer: one more if there was a capture
abbrev pub counted : Option Became → ℕ → ℕ
counted (Some (Asked (Captured members))) captures = captures + 1
counted answer captures = captures

-- ---- scans that were given

-- the room has the bytes of the scan that was given
abbrev pub IsGiven : Giving → List Member → (room : List ℕ) → Type 0
IsGiven gave.Given members room = option_map (λ (scan : GivenScan). scan.bytes) (next_of members) ≡ Some room
IsGiven answer members room = Unit {0}

abbrev pub IsRoom : Option Became → List Member → (room : List ℕ) → Type 0
IsRoom (Some (Gave answer)) members room = IsGiven answer members room
IsRoom became members room = Unit {0}

-- ---- means

-- bytes are the scan of all channels of a capture, whose values and whose moment are in range
pub record IsScanOf (shape : ShapeRecord) (c : Capture) (scan : List ℕ) : Type 0 where
  pub is : scan ≡ scan_of shape (full_mask shape) c.values c.moment
  pub size : length scan ≡ scan_size shape (full_mask shape)
  pub values : IsCapture shape c.values
  pub moment : (endian : Endian) → IsInRange (stamp_format endian) c.moment

-- whether an averaging device has a member there
abbrev pub has_inner : List Member → Bool
has_inner members = list_any (λ (x : Member). is_some x.inner) members

-- if an averaging device has a member there, the scan of all channels of the capture, if there is one, was taken
abbrev pub IsTakenWhole : ShapeRecord → Option Capture → List Member → (scan : List ℕ) → Type 0
IsTakenWhole shape None members scan = Unit {0}
IsTakenWhole shape (Some c) members scan = has_inner members ≡ true → IsScanOf shape c scan

-- a device of a kind after another capture of its base
abbrev pub kind_gathered : Kind → ShapeRecord → Capture → Station → Station
kind_gathered (Average base window) shape c st = station_after_gathering window shape (Some c) st
kind_gathered kind shape c st = st
