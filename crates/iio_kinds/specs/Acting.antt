-- What a connection's call makes of one device.
use Rattle.std.specs.Prelude.{◌≡◌, ℕ, ℤ, ◌<◌, ◌==◌, ◌&&◌, Bool, true, false, List, [], ◌∷◌, ◌++◌, length, take, drop, Option, Some, None, Result, Ok, Err, if◌then◌else◌}
use Rattle.std.specs.List.{flat_map, list_any}
use Rattle.std.specs.Option.{option_map_or}
use Rattle.iio_text.specs.declared.errors.Errno.{Errno}
use Rattle.iio_attr.specs.declared.attributes.Attr.{Attr}
use Rattle.iio_attr.specs.declared.attributes.Scope.TheVariants as scope
use Rattle.iio_attr.specs.declared.values.Value.{Value}
use Rattle.iio_attr.specs.Attributes.{row_of}
use Rattle.iio_kfifo.specs.Queue.{Queue}
use Rattle.iio_desc.specs.Description.{DeviceHead}
use Rattle.iio_desc.specs.Kind.{Input}
use Rattle.iio_device.specs.declared.membership.Membership.{Membership}
use Rattle.iio_device.specs.Device.{DeviceView}
pub use Rattle.iio_device.specs.Members.{id_of}
use Rattle.iio_device.specs.Site.{sampled}
use Rattle.iio_device.specs.Totals.{with_given, with_scan}
use Rattle.iiod_commands.specs.declared.iio.No.{No}
use Rattle.iiod_commands.specs.declared.iio.No.TheVariants.{Errno as NoErrno, Mem as NoMem}
use Rattle.iiod_commands.specs.declared.iio.Took.{Took}
use Rattle.iiod_commands.specs.declared.iio.Took.TheVariants.{Scan, Empty, Gone}
use Rattle.iiod_commands.specs.Attributes.{has_attribute}
use Rattle.iio_core.specs.Calls.{is_asking, read_answer}
use Rattle.iio_core.specs.Machine.{Member, MemberId, Station, member_in, scans_in, with_scans, with_site}
use Rattle.iio_kinds.specs.Station.{station_of}

-- the answer is `answer`, and the device is then `after`; if memory ran out, nothing changes
abbrev pub Turns : {A : Type 0} → Result A Errno → (after : Station) → Result A No → (old new : Station) → Type 0
Turns answer after (Ok x) old new = (answer ≡ Ok x) × (new ≡ after)
Turns answer after (Err (NoErrno e)) old new = (answer ≡ Err e) × (new ≡ after)
Turns answer after (Err NoMem) old new = new ≡ old

-- a device after a call, which changes it by `change` unless it is refused
abbrev pub turned : {A : Type 0} → (Station → Station) → Result A Errno → Station → Station
turned change (Ok x) st = change st
turned change (Err e) st = st

abbrev pub Acts : {A : Type 0} → (Station → Station) → Result A Errno → Result A No → (old new : Station) → Type 0
Acts change answer result old new = Turns answer (turned change answer old) result old new

-- the attribute is one that a device of that head has, for itself or for one of its channels
abbrev pub MayReadOf : DeviceHead → Option ℕ → Attr → Type 0
MayReadOf d None a = ((row_of a).scope ≡ scope.Device) × (has_attribute d.kind a ≡ true)
MayReadOf d (Some c) a = (c < length d.shape.channels) × ((row_of a).scope ≡ scope.Channel) × (has_attribute d.kind a ≡ true)

-- a read of an attribute at a moment
abbrev pub Reads : DeviceHead → ℤ → Option ℕ → Attr → Station → Result Value No → Station → Type 0
Reads d t channel a old result new =
    Turns (read_answer d.name d.kind d.shape t channel a old) (if is_asking d.kind channel a old then with_site sampled old else old) result old new

-- a read of an input device's attribute
abbrev pub ReadsInput : ℤ → Option ℕ → Attr → DeviceView Queue → Result Value No → Station → Type 0
ReadsInput t channel a d result new = Reads (record { name = d.name; kind = Input; shape = d.standing.shape }) t channel a (station_of d) result new

-- whether it is that member
abbrev pub is_member : MemberId → Membership Queue → Bool
is_member id m = m.number == id.number && m.mask.bits == id.mask

-- whether that member is there
abbrev pub has_member : MemberId → List (Membership Queue) → Bool
has_member id members = list_any (is_member id) members

-- a take from a member's queue
abbrev pub TakesAt : MemberId → Took → List ℕ → (old new : Station) → Type 0
TakesAt id Scan scan old new =
    (scans_in id old.members ≡ scan ∷ drop 1 (scans_in id old.members))
    × (new ≡ record old { totals = with_scan scan old.totals; members = with_scans id (drop 1 (scans_in id old.members)) old.members })
TakesAt id Empty scan old new = (scans_in id old.members ≡ []) × (old.site.plugged ≡ true) × (new ≡ old)
TakesAt id Gone scan old new = (scans_in id old.members ≡ []) × (old.site.plugged ≡ false) × (new ≡ old)

-- the oldest scans of a member's queue, at most `most`, are taken and appended
abbrev pub TakesScansAt : MemberId → (most : ℕ) → Took → (before after : List ℕ) → (old new : Station) → Type 0
TakesScansAt id most Scan before after old new =
    (0 < length (take most (scans_in id old.members)))
    × (after ≡ before ++ flat_map (λ scan. scan) (take most (scans_in id old.members)))
    × (new ≡ record old {
      totals = with_given (take most (scans_in id old.members)) old.totals;
      members =
          with_scans id (drop most (scans_in id old.members)) old.members;
    })
TakesScansAt id most Empty before after old new = (after ≡ before) × (scans_in id old.members ≡ []) × (old.site.plugged ≡ true) × (new ≡ old)
TakesScansAt id most Gone before after old new = (after ≡ before) × (scans_in id old.members ≡ []) × (old.site.plugged ≡ false) × (new ≡ old)

-- the answer of a take that finds no scan
abbrev pub nothing_at : Station → Took
nothing_at st = if st.site.plugged then Empty else Gone

-- the number of scans that a member lost
abbrev pub lost_in : MemberId → List Member → ℕ
lost_in id members = option_map_or (λ (x : Member). x.lost) (member_in id members) 0

-- what no call changes of a device
pub record Keeps (old new : DeviceView Queue) : Type 0 where
  pub name : new.name ≡ old.name
  pub number : new.number ≡ old.number
  pub shape : new.standing.shape ≡ old.standing.shape

-- what no connection's call changes of it: such a call makes no capture
pub record KeepsCaptures (old new : DeviceView Queue) : Type 0 where
  pub device : Keeps old new
  pub captures : new.standing.captures ≡ old.standing.captures
