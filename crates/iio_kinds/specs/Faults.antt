-- Why a member can't join a device, by the state of the triggers.
use Rattle.std.specs.Prelude.{◌≡◌, ℕ, ◌<◌, ◌-◌, ◌^◌, ◌==◌, ◌&&◌, ◌||◌, not, Bool, true, false, List, [], ◌∷◌, length, slice_get, Option, Some, None, is_none, Result, Ok, Err}
use Rattle.std.specs.Option.{option_map_or}
use Rattle.iio_base.specs.Refusals.{first_refusal}
use Rattle.iio_text.specs.declared.errors.Errno.{Errno}
use Rattle.iio_text.specs.declared.errors.Errno.TheVariants.{EBUSY, ENODEV}
use Rattle.iio_mask.specs.declared.Mask.{Mask}
use Rattle.iio_layout.specs.Layout.{scan_size}
use Rattle.iio_layout.specs.Shape.{ShapeRecord}
use Rattle.iio_kfifo.specs.Queue.{Queue}
use Rattle.iio_trigger.specs.Trigger.{State}
use Rattle.iio_device.specs.declared.roster.JoinFault.{JoinFault}
use Rattle.iio_device.specs.declared.roster.JoinFault.TheVariants as fault
use Rattle.iio_device.specs.Active.{is_without_union}
use Rattle.iio_device.specs.Device.{DeviceView, device_joined, has_no_place, is_bad_mask, trigger_joined}
use Rattle.iio_device.specs.Joining.{member_faults}
use Rattle.iio_device.specs.Members.{masks_of}
use Rattle.iio_device.specs.Site.{is_empty}
use Rattle.iiod_commands.specs.declared.iio.No.{No}
use Rattle.iiod_commands.specs.declared.iio.No.TheVariants.{Errno as NoErrno, Mem as NoMem}
use Rattle.std.specs.List.{list_any}
use Rattle.iio_desc.specs.Description.{DeviceHead}
use Rattle.iio_desc.specs.Kind.{Kind, is_input, is_output}
use Rattle.iio_derive.specs.Window.{full_mask, no_window}
use Rattle.iio_core.specs.Calls.{is_inner_of, station_after_join}
use Rattle.iio_core.specs.Machine.{Station, masks_of as masks_told}
use Rattle.iio_core.specs.Opening.{join_refusals}
use Rattle.iio_kinds.specs.declared.seat.Seat.{Seat}
use Rattle.iio_kinds.specs.Places.{place_taken}

-- whether the device's trigger has no place for it; a trigger that isn't there has none
abbrev pub lacks_place : ℕ → List State → Option ℕ → Bool
lacks_place number states None = false
lacks_place number states (Some trigger) = option_map_or (has_no_place number) (slice_get states trigger) true

abbrev pub is_full : List State → DeviceView Queue → Bool
is_full states d = is_empty d.standing.members && lacks_place d.number states d.site.trigger || d.standing.next == 2 ^ 64 - 1

-- the refusals in their order
abbrev pub faults_at : List State → DeviceView Queue → ℕ → List (Bool × JoinFault)
faults_at states d mask =
    (not d.site.plugged, fault.Gone)
    ∷ (is_bad_mask d.standing.shape mask, fault.BadMask)
    ∷ member_faults (is_none d.site.trigger) (is_without_union d.standing.shape (masks_of d.standing.members) mask) (is_full states d)

-- the number of the device's trigger, which is there, or why a member can't join by it
abbrev pub Hosts : List State → DeviceView Queue → ℕ → Result ℕ JoinFault → Type 0
Hosts states d mask (Ok trigger) =
    (d.site.trigger ≡ Some trigger) × (trigger < length states) × (first_refusal (faults_at states d mask) ≡ None)
Hosts states d mask (Err fault) = first_refusal (faults_at states d mask) ≡ Some fault

-- a new queue
abbrev pub first_queue : ShapeRecord → Mask → ℕ → Queue
first_queue shape mask capacity = record { scans = []; taken = 0; lost = 0; size = scan_size shape mask.bits; capacity = capacity }

-- a member joins, and has a place; if memory ran out, nothing changes
abbrev pub JoinsBy : Mask → ℕ → Result Seat No → (old new : DeviceView Queue) → (trigger trigger' : State) → Type 0
JoinsBy mask capacity (Ok seat) old new trigger trigger' =
    (seat ≡ record { number = old.standing.next; mask = mask; size = scan_size old.standing.shape mask.bits; capacity = capacity })
    × (new ≡ device_joined mask (first_queue old.standing.shape mask capacity) old)
    × (trigger' ≡ trigger_joined old trigger)
JoinsBy mask capacity (Err refusal) old new trigger trigger' = (refusal ≡ NoMem) × (new ≡ old) × (trigger' ≡ trigger)

-- ---- devices of each kind

-- the refusals of another member in their order, by the device's station and by whether the trigger has no place for it; an
-- output device has one writer
abbrev pub any_refusals : (lacks : Bool) → Kind → ShapeRecord → Station → (mask : ℕ) → List (Bool × Errno)
any_refusals lacks kind shape st mask =
    (not st.site.plugged, ENODEV)
    ∷ (is_output kind && not (is_empty st.members), EBUSY)
    ∷ join_refusals (is_none st.site.trigger) (is_without_union shape (masks_told st.members) mask) (is_empty st.members && lacks || st.next == 2 ^ 64 - 1)

-- the number of the device's trigger, which is there, or the refusal; that memory ran out may always be answered
abbrev pub HostsAny : List State → Kind → (number : ℕ) → ShapeRecord → Station → (mask : ℕ) → Result ℕ No → Type 0
HostsAny states kind number shape st mask (Ok trigger) =
    (st.site.trigger ≡ Some trigger) × (trigger < length states)
    × (first_refusal (any_refusals (lacks_place number states st.site.trigger) kind shape st mask) ≡ None)
HostsAny states kind number shape st mask (Err (NoErrno errno)) =
    first_refusal (any_refusals (lacks_place number states st.site.trigger) kind shape st mask) ≡ Some errno
HostsAny states kind number shape st mask (Err NoMem) = Unit {0}

-- a joining: the device's number and shape, the new member's mask and capacity, whether its scans come round again, and the
-- averaging device whose inner member it is, if any
pub record Joining : Type 0 where
  pub number : ℕ
  pub shape : ShapeRecord
  pub mask : Mask
  pub capacity : ℕ
  pub cyclic : Bool
  pub inner : Option ℕ

abbrev pub joining_of : (number : ℕ) → ShapeRecord → Mask → (capacity : ℕ) → (cyclic : Bool) → (inner : Option ℕ) → Joining
joining_of number shape mask capacity cyclic inner =
    record { number = number; shape = shape; mask = mask; capacity = capacity; cyclic = cyclic; inner = inner }

-- a member joins, and has a place; if memory ran out, nothing changes
abbrev pub JoinsAny : Joining → Result Seat No → (old new : Station) → (trigger trigger' : State) → Type 0
JoinsAny j (Ok seat) old new trigger trigger' =
    (seat ≡ record { number = old.next; mask = j.mask; size = scan_size j.shape j.mask.bits; capacity = j.capacity })
    × (new ≡ station_after_join j.mask.bits j.capacity j.cyclic j.inner old)
    × (trigger' ≡ place_taken j.number old trigger)
JoinsAny j (Err refusal) old new trigger trigger' = (refusal ≡ NoMem) × (new ≡ old) × (trigger' ≡ trigger)

-- ---- averaging devices

-- averaging device j may have its inner member at a device: that is an input device, the member has the mask of all channels
-- and a queue for one scan, and the averaging device has none there yet
pub record MayHaveInner (d : DeviceHead) (mask capacity : ℕ) (st : Station) (j : ℕ) : Type 0 where
  pub input : is_input d.kind ≡ true
  pub whole : mask ≡ full_mask d.shape
  pub one : capacity ≡ 1
  pub none : list_any (is_inner_of j) st.members ≡ false

-- if there is no member, no captures count towards the next mean
abbrev pub IsAnew : Station → Type 0
IsAnew st = is_empty st.members ≡ true → st.window ≡ no_window

-- a member joins an averaging device; if memory ran out, nothing changes
abbrev pub JoinsMean : Mask → (capacity : ℕ) → ShapeRecord → Result Seat No → (old new : Station) → Type 0
JoinsMean mask capacity shape (Ok seat) old new =
    (seat ≡ record { number = old.next; mask = mask; size = scan_size shape mask.bits; capacity = capacity })
    × (new ≡ station_after_join mask.bits capacity false None old)
    × IsAnew old
JoinsMean mask capacity shape (Err refusal) old new = (refusal ≡ NoMem) × (new ≡ old)

-- the device is as it is just after a member of that mask and capacity has joined it
abbrev pub HasJoined : Mask → (capacity : ℕ) → Station → Type 0
HasJoined mask capacity st = (before : Station) × (st ≡ station_after_join mask.bits capacity false None before) × IsAnew before

-- the mask of all channels is served together with the members of an input device exactly if it is served alone
abbrev pub IsServedAlone : Kind → ShapeRecord → Station → (mask : ℕ) → Type 0
IsServedAlone kind shape st mask =
    is_input kind ≡ true → mask ≡ full_mask shape → is_without_union shape (masks_told st.members) mask ≡ is_without_union shape [] mask
