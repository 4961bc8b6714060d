-- What a seat is, by its own value alone; and what the calls of an `Iio` answer, by cases on the answer.
use Rattle.std.specs.Prelude.{◌≡◌, ℕ, ◌+◌, ◌-◌, ◌*◌, ◌^◌, ◌≤◌, ◌<◌, min, Bool, true, false, List, [], ◌∷◌, ◌++◌, length, drop, Option, Some, option_map, Result, Ok, Err}
use Rattle.iio_layout.specs.Active.{has_data}
use Rattle.iio_kfifo.specs.declared.limits.TheConstants.{MAX_BYTES}
use Rattle.iio_core.specs.declared.limits.TheConstants.{MAX_SCANS}
use Rattle.iiod_commands.specs.declared.iio.No.{No}
use Rattle.iiod_commands.specs.declared.iio.No.TheVariants.{Errno as NoErrno, Mem as NoMem}
use Rattle.iiod_commands.specs.declared.iio.Took.{Took}
use Rattle.iiod_commands.specs.declared.iio.Took.TheVariants.{Scan, Empty, Gone}
use Rattle.iio_core.specs.Front.{Front, channel_count, shape_at, size_at}
use Rattle.iio_core.specs.Machine.{Machine, MemberId, is_plugged, queue_of, with_queue}
use Rattle.iio_core.specs.Calls.{CallResult}

-- what a seat records, if anything: the scans that it gave, how many of its takes found nothing, and whether the last of these
-- found the device unplugged
pub record Trace : Type 0 where
  pub given : List (List ℕ)
  pub empties : ℕ
  pub gone : Bool

-- a seat: the member's number, its mask, the bytes of its scans, the number of scans that its queue can hold, and its trace
pub record SeatRecord : Type 0 where
  pub number : ℕ
  pub mask : ℕ
  pub size : ℕ
  pub capacity : ℕ
  pub trace : Option Trace

-- the member from whose queue a seat takes
abbrev pub seat_id : SeatRecord → MemberId
seat_id s = record { number = s.number; mask = s.mask }

abbrev pub first_trace : Trace
first_trace = record { given = []; empties = 0; gone = false }

abbrev pub after_scans : List (List ℕ) → Trace → Trace
after_scans scans t = record t { given = t.given ++ scans }

abbrev pub after_nothing : Bool → Trace → Trace
after_nothing gone t = record t { empties = min (t.empties + 1) (2 ^ 64 - 1); gone = gone }

abbrev pub after_take : Took → List ℕ → Trace → Trace
after_take Scan scan t = after_scans (scan ∷ []) t
after_take Empty scan t = after_nothing false t
after_take Gone scan t = after_nothing true t

-- ---- owned seats

-- what may be opened: a device that is there, a mask of its channels with a data channel, and a queue within the limits
pub record MayOpen (front : Front) (dev mask capacity : ℕ) : Type 0 where
  pub known : dev < length front.devices
  pub below : mask < 2 ^ channel_count front dev
  pub channel : has_data (shape_at front dev) mask ≡ true
  pub some : 1 ≤ capacity
  pub scans : capacity ≤ MAX_SCANS
  pub bytes : capacity * size_at front dev mask ≤ MAX_BYTES

-- the seat belongs to the device, under this mask and with this capacity
pub record IsOwned (front : Front) (dev mask capacity : ℕ) (s : SeatRecord) : Type 0 where
  pub under : s.mask ≡ mask
  pub sized : s.size ≡ size_at front dev mask
  pub bounded : s.capacity ≡ capacity

-- the seat belongs to the device, under some mask
abbrev pub IsOfDevice : Front → ℕ → SeatRecord → Type 0
IsOfDevice front dev s = IsOwned front dev s.mask s.capacity s

-- the seat of an accepted OPEN
pub record IsNew (front : Front) (dev mask capacity : ℕ) (s : SeatRecord) : Type 0 where
  pub owned : IsOwned front dev mask capacity s
  pub fresh : s.trace ≡ option_map (λ (t : Trace). first_trace) s.trace

-- the seat of a member under another mask: its number and its capacity stay, and its trace begins anew
pub record IsRemasked (front : Front) (dev mask : ℕ) (old new : SeatRecord) : Type 0 where
  pub number : new.number ≡ old.number
  pub owned : IsOwned front dev mask old.capacity new
  pub fresh : new.trace ≡ option_map (λ (t : Trace). first_trace) old.trace

-- ... and if that is refused the seat is as before
abbrev pub Remasks : {A : Type 0} → Front → (dev mask : ℕ) → Result A No → (old new : SeatRecord) → Type 0
Remasks front dev mask (Ok x) old new = IsRemasked front dev mask old new
Remasks front dev mask (Err refusal) old new = new ≡ old

-- ---- what a call answers over a told state. Memory may run out at any call, which changes nothing

abbrev pub Answers : {A : Type 0} → CallResult A → Machine → Result A No → Option Machine → Type 0
Answers o m (Ok x) told = (o.answer ≡ Ok x) × (told ≡ Some o.machine)
Answers o m (Err (NoErrno e)) told = (o.answer ≡ Err e) × (told ≡ Some o.machine)
Answers o m (Err NoMem) told = told ≡ Some m

-- a seat is identified by its member's number
abbrev pub number_by : {S : Type 0} → (S → SeatRecord) → Result S No → Result ℕ No
number_by seen (Ok s) = Ok (seen s).number
number_by seen (Err refusal) = Err refusal

abbrev pub Takes : Machine → ℕ → MemberId → Took → List ℕ → Option Machine → Type 0
Takes m dev id Scan scan told = (queue_of m dev id ≡ scan ∷ drop 1 (queue_of m dev id))
    × (told ≡ Some (with_queue m dev id (scan ∷ []) (drop 1 (queue_of m dev id))))
Takes m dev id Empty scan told = (queue_of m dev id ≡ []) × (is_plugged m dev ≡ true) × (told ≡ Some m)
Takes m dev id Gone scan told = (queue_of m dev id ≡ []) × (is_plugged m dev ≡ false) × (told ≡ Some m)
