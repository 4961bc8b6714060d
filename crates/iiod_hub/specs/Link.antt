-- What a link makes of a bank that tells its state, by jobs; and what its seats are.
use Rattle.std.specs.Prelude.{◌≡◌, ℕ, ℤ, ◌+◌, ◌-◌, ◌^◌, min, nat_lt, Bool, true, false, if◌then◌else◌, List, [], ◌∷◌, zero, suc, Option, Some, None, Result, Ok, Err}
use Rattle.iio_mask.specs.declared.Mask.{Mask}
use Rattle.iio_trigger.specs.Trigger.{State, Handed, Polls}
use Rattle.iio_trigger.specs.declared.Polled.{Polled}
use Rattle.iio_device.specs.declared.handling.Handled.{Handled}
use Rattle.iio_device.specs.Device.{DeviceView}
use Rattle.iiod_commands.specs.declared.iio.No.{No}
use Rattle.iiod_commands.specs.declared.iio.No.TheVariants.{Errno as NoErrno, Mem as NoMem}
use Rattle.iiod_commands.specs.Seat.{SeatRecord}
use Rattle.iio_kfifo.specs.Ends.{WriterEnd}
use Rattle.iiod_bank.specs.declared.opening.Opened.{Opened}
use Rattle.iiod_hub.specs.declared.seat.HubSeat.{HubSeat}
use Rattle.iiod_hub.specs.declared.seat.ReadEnd.{ReadEnd}
use Rattle.iiod_bank.specs.Received.{received_of, size_of}
use Rattle.iiod_bank.specs.Told.{Told, Ran, RanAt, Only}
use Rattle.iiod_bank.specs.Jobs.{Buffer, HandleMakes, OpenMakes, open_refusal}
use Rattle.iiod_bank.specs.TriggerJobs.{DoneMakes, DueMakes}

-- ---- seats

abbrev pub seen_of : HubSeat → SeatRecord
seen_of s = record {
  number = s.member.number;
  mask = s.mask.bits;
  size = size_of s.reader;
  capacity = s.capacity;
  trace = Some (record { given = received_of s.reader; empties = s.empties; gone = s.gone });
}

-- whether the last take of a read found nothing: fewer scans came than were wanted
abbrev pub is_short : (want : ℕ) → Result ℕ ReadEnd → Bool
is_short want (Ok count) = nat_lt count want
is_short want (Err end) = true

-- what a read leaves of its seat besides the reader; a take that found nothing is counted
pub record KeepsSeat (want : ℕ) (result : Result ℕ ReadEnd) (old new : HubSeat) : Type 0 where
  pub dev : new.dev ≡ old.dev
  pub member : new.member ≡ old.member
  pub mask : new.mask ≡ old.mask
  pub capacity : new.capacity ≡ old.capacity
  pub empties : new.empties ≡ (if is_short want result then min (old.empties + 1) (2 ^ 64 - 1) else old.empties)

-- the seat that the job of an accepted OPEN gives
abbrev pub seated : ℕ → Mask → ℕ → Opened → HubSeat
seated dev mask capacity o = record { dev = dev; member = o.member; mask = mask; capacity = capacity; reader = o.reader; empties = 0; gone = false }

abbrev pub SeatOf : ℕ → Mask → ℕ → Result Opened No → Result HubSeat No → Type 0
SeatOf dev mask capacity (Ok o) result = result ≡ Ok (seated dev mask capacity o)
SeatOf dev mask capacity (Err e) result = result ≡ Err e

-- an OPEN answers what its job answers, and the bank is as the job left it
pub record BankOpens (dev : ℕ) (buffer : Buffer) (b : Told) (result : Result HubSeat No) (c : Told) : Type 0 where
  pub answer : Result Opened No
  pub ran : Ran (OpenMakes buffer) dev b answer c
  pub seat : SeatOf dev buffer.mask buffer.scans answer result

-- an errno is one by which a device of that number, in some state, refuses an OPEN of that mask
abbrev pub RefusedBySome : (dev : ℕ) → Mask → Result HubSeat No → Type 0
RefusedBySome dev mask (Err (NoErrno e)) = (a : DeviceView WriterEnd) × (s : Option State) × (a.number ≡ dev) × (open_refusal mask.bits a s ≡ Some e)
RefusedBySome dev mask (Err NoMem) = Unit {0}
RefusedBySome dev mask (Ok s) = Unit {0}

-- ---- handling

-- an entry was handed out, handled at the device, and taken off: three steps, one after the other
pub record Passes (trigger dev : ℕ) (b : Told) (due : Handed) (h : Handled) (c : Told) : Type 0 where
  pub handed : Told
  pub first : RanAt (DueMakes dev) trigger b (Some due) handed
  pub kept : Told
  pub second : Ran (Only (HandleMakes due)) dev handed h kept
  pub found : Bool
  pub third : RanAt (DoneMakes due) trigger kept found c

abbrev pub BankHandles : ℕ → ℕ → Told → Option Handled → Told → Type 0
BankHandles trigger dev b None c = RanAt (DueMakes dev) trigger b None c
BankHandles trigger dev b (Some h) c = (due : Handed) × Passes trigger dev b due h c

-- the first devices are handed their entries, one after another
abbrev pub Swept : ℕ → ℕ → Told → Told → Type 0
Swept trigger zero b c = c ≡ b
Swept trigger (suc k) b c = (m : Told) × Swept trigger k b m × ((h : Option Handled) × BankHandles trigger k m h c)

-- ---- ticks

-- a tick returns whether a moment was left
abbrev pub HasMoment : Bool → List ℤ → Type 0
HasMoment answer [] = answer ≡ false
HasMoment answer (t ∷ ts) = answer ≡ true

-- a tick: the clock is set to the next moment, and the trigger is polled at it, once; if no moment is left, nothing changes
abbrev pub TicksOnce : ℕ → Told → List ℤ → Option Told → Type 0
TicksOnce trigger b [] told = told ≡ Some b
TicksOnce trigger b (t ∷ ts) told = (o : Polled) × (c : Told) × (told ≡ Some c) × RanAt (λ s p u. Polls s t p u) trigger (record b { clock = t }) o c
