-- What a connection has open at the devices: its seats, its buffers counts, and the devices whose events it holds. The seats'
-- traces are a separate list, in the same order.
use Rattle.std.specs.Prelude.{◌≡◌, ℕ, ◌+◌, ◌-◌, ◌*◌, ◌^◌, ◌==◌, ◌<◌, ◌≤◌, ◌||◌, ◌&&◌, min, nat_lt, not, Bool, true, false, List, [], ◌∷◌, ◌++◌, map, filter, length, if◌then◌else◌, Option, Some, is_none, unwrap_or, All, Result, position}
use Rattle.iio_base.specs.Refusals.{first_refusal, unless_refused}
use Rattle.iio_text.specs.declared.errors.Errno.{Errno}
use Rattle.iio_desc.specs.Kind.{Kind, is_input, is_output}
use Rattle.iio_mask.specs.Text.{mask_of}
use Rattle.iio_kfifo.specs.declared.limits.TheConstants.{MAX_BYTES}
use Rattle.iio_layout.specs.Active.{has_data}
use Rattle.iio_layout.specs.Layout.{scan_size}
use Rattle.iio_layout.specs.Shape.{ShapeRecord, count_of}
use Rattle.iiod_commands.specs.declared.client.BuffersCount.{BuffersCount}
use Rattle.iiod_commands.specs.declared.client.Client.{Client}
use Rattle.iiod_commands.specs.declared.client.OpenSeat.{OpenSeat}
use Rattle.iiod_commands.specs.declared.client.TheConstants.{FIRST_BUFFERS}
use Rattle.iio_core.specs.Front.{Front, kind_at, size_at}
use Rattle.iio_core.specs.Machine.{Machine, MemberId}
use Rattle.iio_core.specs.Opening.{asked_refusals, is_excess, mask_refusals}
use Rattle.iiod_commands.specs.Seat.{SeatRecord, Trace, MayOpen, IsOwned}

-- a seat of a connection as the told state knows it
pub record SeatState : Type 0 where
  pub dev : ℕ
  pub number : ℕ
  pub mask : ℕ
  pub capacity : ℕ
  -- the number of scans that its REMASKs discarded
  pub discarded : ℕ

-- the member whose queue it is
abbrev pub seat_state_id : SeatState → MemberId
seat_state_id s = record { number = s.number; mask = s.mask }

pub record ClientRecord : Type 0 where
  pub who : ℕ
  pub seats : List SeatState
  pub buffers : List BuffersCount
  pub holdings : List ℕ

-- the index of the seat at a device
abbrev pub place_of : ℕ → List SeatState → Option ℕ
place_of dev seats = position (λ (s : SeatState). s.dev == dev) seats

-- whether there is a seat at a device
abbrev pub has_seat : ℕ → List SeatState → Bool
has_seat dev [] = false
has_seat dev (s ∷ ss) = (s.dev == dev) || has_seat dev ss

-- whether no two seats are at one device
abbrev pub are_apart : List SeatState → Bool
are_apart [] = true
are_apart (s ∷ ss) = not (has_seat s.dev ss) && are_apart ss

-- the buffers count of a device: that of its SET, if any
abbrev pub buffers_of : ℕ → List BuffersCount → ℕ
buffers_of dev [] = FIRST_BUFFERS
buffers_of dev (b ∷ bs) = if b.dev == dev then b.count else buffers_of dev bs

abbrev pub with_seats : List SeatState → ClientRecord → ClientRecord
with_seats seats client = record client { seats = seats }

-- sets the buffers count of a device
abbrev pub with_count : ℕ → ℕ → ClientRecord → ClientRecord
with_count dev n client = record client { buffers = filter (λ (b : BuffersCount). not (b.dev == dev)) client.buffers ++ record { dev = dev; count = n } ∷ [] }

-- adds a device to those whose events are held, or removes it
abbrev pub with_holding : ℕ → ClientRecord → ClientRecord
with_holding dev client = record client { holdings = client.holdings ++ dev ∷ [] }

abbrev pub without_holding : ℕ → ClientRecord → ClientRecord
without_holding dev client = record client { holdings = filter (λ d. not (d == dev)) client.holdings }

-- ---- what an OPEN asks for

-- a mask, and the number of scans that the queue is to hold
pub record Wanted : Type 0 where
  pub mask : ℕ
  pub capacity : ℕ

-- the capacity is the samples times the buffers count; scans are repeated only at an output device
unfoldable pub wanted_of : (is_open plugged : Bool) → Kind → ShapeRecord → (buffers samples : ℕ) → (text : List ℕ) → (cyclic : Bool) → Result Wanted Errno
wanted_of is_open plugged kind shape buffers samples text cyclic =
    let mask = unwrap_or (mask_of text (count_of shape)) 0 in
    let capacity = samples * buffers in
    unless_refused (record { mask = mask; capacity = capacity })
    (first_refusal (asked_refusals (not plugged) (cyclic && not (is_output kind)) (is_none (mask_of text (count_of shape))) (not (has_data shape mask))
    (is_excess capacity (scan_size shape mask)) is_open))

-- what an OPEN asks for, if that isn't refused: the mask of its text, the samples times the buffers count as the capacity, and
-- CYCLIC only at an output device
pub record IsWanted (kind : Kind) (shape : ShapeRecord) (buffers samples : ℕ) (text : List ℕ) (cyclic : Bool) (x : Wanted) : Type 0 where
  pub mask : mask_of text (count_of shape) ≡ Some x.mask
  pub capacity : x.capacity ≡ samples * buffers
  pub cycles : (cyclic && not (is_output kind)) ≡ false

-- the mask of a REMASK, for a queue of that capacity
unfoldable pub mask_wanted : ShapeRecord → (capacity : ℕ) → (text : List ℕ) → Result ℕ Errno
mask_wanted shape capacity text =
    let mask = unwrap_or (mask_of text (count_of shape)) 0 in
    unless_refused mask
    (first_refusal (mask_refusals (is_none (mask_of text (count_of shape))) (not (has_data shape mask)) (nat_lt MAX_BYTES (capacity * scan_size shape mask))))

-- a count of discarded scans, raised by those that waited; it stops at 2^64 - 1
abbrev pub more_discarded : ℕ → ℕ → ℕ
more_discarded n waiting = min (n + waiting) (2 ^ 64 - 1)

-- a seat under another mask: the scans that waited are discarded and counted
abbrev pub seat_state_remasked : (mask waiting : ℕ) → SeatState → SeatState
seat_state_remasked mask waiting s = record s { mask = mask; discarded = more_discarded s.discarded waiting }

-- a device whose events can be held: an input device that is there
pub record IsHolding (front : Front) (dev : ℕ) : Type 0 where
  pub there : dev < length front.devices
  pub input : is_input (kind_at front dev) ≡ true

-- what the calls of a connection change: the devices, if they tell their state, and what the connection has there, with the traces
-- of its seats
pub record State : Type 0 where
  pub told : Option Machine
  pub client : ClientRecord
  pub traces : List (Option Trace)

abbrev pub state : Option Machine → ClientRecord → List (Option Trace) → State
state told client traces = record { told = told; client = client; traces = traces }

-- ... and the answers so far
pub record Answering : Type 0 where
  pub state : State
  pub out : List ℕ

abbrev pub answering : State → List ℕ → Answering
answering s out = record { state = s; out = out }

-- ---- a connection's seats as these lists

module _ {S : Type 0} (seen : S → SeatRecord) where
  abbrev pub seat_state_of : OpenSeat S → SeatState
  seat_state_of h = record { dev = h.dev; number = (seen h.seat).number; mask = h.mask.bits; capacity = h.capacity; discarded = h.discarded }

  abbrev pub trace_of : OpenSeat S → Option Trace
  trace_of h = (seen h.seat).trace

  abbrev pub seats_of : List (OpenSeat S) → List SeatState
  seats_of held = map seat_state_of held

  abbrev pub traces_of : List (OpenSeat S) → List (Option Trace)
  traces_of held = map trace_of held

  abbrev pub client_of : Client S → ClientRecord
  client_of d = record { who = d.who; seats = seats_of d.held.items; buffers = d.buffers.items; holdings = d.holdings.items }

  abbrev pub state_of : Option Machine → Client S → State
  state_of told d = state told (client_of d) (traces_of d.held.items)

  -- a seat is owned at its device, with its mask and the capacity of its OPEN, and its size is that of the mask's scans
  pub record IsHeld (front : Front) (h : OpenSeat S) : Type 0 where
    pub opened : MayOpen front h.dev h.mask.bits h.capacity
    pub sized : h.size ≡ size_at front h.dev h.mask.bits
    pub some : 1 ≤ h.size
    pub owned : IsOwned front h.dev h.mask.bits h.capacity (seen h.seat)

  abbrev pub AllHeld : Front → List (OpenSeat S) → Type 0
  AllHeld front held = All (IsHeld front) held

  -- each seat is held so, no two are at one device, and the devices whose events are held are input devices that are there
  pub record IsClient (front : Front) (d : Client S) : Type 0 where
    pub seats : AllHeld front d.held.items
    pub apart : are_apart (seats_of d.held.items) ≡ true
    pub holdings : All (IsHolding front) d.holdings.items
