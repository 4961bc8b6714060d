-- What an item may be answered, and what it and its answer make of a connection's seats, over any `Iio`.
use Rattle.std.specs.Prelude.{◌≡◌, ◌⊎◌, ◌≤◌, ℕ, pos, nat_lt, Bool, false, true, List, [], ◌∷◌, ◌++◌, length, slice_get, slice_set, remove, Option, Some, None, option_map, IfSome, MatchBool, Ok, Err, if◌then◌else◌}
use Rattle.iio_text.specs.declared.errors.Errno.TheVariants.{EAGAIN, EBADF, EINVAL, ENODEV, ENOSYS}
use Rattle.iio_desc.specs.Kind.{is_output}
use Rattle.iio_event.specs.Code.{event_bytes}
use Rattle.iio_layout.specs.Shape.{count_of}
use Rattle.iio_mask.specs.Text.{mask_of}
use Rattle.iio_event.specs.declared.event.EventData.{EventData}
use Rattle.iiod_grammar.specs.declared.command.Refused.TheVariants.{Empty}
use Rattle.iiod_grammar.specs.Command.{Help, Exit, Version, Print, Timeout, Open, Close, Read, Write, ReadBuf, WriteBuf, GetTrig, SetTrig, SetBuffers, Remask, EvOpen, EvRead, EvClose}
use Rattle.iiod_grammar.specs.Stream.{Item, Said, Written, Streamed, End}
use Rattle.iiod_reply.specs.Reply.{Reply, Nothing, Number, Refusal, Value, Raw, Block, NoMemory}
use Rattle.iiod_commands.specs.Acts.{Acts, end_reply, help_reply, left_client, trigger_reply, version_reply, zero_reply}
use Rattle.iio_core.specs.Front.{Front, channel_count, find_device, kind_at, shape_at, size_at}
use Rattle.iiod_commands.specs.Seat.{Trace, after_nothing, first_trace}
use Rattle.iiod_commands.specs.Client.{SeatState, ClientRecord, IsWanted, State, Wanted, seat_state_remasked, buffers_of, place_of, with_count, with_holding, with_seats, without_holding}
use Rattle.iiod_commands.specs.Reading.{Reads, most_scans}

-- what a READBUF's answer says of the trace of its seat: its scans are those by which the trace grew
abbrev pub ReadsAs : (channels mask want asked : ℕ) → Reply → Option Trace → Option Trace → Type 0
ReadsAs channels mask want asked (Block channels' mask' scans asked') trace trace' =
    (channels' ≡ channels) × (mask' ≡ mask) × (asked' ≡ asked) × Reads want scans trace trace'
ReadsAs channels mask want asked (Refusal EAGAIN) trace trace' = trace' ≡ option_map (after_nothing false) trace
ReadsAs channels mask want asked (Refusal ENODEV) trace trace' = trace' ≡ option_map (after_nothing true) trace
ReadsAs channels mask want asked reply trace trace' = ⊥

-- what a READBUF makes of a seat of the connection
abbrev pub ReadMoves : Front → SeatState → ℕ → Reply → Option Trace → Option Trace → Type 0
ReadMoves front s asked reply trace trace' = MatchBool (nat_lt asked (size_at front s.dev s.mask))
    ((reply ≡ zero_reply) × (trace' ≡ trace))
    (ReadsAs (channel_count front s.dev) s.mask (most_scans asked (size_at front s.dev s.mask) s.capacity) asked reply trace trace')

-- a READBUF at the seat with index i
pub record ReadsAt (front : Front) (asked : ℕ) (seats : List SeatState) (traces : List (Option Trace)) (i : ℕ) (reply : Reply) (traces' : List (Option Trace)) :
    Type
    0 where
  pub s : SeatState
  pub at : slice_get seats i ≡ Some s
  pub trace : Option Trace
  pub before : slice_get traces i ≡ Some trace
  pub trace' : Option Trace
  pub after : traces' ≡ slice_set traces i trace'
  pub reads : ReadMoves front s asked reply trace trace'

abbrev pub ReadsBy : Front → ℕ → List SeatState → List (Option Trace) → Option ℕ → Reply → List (Option Trace) → Type 0
ReadsBy front asked seats traces None reply traces' = (reply ≡ Refusal EBADF) × (traces' ≡ traces)
ReadsBy front asked seats traces (Some i) reply traces' = ReadsAt front asked seats traces i reply traces'

abbrev pub ReadsFrom : Front → ℕ → List SeatState → List (Option Trace) → Option ℕ → Reply → List (Option Trace) → Type 0
ReadsFrom front asked seats traces None reply traces' = (reply ≡ Refusal ENODEV) × (traces' ≡ traces)
ReadsFrom front asked seats traces (Some dev) reply traces' = MatchBool (is_output (kind_at front dev))
    (((reply ≡ Refusal ENODEV) ⊎ (reply ≡ Refusal ENOSYS)) × (traces' ≡ traces))
    (ReadsBy front asked seats traces (place_of dev seats) reply traces')

-- one more seat at a device where there was none, under this mask and with this capacity. Nothing has been taken from it yet
pub record JoinsAt (dev : ℕ) (x : Wanted) (a b : State) : Type 0 where
  pub number : ℕ
  pub t : Option Trace
  pub free : place_of dev a.client.seats ≡ None
  pub added : b.client ≡ with_seats (a.client.seats ++ record { dev = dev; number = number; mask = x.mask; capacity = x.capacity; discarded = 0 } ∷ []) a.client
  pub told : b.traces ≡ a.traces ++ t ∷ []
  pub fresh : t ≡ option_map (λ (x : Trace). first_trace) t

-- ... by an OPEN's words: under the mask of its text, with its samples times the buffers count of the device as capacity
abbrev pub OpensAt : Front → (dev samples : ℕ) → (text : List ℕ) → (cyclic : Bool) → State → State → Type 0
OpensAt front dev samples text cyclic a b =
    (x : Wanted) × IsWanted (kind_at front dev) (shape_at front dev) (buffers_of dev a.client.buffers) samples text cyclic x × JoinsAt dev x a b

-- one seat fewer
pub record LeavesAt (dev : ℕ) (a b : State) : Type 0 where
  pub i : ℕ
  pub at : place_of dev a.client.seats ≡ Some i
  pub gone : b.client ≡ with_seats (remove a.client.seats i) a.client
  pub told : b.traces ≡ remove a.traces i

-- a seat of the device under another mask, that of the REMASK's text, with its capacity as it was; its trace begins anew
pub record RemasksAt (front : Front) (dev : ℕ) (text : List ℕ) (a b : State) : Type 0 where
  pub s : SeatState
  pub i : ℕ
  pub mask : ℕ
  pub waiting : ℕ
  pub t : Option Trace
  pub its : s.dev ≡ dev
  pub at : place_of dev a.client.seats ≡ Some i
  pub here : slice_get a.client.seats i ≡ Some s
  pub wanted : mask_of text (count_of (shape_at front dev)) ≡ Some mask
  pub under : b.client ≡ with_seats (slice_set a.client.seats i (seat_state_remasked mask waiting s)) a.client
  pub told : b.traces ≡ slice_set a.traces i t
  pub fresh : t ≡ option_map (λ (x : Trace). first_trace) t

-- what the connection has besides its seats is altered
abbrev pub Alters : (ClientRecord → ClientRecord) → State → State → Type 0
Alters change a b = (b.client ≡ change a.client) × (b.traces ≡ a.traces)

-- what happens at the device of that name
pub record AtNamed (front : Front) (device : List ℕ) (Moved : ℕ → Type 0) : Type 0 where
  pub dev : ℕ
  pub named : find_device front device ≡ Some dev
  pub moves : Moved dev

-- what an item and its answer make of what the connection has: a refusal, or lack of memory, changes at most a seat's trace
abbrev pub Moves : Front → State → Item → Reply → State → Type 0
Moves front a (Said (Ok (Open device samples text cyclic))) (Number n) b = AtNamed front device (λ dev. OpensAt front dev samples text cyclic a b)
Moves front a (Said (Ok (Close device))) (Number n) b = AtNamed front device (λ dev. LeavesAt dev a b)
Moves front a (Said (Ok (Remask device text))) (Number n) b = AtNamed front device (λ dev. RemasksAt front dev text a b)
Moves front a (Said (Ok (ReadBuf device asked))) NoMemory b = (b.client ≡ a.client) × (b.traces ≡ a.traces)
Moves front a (Said (Ok (ReadBuf device asked))) reply b =
    (b.client ≡ a.client) × ReadsFrom front asked a.client.seats a.traces (find_device front device) reply b.traces
Moves front a (Said (Ok (SetBuffers device n))) (Number z) b = AtNamed front device (λ dev. Alters (with_count dev n) a b)
Moves front a (Said (Ok (EvOpen device))) (Number z) b = AtNamed front device (λ dev. Alters (with_holding dev) a b)
Moves front a (Said (Ok (EvClose device))) (Number z) b = AtNamed front device (λ dev. Alters (without_holding dev) a b)
Moves front a (End error) reply b = (reply ≡ end_reply error) × (b.client ≡ left_client a.client) × (b.traces ≡ [])
Moves front a item reply b = (b.client ≡ a.client) × (b.traces ≡ a.traces)

-- ---- answers

-- the answer to a command at a device, if it is known without asking: -19 if there is no device of that name
abbrev pub at_known : (ℕ → Option Reply) → Option ℕ → Option Reply
at_known on None = Some (Refusal ENODEV)
at_known on (Some dev) = on dev

-- ... and -9 if the connection has no seat at it
abbrev pub at_seat : Option ℕ → Option Reply
at_seat None = Some (Refusal EBADF)
at_seat (Some i) = None

-- ... to a command that any connection may give at a device
abbrev pub of_device : Front → List ℕ → Option Reply
of_device front device = at_known (λ dev. None) (find_device front device)

-- ... to one that needs the connection's own seat there
abbrev pub of_seat : Front → ClientRecord → List ℕ → Option Reply
of_seat front client device = at_known (λ dev. at_seat (place_of dev client.seats)) (find_device front device)

-- the answer to an item that needs no device; none if a device is asked
abbrev pub answer_alone : Front → ClientRecord → Item → Option Reply
answer_alone front client (Said (Ok Help)) = Some help_reply
answer_alone front client (Said (Ok Exit)) = Some Nothing
answer_alone front client (Said (Ok Version)) = Some version_reply
answer_alone front client (Said (Ok Print)) = Some (Value front.context)
answer_alone front client (Said (Ok (Timeout milliseconds))) = Some zero_reply
answer_alone front client (Said (Ok (Open device samples text cyclic))) = of_device front device
answer_alone front client (Said (Ok (Close device))) = of_seat front client device
answer_alone front client (Said (Ok (Read device place name))) = of_device front device
answer_alone front client (Said (Ok (Write device target count))) = Some Nothing
answer_alone front client (Said (Ok (ReadBuf device asked))) =
    at_known (λ dev. if is_output (kind_at front dev) then None else at_seat (place_of dev client.seats)) (find_device front device)
answer_alone front client (Said (Ok (WriteBuf device count))) = Some Nothing
answer_alone front client (Said (Ok (GetTrig device))) = of_device front device
answer_alone front client (Said (Ok (SetTrig device name))) = of_device front device
answer_alone front client (Said (Ok (SetBuffers device n))) = of_device front device
answer_alone front client (Said (Ok (Remask device text))) = of_device front device
answer_alone front client (Said (Ok (EvOpen device))) = of_device front device
answer_alone front client (Said (Ok (EvRead device))) = of_device front device
answer_alone front client (Said (Ok (EvClose device))) = of_device front device
answer_alone front client (Said (Err Empty)) = Some Nothing
answer_alone front client (Said (Err why)) = Some (Refusal EINVAL)
answer_alone front client (Written device None payload) = Some (Refusal EINVAL)
answer_alone front client (Written device (Some target) payload) = of_device front device
answer_alone front client (Streamed device payload) = of_device front device
answer_alone front client (End error) = Some (end_reply error)

-- the answer, or lack of memory instead, unless nothing is answered
abbrev pub IsOrShort : (answer reply : Reply) → Type 0
IsOrShort Nothing reply = reply ≡ Nothing
IsOrShort answer reply = (reply ≡ answer) ⊎ (reply ≡ NoMemory)

-- an item that needs no device has this answer over any `Iio`
abbrev pub AnswersAlone : Front → ClientRecord → Item → Reply → Type 0
AnswersAlone front client item reply = IfSome (answer_alone front client item) (λ answer. IsOrShort answer reply)

-- what a command at a device is answered if it isn't refused. For a READBUF this is said by `Moves`, and the others need no
-- device
abbrev pub Accepts : Front → Item → Reply → Type 0
Accepts front (Said (Ok (Open device samples text cyclic))) reply = reply ≡ zero_reply
Accepts front (Said (Ok (Close device))) reply = reply ≡ zero_reply
Accepts front (Said (Ok (Read device place name))) reply = (text : List ℕ) × (reply ≡ Value text)
Accepts front (Said (Ok (GetTrig device))) reply = (trigger : Option ℕ) × (reply ≡ trigger_reply front trigger)
Accepts front (Said (Ok (SetTrig device name))) reply = reply ≡ zero_reply
Accepts front (Said (Ok (SetBuffers device n))) reply = reply ≡ zero_reply
Accepts front (Said (Ok (Remask device text))) reply = reply ≡ zero_reply
Accepts front (Said (Ok (EvOpen device))) reply = reply ≡ zero_reply
Accepts front (Said (Ok (EvRead device))) reply = (event : EventData) × (reply ≡ Raw (event_bytes event))
Accepts front (Said (Ok (EvClose device))) reply = reply ≡ zero_reply
Accepts front (Written device (Some target) payload) reply = reply ≡ Number (pos (length payload))
Accepts front (Streamed device payload) reply = (taken : ℕ) × (taken ≤ length payload) × (reply ≡ Number (pos taken))
Accepts front item reply = Unit {0}

-- ... or it is refused, or memory ran out
abbrev pub AnswersAs : Front → Item → Reply → Type 0
AnswersAs front item (Refusal e) = Unit {0}
AnswersAs front item NoMemory = Unit {0}
AnswersAs front item reply = Accepts front item reply

-- one item and its answer: over any `Iio`, and over one that tells its state
pub record Serves (front : Front) (a : State) (item : Item) (reply : Reply) (b : State) : Type 0 where
  pub alone : AnswersAlone front a.client item reply
  pub formed : AnswersAs front item reply
  pub exact : IfSome a.told (λ m. Acts front m a.client item reply b.told b.client)
  pub moves : Moves front a item reply b
