-- What the functions that carry out a command promise.
use Rattle.std.specs.Prelude.{◌≡◌, ℕ, pos, ◌+◌, ◌≤◌, List, ◌++◌, length, slice_set, Option, Some, option_map, IfSome, IsOk, Result, Ok, Err, ⊤}
use Rattle.iio_base.specs.declared.Mem.{Mem}
use Rattle.iio_text.specs.declared.errors.Errno.TheVariants.{EAGAIN, ENODEV}
use Rattle.iio_layout.specs.Shape.{count_of}
use Rattle.iio_mask.specs.Text.{mask_of}
use Rattle.iiod_grammar.specs.declared.command.Refused.{Refused}
use Rattle.iiod_grammar.specs.Command.{Command, Exit, Write, ReadBuf, WriteBuf}
use Rattle.iiod_grammar.specs.Stream.{Item, Said}
use Rattle.iiod_reply.specs.Reply.{Reply, Number, Refusal, NoMemory, text_of}
use Rattle.iiod_commands.specs.declared.answers.TheConstants.{SHORT_ANSWER}
use Rattle.iiod_commands.specs.declared.iio.No.{No}
use Rattle.iiod_commands.specs.declared.iio.No.TheVariants.{Errno as NoErrno, Mem as NoMem}
use Rattle.iiod_commands.specs.declared.iio.Took.{Took}
use Rattle.iiod_commands.specs.declared.iio.Took.TheVariants.{Scan, Empty, Gone}
use Rattle.iiod_commands.specs.declared.manner.Manner.{Manner}
use Rattle.iiod_commands.specs.declared.manner.Manner.TheVariants.{Script, Server}
use Rattle.iiod_commands.specs.declared.manner.Progress.{Progress}
use Rattle.iiod_commands.specs.declared.manner.Progress.TheVariants.{Done, Waits}
use Rattle.iio_core.specs.Front.{Front, find_device, shape_at}
use Rattle.iio_core.specs.Machine.{Machine}
use Rattle.iiod_commands.specs.Seat.{Trace, first_trace}
use Rattle.iiod_commands.specs.Client.{SeatState, ClientRecord, seat_state_remasked, place_of, with_seats, State, Answering}
use Rattle.iiod_commands.specs.Acts.{Acted, read_at, read_at_seat, remask_seat, write_at_seat, zero_reply}
use Rattle.iiod_commands.specs.Moves.{ReadMoves, ReadsBy, Serves}
use Rattle.iiod_commands.specs.Reading.{Reading}

-- the reply to an answer by 0 or a refusal
abbrev pub reply_by : Result ⊤ No → Reply
reply_by (Ok done) = zero_reply
reply_by (Err (NoErrno e)) = Refusal e
reply_by (Err NoMem) = NoMemory

-- a server answers even if memory runs out, provided that there is room for a short answer
abbrev pub AnswersInRoom : {A : Type 0} → Manner → (before : List ℕ) → (capacity : ℕ) → Result A Mem → Type 0
AnswersInRoom manner before capacity result = manner ≡ Server → length before + SHORT_ANSWER ≤ capacity → IsOk result

-- the room for the rest of READBUF's answer: none is needed after a block
abbrev pub HasRoomAfter : Result Took Mem → (before : List ℕ) → (capacity : ℕ) → Type 0
HasRoomAfter (Ok Scan) before capacity = Unit {0}
HasRoomAfter took before capacity = length before + SHORT_ANSWER ≤ capacity

-- an outcome, or lack of memory, which changes nothing
abbrev pub Comes : Machine → ClientRecord → Acted → Reply → Option Machine → ClientRecord → Type 0
Comes m client acted NoMemory told client' = (told ≡ Some m) × (client' ≡ client)
Comes m client acted reply told client' = (n : Machine) × (told ≡ Some n) × (acted ≡ record { reply = reply; machine = n; client = client' })

-- an answer other than lack of memory
abbrev pub IsWhole : Reply → Type 0
IsWhole NoMemory = ⊥
IsWhole reply = Unit {0}

-- an answer other than that of a queue in which nothing waits
abbrev pub IsFound : Reply → Type 0
IsFound (Refusal EAGAIN) = ⊥
IsFound reply = Unit {0}

-- ---- seats

-- a change of what the connection has, if the call isn't refused
abbrev pub MovesBy : (State → State → Type 0) → State → Result ⊤ No → State → Type 0
MovesBy Moved a (Ok done) b = Moved a b
MovesBy Moved a (Err e) b = (b.client ≡ a.client) × (b.traces ≡ a.traces)

-- what a REMASK makes of the seat itself over a told state, whatever its index
abbrev pub RemaskTold : Front → List ℕ → Machine → SeatState → Result ⊤ No → Option Machine → SeatState → Type 0
RemaskTold front text m s (Ok done) told s' = (n : Machine) × (told ≡ Some n)
    × ((client : ClientRecord) (i : ℕ) → remask_seat front m client text i (Some s)
    ≡ record { reply = zero_reply; machine = n; client = with_seats (slice_set client.seats i s') client })
RemaskTold front text m s (Err (NoErrno e)) told s' = (n : Machine) × (told ≡ Some n)
    × ((client : ClientRecord) (i : ℕ) → remask_seat front m client text i (Some s) ≡ record { reply = Refusal e; machine = n; client = client })
RemaskTold front text m s (Err NoMem) told s' = told ≡ Some m

-- ... and over any `Iio`
abbrev pub RemaskMoves : Front → List ℕ → SeatState → Option Trace → Result ⊤ No → SeatState → Option Trace → Type 0
RemaskMoves front text s trace (Ok done) s' trace' = (mask waiting : ℕ)
    × (mask_of text (count_of (shape_at front s.dev)) ≡ Some mask) × (s' ≡ seat_state_remasked mask waiting s)
    × (trace' ≡ option_map (λ (x : Trace). first_trace) trace)
RemaskMoves front text s trace (Err e) s' trace' = (s' ≡ s) × (trace' ≡ trace)

-- ---- WRITEBUF

-- the reply by the number of bytes taken
abbrev pub taken_by : Result ℕ No → Reply
taken_by (Ok taken) = Number (pos taken)
taken_by (Err why) = reply_by (Err why)

-- at a seat, over a told state
abbrev pub WritesHeld : Front → (payload : List ℕ) → Option Machine → SeatState → Reply → Option Machine → Type 0
WritesHeld front payload told s reply told' =
    IfSome told (λ m. (client : ClientRecord) → Comes m client (write_at_seat front m client payload (Some s)) reply told' client)

-- ---- READBUF

-- at a seat: over a told state, and over any Iio
pub record ReadServed (front : Front) (asked : ℕ) (s : SeatState) (x y : Reading) (reply : Reply) : Type 0 where
  pub exact : IfSome x.told (λ m. (n : Machine) × (y.told ≡ Some n)
      × ((client : ClientRecord) → read_at_seat front m client s asked ≡ record { reply = reply; machine = n; client = client }))
  pub moves : ReadMoves front s asked reply x.seat.trace y.seat.trace
  pub whole : IsWhole reply

-- ... by the answer of the first take. If memory ran out, nothing changed
abbrev pub ReadHeld : Front → (asked : ℕ) → SeatState → Reading → Reading → Result Took Mem → Type 0
ReadHeld front asked s x y (Ok Scan) = (reply : Reply) × (y.out ≡ x.out ++ text_of reply) × IsFound reply × ReadServed front asked s x y reply
ReadHeld front asked s x y (Ok Empty) = (y.out ≡ x.out) × ReadServed front asked s x y (Refusal EAGAIN)
ReadHeld front asked s x y (Ok Gone) = (y.out ≡ x.out) × ReadServed front asked s x y (Refusal ENODEV)
ReadHeld front asked s x y (Err mem) = (y.out ≡ x.out) × (y.told ≡ x.told) × (y.seat.trace ≡ x.seat.trace)

-- at a device
pub record ReadServedAt (front : Front) (dev asked : ℕ) (a b : State) (reply : Reply) : Type 0 where
  pub exact : IfSome a.told (λ m. (n : Machine) × (b.told ≡ Some n)
      × (read_at front m a.client asked (place_of dev a.client.seats) ≡ record { reply = reply; machine = n; client = a.client }))
  pub moves : ReadsBy front asked a.client.seats a.traces (place_of dev a.client.seats) reply b.traces
  pub whole : IsWhole reply

abbrev pub ReadAt : Front → (dev asked : ℕ) → Answering → Answering → Result Took Mem → Type 0
ReadAt front dev asked x y (Ok Scan) =
    (reply : Reply) × (y.out ≡ x.out ++ text_of reply) × IsFound reply × ReadServedAt front dev asked x.state y.state reply
ReadAt front dev asked x y (Ok Empty) = (y.out ≡ x.out) × ReadServedAt front dev asked x.state y.state (Refusal EAGAIN)
ReadAt front dev asked x y (Ok Gone) = (y.out ≡ x.out) × ReadServedAt front dev asked x.state y.state (Refusal ENODEV)
ReadAt front dev asked x y (Err mem) = (y.out ≡ x.out) × (y.state.told ≡ x.state.told) × (y.state.traces ≡ x.state.traces)

-- ---- one item

-- a line other than an EXIT, WRITE, WRITEBUF or READBUF: it is answered as soon as it is whole
abbrev pub IsAtOnce : Result Command Refused → Type 0
IsAtOnce (Ok Exit) = ⊥
IsAtOnce (Ok (Write device target count)) = ⊥
IsAtOnce (Ok (WriteBuf device count)) = ⊥
IsAtOnce (Ok (ReadBuf device asked)) = ⊥
IsAtOnce said = Unit {0}

-- only a server answers lack of memory
abbrev pub IsAllowed : Manner → Reply → Type 0
IsAllowed Script NoMemory = ⊥
IsAllowed manner reply = Unit {0}

-- a READBUF that finds nothing isn't answered in manner Server: it waits
abbrev pub IsAnswerOf : Item → Manner → Reply → Type 0
IsAnswerOf (Said (Ok (ReadBuf device asked))) Server (Refusal EAGAIN) = ⊥
IsAnswerOf item manner reply = Unit {0}

-- a READBUF of the device of that number
abbrev pub IsReadOf : Front → ℕ → Item → Type 0
IsReadOf front dev (Said (Ok (ReadBuf device asked))) = find_device front device ≡ Some dev
IsReadOf front dev item = ⊥

-- the item was answered, or it is a READBUF for which nothing waits, and is tried again
abbrev pub Performs : Manner → Front → Answering → Item → Answering → Progress → Type 0
Performs manner front x item y Done =
    (reply : Reply) × (y.out ≡ x.out ++ text_of reply) × IsAllowed manner reply × IsAnswerOf item manner reply × Serves front x.state item reply y.state
Performs manner front x item y (Waits dev) =
    (y.out ≡ x.out) × (manner ≡ Server) × IsReadOf front dev item × Serves front x.state item (Refusal EAGAIN) y.state

-- the rest of READBUF's answer
abbrev pub AnswersRead : Manner → ℕ → Result Took Mem → List ℕ → List ℕ → Progress → Type 0
AnswersRead manner dev (Ok Scan) before after p = (after ≡ before) × (p ≡ Done)
AnswersRead manner dev (Ok Gone) before after p = (after ≡ before ++ text_of (Refusal ENODEV)) × (p ≡ Done)
AnswersRead Server dev (Ok Empty) before after p = (after ≡ before) × (p ≡ Waits dev)
AnswersRead Script dev (Ok Empty) before after p = (after ≡ before ++ text_of (Refusal EAGAIN)) × (p ≡ Done)
AnswersRead manner dev (Err mem) before after p = (after ≡ before ++ text_of NoMemory) × (p ≡ Done) × IsAllowed manner NoMemory

-- ---- commands that change no seat

-- what the connection has after an answer that may alter it
abbrev pub client_by : (ClientRecord → ClientRecord) → ClientRecord → Result ⊤ No → ClientRecord
client_by change client (Ok done) = change client
client_by change client (Err why) = client
