-- The law that joins a session's machine and clients to the told state.
use Rattle.std.specs.Prelude.{◌≡◌, ℕ, suc, ◌+◌, ◌-◌, ◌^◌, ◌≤◌, false, true, List, [], ◌∷◌, ◌++◌, map, length, All, Option, Some}
use Rattle.std.specs.Str.{bytes_eq}
use Rattle.iio_text.specs.declared.errors.Errno.{Errno}
use Rattle.iio_scan_type.specs.Format.{size_of}
use Rattle.iio_layout.specs.declared.channel.Channel.{Channel}
use Rattle.iio_layout.specs.Shape.{ShapeRecord}
use Rattle.iio_desc.specs.Description.{heads_of}
use Rattle.iiod_grammar.specs.Stream.{Item, End}
use Rattle.iiod_reply.specs.Reply.{Reply, NoMemory}
use Rattle.iiod_commands.specs.declared.manner.Manner.TheVariants.{Script}
use Rattle.iiod_commands.specs.Acts.{Acts, act, left_client, left_machine}
use Rattle.iiod_commands.specs.Client.{ClientRecord, State}
use Rattle.iiod_session.specs.Run.{FeedTells, client_after, machine_after, texts_of}
use Rattle.iio_history.specs.Event.{Event, Arrived, Heard, Dropped}
use Rattle.iio_history.specs.Registry.{Setup, is_live}
use Rattle.iio_history.specs.Told.{Station, Told, registry_of, told}
use Rattle.iio_history.specs.Machine.{step}
use Rattle.iio_history.specs.Played.{steps, texts}
use Rattle.iio_history.specs.Reply.{reply}
use Rattle.iio_history.specs.Bench.{CanJoin, Every, HasDeviceSizes, HasSizes, IsAct, IsBench, IsClientOf, IsStep, front_of, is_in, machine_of, names_of}

-- ---- what holds of every told state

abbrev pub FirstIsBench : Type 0
FirstIsBench = (s : Setup) → Every HasDeviceSizes (heads_of s.desc) → IsBench s (told s [])

abbrev pub BenchIsKept : Type 0
BenchIsKept = (s : Setup) (m : Told) (e : Event) → IsStep (names_of m) e → IsBench s m → IsBench s (step s m e)

-- the told state of every history of steps is a bench as well
abbrev pub AreSteps : Setup → List Event → Type 0
AreSteps s [] = Unit {0}
AreSteps s (e ∷ h) = IsStep (names_of (told s h)) e × AreSteps s h

abbrev pub ToldIsBench : Type 0
ToldIsBench = (s : Setup) (h : List Event) → Every HasDeviceSizes (heads_of s.desc) → AreSteps s h → IsBench s (told s h)

-- if each channel's type has at least one byte, so has each scan with a channel's data
abbrev pub SizesAreSome : Type 0
SizesAreSome = (shape : ShapeRecord) → All (λ (channel : Channel). 1 ≤ size_of channel.ty) shape.channels → HasSizes shape

-- ---- connections that are there

-- a connection that is there stays; one whose bytes arrive is there; one that hasn't ended is there
abbrev pub NamesStay : Type 0
NamesStay = (s : Setup) (m : Told) (e : Event) (name : List ℕ) → is_in (names_of m) name ≡ true → is_in (names_of (step s m e)) name ≡ true

abbrev pub ArrivedIsThere : Type 0
ArrivedIsThere = (s : Setup) (m : Told) (name bytes : List ℕ) → is_in (names_of (step s m (Arrived name bytes))) name ≡ true

abbrev pub LiveIsThere : Type 0
LiveIsThere = (m : Told) (name : List ℕ) → is_live name (registry_of m).users ≡ true → is_in (names_of m) name ≡ true

-- ---- numbers of members

-- `n` further members can be numbered
abbrev pub CanJoinMore : ℕ → Station → Type 0
CanJoinMore n st = st.joinings + n ≤ 2 ^ 64 - 1

-- at first all numbers are free, and an event uses at most one
abbrev pub RoomLasts : Type 0
RoomLasts =
    (s : Setup)
    → Every (CanJoinMore (2 ^ 64 - 1)) (told s []).stations
    × ((m : Told) (e : Event) (n : ℕ) → Every (CanJoinMore (suc n)) m.stations → Every (CanJoinMore n) (step s m e).stations)
    × ((m : Told) (n : ℕ) → Every (CanJoinMore (suc n)) m.stations → Every CanJoin m.stations)

-- ---- items

-- the answer to an item, and the state after it, are the same by the session's machine and by the history
abbrev pub ItemsAreActs : Type 0
ItemsAreActs =
    (s : Setup) (m : Told) (name : List ℕ) (client : ClientRecord) (item : Item) → IsBench s m → is_in (names_of m) name ≡ true → IsClientOf m name client
    → Every CanJoin m.stations
    → IsAct s m name item (act (front_of s) (machine_of m) client item)

-- what a session promises of an item over a told state, by the history: running out of memory changes nothing
abbrev pub TellsAs : Setup → Told → List ℕ → ClientRecord → Item → Reply → State → Type 0
TellsAs s m name client item NoMemory b = (b.told ≡ Some (machine_of m)) × (b.client ≡ client)
TellsAs s m name client item answer b =
    (answer ≡ reply s m name item) × (b.told ≡ Some (machine_of (step s m (Heard name item)))) × IsClientOf (step s m (Heard name item)) name b.client

abbrev pub ActsTell : Type 0
ActsTell =
    (s : Setup) (m : Told) (name : List ℕ) (client : ClientRecord) (item : Item) (answer : Reply) (b : State)
    → IsBench s m → is_in (names_of m) name ≡ true → IsClientOf m name client → Every CanJoin m.stations
    → Acts (front_of s) (machine_of m) client item answer b.told b.client → TellsAs s m name client item answer b

-- ---- other events, and other connections

-- an event of a connection other than this one, or of none
abbrev pub IsOthers : List ℕ → Event → Type 0
IsOthers name (Heard speaker item) = bytes_eq speaker name ≡ false
IsOthers name (Dropped speaker) = bytes_eq speaker name ≡ false
IsOthers name e = Unit {0}

abbrev pub ClientsAreKept : Type 0
ClientsAreKept =
    (s : Setup) (m : Told) (e : Event) (name : List ℕ) (client : ClientRecord) → IsOthers name e → is_in (names_of m) name ≡ true → IsClientOf m name client
    → IsClientOf (step s m e) name client

-- a new connection has nothing
abbrev pub new_client : ℕ → ClientRecord
new_client who = record { who = who; seats = []; buffers = []; holdings = [] }

abbrev pub NewIsClient : Type 0
NewIsClient =
    (s : Setup) (m : Told) (name bytes : List ℕ) → IsBench s m → is_in (names_of m) name ≡ false
    → IsClientOf (step s m (Arrived name bytes)) name (new_client (length m.lines))

abbrev pub ArrivalIsNothing : Type 0
ArrivalIsNothing = (s : Setup) (m : Told) (name bytes : List ℕ) → IsBench s m → machine_of (step s m (Arrived name bytes)) ≡ machine_of m

-- ---- ends

-- the end of a connection closes its seats and ends its holdings
pub record IsLeft (s : Setup) (m : Told) (name : List ℕ) (client : ClientRecord) (e : Event) : Type 0 where
  pub state : left_machine (front_of s) (machine_of m) client ≡ machine_of (step s m e)
  pub client_then : IsClientOf (step s m e) name (left_client client)

abbrev pub EndsAreLeft : Type 0
EndsAreLeft =
    (s : Setup) (m : Told) (name : List ℕ) (client : ClientRecord) → IsBench s m → IsClientOf m name client
    → ((error : Option Errno) → IsLeft s m name client (Heard name (End error))) × IsLeft s m name client (Dropped name)

-- ---- items one after another

abbrev pub heard : List ℕ → List Item → List Event
heard name items = map (λ item. Heard name item) items

-- what a session of a script says of items over a told state is what the history says
pub record IsFed (s : Setup) (m : Told) (name : List ℕ) (client : ClientRecord) (items : List Item) : Type 0 where
  pub printed : texts_of (front_of s) (machine_of m) client items ≡ texts s m (heard name items)
  pub state : machine_after (front_of s) (machine_of m) client items ≡ machine_of (steps s m (heard name items))
  pub client_then : IsClientOf (steps s m (heard name items)) name (client_after (front_of s) (machine_of m) client items)
  pub bench : IsBench s (steps s m (heard name items))

abbrev pub FeedsAreActs : Type 0
FeedsAreActs =
    (s : Setup) (m : Told) (name : List ℕ) (client : ClientRecord) (items : List Item) → IsBench s m → is_in (names_of m) name ≡ true → IsClientOf m name client
    → Every (CanJoinMore (length items)) m.stations → IsFed s m name client items

-- a session's feed in a script, over the told state, prints what the history says, and the state after it is the history's
abbrev pub ScriptFeedsTell : Type 0
ScriptFeedsTell =
    (s : Setup) (m : Told) (name : List ℕ) (items : List Item) (a b : State) (before after : List ℕ) → IsBench s m → is_in (names_of m) name ≡ true
    → IsClientOf m name a.client
    → Every (CanJoinMore (length items)) m.stations → a.told ≡ Some (machine_of m) → FeedTells Script (front_of s) a items before after b
    → (after ≡ before ++ texts s m (heard name items))
    × (b.told ≡ Some (machine_of (steps s m (heard name items))))
    × IsClientOf (steps s m (heard name items)) name b.client
    × IsBench s (steps s m (heard name items))

-- the other connections keep their clients
abbrev pub FeedsKeepClients : Type 0
FeedsKeepClients =
    (s : Setup) (m : Told) (name : List ℕ) (items : List Item) (other : List ℕ) (client : ClientRecord) → bytes_eq name other ≡ false
    → is_in (names_of m) other ≡ true → IsClientOf m other client
    → IsClientOf (steps s m (heard name items)) other client
