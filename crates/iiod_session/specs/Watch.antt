-- A feed that tells a watch its items: each once, in order, with the state just before it. (This project's own.)
use Rattle.std.specs.Prelude.{◌≡◌, ℕ, ◌<◌, min, Bool, true, false, List, ◌∷◌, length, Option, Some, None, MatchBool, Ok, Err}
use Rattle.iio_text.specs.declared.errors.Errno.TheVariants.{E2BIG, EFBIG}
use Rattle.iiod_grammar.specs.declared.lines.TheConstants.{MAX_PAYLOAD}
use Rattle.iiod_grammar.specs.Command.{Command as SaidCommand, Exit, Write, WriteBuf}
use Rattle.iiod_grammar.specs.Stream.{Item, Said, Written, Streamed, End}
use Rattle.iiod_grammar.specs.View.{command_view}
use Rattle.iiod_reply.specs.Reply.{Reply}
use Rattle.iiod_commands.specs.declared.client.Client.{Client}
use Rattle.iiod_session.specs.declared.going.Going.{Going}
use Rattle.iiod_session.specs.declared.going.Going.TheVariants.{Waits}
use Rattle.iiod_commands.specs.declared.manner.Manner.{Manner}
use Rattle.iiod_session.specs.declared.watch.Seen.{Seen}
use Rattle.iiod_session.specs.declared.watch.Seen.TheVariants.{Command, Refused, TooLong}
use Rattle.iio_core.specs.Front.{Front}
use Rattle.iio_core.specs.Machine.{Machine}
use Rattle.iiod_session.specs.Run.{CarriesBy, FedBy, FindsNone, IsAnswered, Feeding}
use Rattle.iiod_commands.specs.Seat.{SeatRecord}
use Rattle.iiod_session.specs.Session.{IsPlain}
use Rattle.iiod_commands.specs.Client.{State, state_of}

-- a command whose payload is too large
abbrev pub IsTooLarge : SaidCommand → Type 0
IsTooLarge (Write device target count) = MAX_PAYLOAD < count
IsTooLarge (WriteBuf device count) = MAX_PAYLOAD < count
IsTooLarge said = ⊥

-- an item as it is told to a watch: EXIT comes as the end that it is, a WRITE or WRITEBUF as the command once its payload is
-- whole, and also one whose payload is too large. (A payload has at most as many bytes as a payload may have.)
abbrev pub IsSeen : Item → Seen → Type 0
IsSeen (Said (Ok said)) (Command command) = IsPlain (Ok said) × (command_view command ≡ said)
IsSeen (Said (Err why)) Refused = Unit {0}
IsSeen (Written device target payload) (Command command) = command_view command ≡ Write device target (min (length payload) MAX_PAYLOAD)
IsSeen (Streamed device payload) (Command command) = command_view command ≡ WriteBuf device (min (length payload) MAX_PAYLOAD)
IsSeen (End None) (Command command) = command_view command ≡ Exit
IsSeen (End (Some EFBIG)) (Command command) = IsTooLarge (command_view command)
IsSeen (End (Some E2BIG)) TooLong = Unit {0}
IsSeen item seen = ⊥

-- the state, with the watch, and whether the READBUF that comes first was told already, because it waited
pub record Scene (W : Type 0) : Type 0 where
  pub state : State
  pub watch : W
  pub told : Bool

abbrev pub scene_of : {S W : Type 0} → (S → SeatRecord) → Option Machine → Client S → W → Bool → Scene W
scene_of seen told client watch waited = record { state = state_of seen told client; watch = watch; told = waited }

abbrev pub is_waiting : Going → Bool
is_waiting (Waits dev) = true
is_waiting going = false

-- whether the first whole item is a line that isn't answered yet
abbrev pub waits_in : List Item → Bool
waits_in (Said line ∷ items) = true
waits_in items = false

module _ {W : Type 0} (makes : Front → Option Machine → ℕ → Item → W → W → Type 0) (manner : Manner) (front : Front) where
  -- the watch after it was told an item
  abbrev pub Tells : Scene W → Item → W → Type 0
  Tells a item w = MatchBool a.told (w ≡ a.watch) (makes front a.state.told a.state.client.who item a.watch w)

  -- the watch is told, and the item is answered
  pub record IsHeard (a : Scene W) (item : Item) (reply : Reply) (b : Scene W) : Type 0 where
    pub tells : Tells a item b.watch
    pub answered : IsAnswered manner front a.state item reply b.state
    pub next : b.told ≡ false

  -- the watch is told, and the item waits
  pub record IsPut (a : Scene W) (item : Item) (b : Scene W) : Type 0 where
    pub tells : Tells a item b.watch
    pub served : FindsNone front a.state item b.state
    pub put : b.told ≡ true

  abbrev pub Heard : Feeding (Scene W) → Feeding (Scene W) → Type 0
  Heard = FedBy IsHeard

  -- the first of these items were carried out, each told once
  abbrev pub Hears : Feeding (Scene W) → Feeding (Scene W) → Going → Type 0
  Hears = CarriesBy IsHeard IsPut manner front
