-- Where a connection stands.
use Rattle.std.specs.Prelude.{ℕ, [], Option}
use Rattle.iiod_grammar.specs.Stream.{InLine, Scanned, no_item}
use Rattle.iio_core.specs.Machine.{Machine}
use Rattle.iiod_commands.specs.Client.{State, state_of}
use Rattle.iiod_commands.specs.Seat.{SeatRecord}
use Rattle.iiod_session.specs.Session.{SessionRecord}

-- the state of the devices, what the connection has open there, and where its stream stands
pub record Place : Type 0 where
  pub state : State
  pub stream : Scanned

-- the place of a session
abbrev pub place_of : {S : Type 0} → (S → SeatRecord) → Option Machine → SessionRecord S → Place
place_of seen told s = record { state = state_of seen told s.client; stream = s.stream }

-- the place of a connection before anything was heard: it has nothing open at the devices
abbrev pub first_place : ℕ → Option Machine → Place
first_place who told = record {
  state = record { told = told; client = record { who = who; seats = []; buffers = []; holdings = [] }; traces = [] };
  stream = no_item (InLine []);
}
