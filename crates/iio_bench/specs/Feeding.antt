-- The feed of a connection.
use Rattle.std.specs.Prelude.{◌≡◌, ℕ, Bool, true, false, List, [], ◌∷◌, ◌++◌, Option, Some, None, IfSome, MatchOption, if◌then◌else◌}
use Rattle.iio_text.specs.Escape.{quoted}
use Rattle.iiod_grammar.specs.Stream.{AtEnd, Scanner}
use Rattle.iio_sensor.specs.Driver.{Driver}
use Rattle.iio_device.specs.declared.plug.Plug.{Plug}
use Rattle.iio_kinds.specs.declared.seat.Seat.{Seat}
use Rattle.iiod_commands.specs.Acts.{left_machine}
use Rattle.iiod_commands.specs.Client.{IsClient, client_of}
use Rattle.iio_core.specs.Front.{Front}
use Rattle.iio_core.specs.Machine.{Machine}
use Rattle.iiod_commands.specs.Seat.{SeatRecord}
use Rattle.iiod_session.specs.Session.{SessionRecord}
use Rattle.iio_history.specs.Registry.{Setup}
use Rattle.iio_history.specs.Told.{Told}
use Rattle.iio_history.specs.Played.{texts}
use Rattle.iio_history.specs.Transcript.{closed_line, printed}
use Rattle.iio_bench.specs.declared.bench.Bench.{Bench}
use Rattle.iio_bench.specs.declared.connection.Connection.{Connection}
use Rattle.iio_bench.specs.Bench.{front_of, machine_of}
use Rattle.iio_bench.specs.Connection.{Arrival, HasHeard, IsHearing, arrival, heard_of, scanner_of}

-- whether further bytes mean nothing
abbrev pub is_at_end : Scanner → Bool
is_at_end AtEnd = true
is_at_end s = false

-- the lines of a feed: what was answered, and whether the connection has ended with it
abbrev pub feed_lines : Setup → Told → Arrival → List ℕ
feed_lines s n a = printed (a.name ∷ quoted (texts s n (heard_of a)) ∷ []) ++ (if is_at_end (scanner_of a) then closed_line a.name else [])

-- the state that a feed changes: the devices as they are told, the connection, and what was printed
pub record FeedState (S : Type 0) : Type 0 where
  pub front : Front
  pub told : Option Machine
  pub connection : Connection S
  pub printed : List ℕ

-- the same at a bench
module _ {X : Type 0} {V : X → Type 0} (driver : Plug X V → Driver) where
  abbrev pub feed_state : Bench X V → Connection Seat → (printed : List ℕ) → FeedState Seat
  feed_state b c text = record { front = front_of b; told = Some (machine_of driver b); connection = c; printed = text }

module _ {S : Type 0} (seen : S → SeatRecord) where
  -- what a connection's session holds is owned
  abbrev pub IsOwning : Front → Option (SessionRecord S) → Type 0
  IsOwning front session = IfSome session (λ x. IsClient seen front x.client)

  -- the devices after a connection is lost, if it has a session
  abbrev pub left_by : Front → Machine → Option (SessionRecord S) → Machine
  left_by front m None = m
  left_by front m (Some x) = left_machine front m (client_of seen x.client)

  -- a connection that hadn't ended was fed: it has no session any more if it ended with this feed
  pub record HasFed (s : Setup) (n : Told) (a : Arrival) (x y : FeedState S) : Type 0 where
    pub spoken : SessionRecord S
    pub heard_by : HasHeard seen s n y.told a spoken
    pub left : y.connection.session ≡ (if is_at_end (scanner_of a) then None else Some spoken)
    pub lines : y.printed ≡ x.printed ++ feed_lines s n a

  -- a feed; if the connection has already ended, only the line that says so is printed again
  abbrev pub Feeds : (bytes : List ℕ) → (x y : FeedState S) → Type 0
  Feeds bytes x y =
      MatchOption x.connection.session ((y.connection.session ≡ None) × (y.told ≡ x.told) × (y.printed ≡ x.printed ++ closed_line x.connection.name))
      (λ session. (s : Setup) (n : Told) (begun : Scanner) → IsHearing seen s n x.front x.told (arrival x.connection.name begun bytes) session
      → HasFed s n (arrival x.connection.name begun bytes) x y)
