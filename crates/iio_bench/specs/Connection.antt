-- A connection of a script over the told state.
use Rattle.std.specs.Prelude.{◌≡◌, ℕ, true, List, length, Option, Some}
use Rattle.iiod_grammar.specs.Stream.{Item, Scanner, items_from, no_item, scanner_after}
use Rattle.iiod_commands.specs.declared.manner.Manner.TheVariants.{Script}
use Rattle.iiod_commands.specs.Client.{client_of}
use Rattle.iio_core.specs.Front.{Front}
use Rattle.iio_core.specs.Machine.{Machine}
use Rattle.iiod_commands.specs.Seat.{SeatRecord}
use Rattle.iiod_session.specs.Session.{SessionRecord}
use Rattle.iio_history.specs.Event.{Event}
use Rattle.iio_history.specs.Registry.{Setup}
use Rattle.iio_history.specs.Told.{Told}
use Rattle.iio_history.specs.Played.{steps}
use Rattle.iio_history.specs.Bench.{Every, IsBench, IsClientOf, front_of, is_in, machine_of, names_of}
use Rattle.iio_history.specs.BenchLaw.{CanJoinMore, heard}

-- bytes that arrive at a connection: its name, how much of its stream has begun, and the bytes
pub record Arrival : Type 0 where
  pub name : List ℕ
  pub begun : Scanner
  pub bytes : List ℕ

abbrev pub arrival : (name : List ℕ) → Scanner → (bytes : List ℕ) → Arrival
arrival name begun bytes = record { name = name; begun = begun; bytes = bytes }

-- the items that the bytes make whole
abbrev pub items_of : Arrival → List Item
items_of a = items_from a.begun a.bytes

-- the same as events
abbrev pub heard_of : Arrival → List Event
heard_of a = heard a.name (items_of a)

-- how much of the stream has begun after them
abbrev pub scanner_of : Arrival → Scanner
scanner_of a = scanner_after a.begun a.bytes

module _ {S : Type 0} (seen : S → SeatRecord) where
  -- a session is that of this connection, with a stream that has begun this much
  pub record IsSessionOf (m : Told) (name : List ℕ) (begun : Scanner) (x : SessionRecord S) : Type 0 where
    pub manner : x.manner ≡ Script
    pub stream : x.stream ≡ no_item begun
    pub client : IsClientOf m name (client_of seen x.client)

  -- the devices and the connection's session when bytes of it have arrived: the connection is there, and members can still be
  -- numbered
  pub record IsHearing (s : Setup) (m : Told) (front : Front) (told : Option Machine) (a : Arrival) (x : SessionRecord S) : Type 0 where
    pub front_is : front ≡ front_of s
    pub told_is : told ≡ Some (machine_of m)
    pub bench : IsBench s m
    pub there : is_in (names_of m) a.name ≡ true
    pub session : IsSessionOf m a.name a.begun x
    pub room : Every (CanJoinMore (length (items_of a))) m.stations

  -- the items that the bytes make whole were heard
  pub record HasHeard (s : Setup) (m : Told) (told : Option Machine) (a : Arrival) (x : SessionRecord S) : Type 0 where
    pub told_is : told ≡ Some (machine_of (steps s m (heard_of a)))
    pub bench : IsBench s (steps s m (heard_of a))
    pub session : IsSessionOf (steps s m (heard_of a)) a.name (scanner_of a) x
