-- The core by the told state: its devices by numbers, its connections line by line.
use Rattle.std.specs.Prelude.{◌≡◌, ◌≢◌, true, false, List, [], ◌∷◌, Option, Some, None}
use Rattle.iiod_grammar.specs.Stream.{AtEnd}
use Rattle.iiod_commands.specs.Client.{ClientRecord, IsClient}
use Rattle.iio_core.specs.Front.{Front}
use Rattle.iio_core.specs.Machine.{Machine}
use Rattle.iiod_commands.specs.Seat.{SeatRecord}
use Rattle.iiod_session.specs.Session.{SessionRecord}
use Rattle.iio_history.specs.Registry.{Setup}
use Rattle.iio_history.specs.Told.{Line, Told}
use Rattle.iio_history.specs.Bench.{IsBench, IsClientOf, front_of, machine_of}
use Rattle.iio_bench.specs.declared.connection.Connection.{Connection}
use Rattle.iio_bench.specs.Connection.{IsSessionOf}

abbrev pub IsBare : ClientRecord → Type 0
IsBare client = (client.seats ≡ []) × (client.holdings ≡ [])

module _ {S : Type 0} (seen : S → SeatRecord) where
  -- the session of a connection that hasn't ended
  pub record IsLive (front : Front) (m : Told) (l : Line) (x : SessionRecord S) : Type 0 where
    pub live : l.user.ended ≡ false
    pub begun : l.begun ≢ AtEnd
    pub session : IsSessionOf seen m l.user.who l.begun x
    pub client : IsClient seen front x.client

  -- a connection that has ended has nothing at the devices any more
  pub record IsGone (m : Told) (l : Line) : Type 0 where
    pub ended : l.user.ended ≡ true
    pub client : ClientRecord
    pub bare : IsBare client
    pub has : IsClientOf m l.user.who client

  -- and it has no session
  abbrev pub IsServed : Front → Told → Line → Option (SessionRecord S) → Type 0
  IsServed front m l None = IsGone m l
  IsServed front m l (Some x) = IsLive front m l x

  -- a connection is that line of the told state
  pub record IsLine (front : Front) (m : Told) (l : Line) (c : Connection S) : Type 0 where
    pub name : c.name ≡ l.user.who
    pub served : IsServed front m l c.session

  -- the connections are these lines, in their order
  abbrev pub AreLines : Front → Told → List Line → List (Connection S) → Type 0
  AreLines front m [] [] = Unit {0}
  AreLines front m (l ∷ ls) (c ∷ cs) = IsLine front m l c × AreLines front m ls cs
  AreLines front m ls cs = ⊥

  -- the devices and the connections stand as the told state says
  pub record Stands (s : Setup) (m : Told) (front : Front) (told : Option Machine) (connections : List (Connection S)) : Type 0 where
    pub front_is : front ≡ front_of s
    pub told_is : told ≡ Some (machine_of m)
    pub bench : IsBench s m
    pub lines : AreLines front m m.lines connections
