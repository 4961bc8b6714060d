-- What is known, while a connection is fed, of what the others have open, by the clients of their sessions; and whether what it
-- says keeps to the rules of bystanders.
use Rattle.std.specs.Prelude.{◌≡◌, ℕ, ◌&&◌, nat_lt, Bool, true, List, [], ◌∷◌, ◌++◌, Option, Some, None, option_map, Ok, MatchOption, if◌then◌else◌}
use Rattle.std.specs.Borrow.{Bor}
use Rattle.std.specs.Str.{bytes_eq}
use Rattle.iio_text.specs.declared.errors.Errno.TheVariants.{EFBIG}
use Rattle.iiod_grammar.specs.declared.lines.TheConstants.{MAX_PAYLOAD}
use Rattle.iiod_grammar.specs.Command.{Command, Exit, Write, WriteBuf}
use Rattle.iiod_grammar.specs.Stream.{Item, Said, Written, Streamed, End, Scanner, items_from}
use Rattle.iio_desc.specs.Kind.{is_input}
use Rattle.iiod_commands.specs.Client.{ClientRecord, client_of}
use Rattle.iio_core.specs.Front.{Front, kind_at}
use Rattle.iio_core.specs.Machine.{Machine}
use Rattle.iiod_commands.specs.Seat.{SeatRecord}
use Rattle.iiod_session.specs.Session.{SessionRecord}
use Rattle.iio_history.specs.Registry.{Setup}
use Rattle.iio_history.specs.Told.{Told}
use Rattle.iio_worlds.specs.Stance.{Opens, item_meets, items_meet, opens_by, own_has}
use Rattle.iio_bench.specs.declared.connection.Connection.{Connection}
use Rattle.iio_bench.specs.declared.guard.Guard.{Guard}
use Rattle.iio_bench.specs.declared.others.Others.{Others}
use Rattle.iio_kinds.specs.declared.seat.Seat.{Seat}
use Rattle.iio_bench.specs.Connection.{IsHearing, arrival}
use Rattle.iio_bench.specs.Feeding.{FeedState}
use Rattle.iio_bench.specs.Seat.{seen_of}

-- a watch after it was told these items, whatever the state before each
module _ {W : Type 0} (makes : Front → Option Machine → ℕ → Item → W → W → Type 0) (front : Front) where
  abbrev pub TellsAll : List Item → W → W → Type 0
  TellsAll [] w v = v ≡ w
  TellsAll (item ∷ items) w v = (u : W) × (told : Option Machine) × (who : ℕ) × makes front told who item w u × TellsAll items u v

-- the first connection of that name
abbrev pub connection_named : {S : Type 0} → List ℕ → List (Connection S) → Option (Connection S)
connection_named name [] = None
connection_named name (c ∷ cs) = if bytes_eq c.name name then Some c else connection_named name cs

module _ {S : Type 0} (seen : S → SeatRecord) where
  -- a watch is told the items of a connection that is fed, and none of one that has ended
  abbrev pub Watches : {W : Type 0} → (makes : Front → Option Machine → ℕ → Item → W → W → Type 0) → (bytes : List ℕ) → FeedState S → W → W → Type 0
  Watches makes bytes x w v =
      MatchOption x.connection.session (v ≡ w) (λ session. (s : Setup) (n : Told) (begun : Scanner)
      → IsHearing seen s n x.front x.told (arrival x.connection.name begun bytes) session → TellsAll makes x.front (items_from begun bytes) w v)

  -- a connection that has ended has no client
  abbrev pub with_client : Option (SessionRecord S) → List ClientRecord → List ClientRecord
  with_client None clients = clients
  with_client (Some x) clients = client_of seen x.client ∷ clients

  -- the clients of these connections except those of that name
  abbrev pub clients_besides : List ℕ → List (Connection S) → List ClientRecord
  clients_besides name [] = []
  clients_besides name (c ∷ cs) = if bytes_eq c.name name then clients_besides name cs else with_client c.session (clients_besides name cs)

  -- the client of the first connection of that name
  abbrev pub client_named : List ℕ → List (Connection S) → Option ClientRecord
  client_named name [] = None
  client_named name (c ∷ cs) = if bytes_eq c.name name then option_map (λ (x : SessionRecord S). client_of seen x.client) c.session else client_named name cs

  abbrev pub client_by : Option (Bor (SessionRecord S)) → Option ClientRecord
  client_by own = option_map (λ (x : Bor (SessionRecord S)). client_of seen x.now.client) own

  -- whether a feed keeps to the rules, if these are the other connections; a connection that has ended says nothing
  abbrev pub MeetsBeside : (watched bytes : List ℕ) → FeedState S → (others : List (Connection S)) → Bool → Type 0
  MeetsBeside watched bytes x others meets =
      MatchOption x.connection.session (meets ≡ true) (λ session. (s : Setup) (n : Told) (begun : Scanner)
      → IsHearing seen s n x.front x.told (arrival x.connection.name begun bytes) session
      → meets ≡ items_meet (opens_by x.front (client_named watched others) (clients_besides watched others)) (bytes_eq x.connection.name watched)
      (items_from begun bytes))

-- the item for a command that is told; a payload is left out
abbrev pub item_by : Command → Item
item_by Exit = End None
item_by (Write device target count) = if nat_lt MAX_PAYLOAD count then End (Some EFBIG) else Written device target []
item_by (WriteBuf device count) = if nat_lt MAX_PAYLOAD count then End (Some EFBIG) else Streamed device []
item_by said = Said (Ok said)

-- all connections except one, in their order
abbrev pub connections_of : Others → List (Connection Seat)
connections_of x = x.before.now ++ x.after.now

-- whether a connection with that client has device k open, and it is an input device
abbrev pub own_input : Front → Option ClientRecord → (k : ℕ) → Bool
own_input front own k = is_input (kind_at front k) && own_has own k

-- what a guard knows to be open
abbrev pub opens_at : Front → Guard → Opens
opens_at front x = opens_by front (client_by seen_of x.own) (clients_besides seen_of x.watched.now (connections_of x.others))

-- a guard after it was told an item
abbrev pub guards : Front → Option Machine → (who : ℕ) → Item → Guard → Guard → Type 0
guards front told who item x y = y ≡ record x { meets = x.meets && item_meets (opens_at front x) x.mine item }
