-- A feed: the items received and not answered yet, each with its answer, one after another.
use Rattle.std.specs.Prelude.{◌≡◌, ◌≢◌, ℕ, List, [], ◌∷◌, ◌++◌, Some, IfSome}
use Rattle.std.specs.List.{flat_map}
use Rattle.iio_text.specs.declared.errors.Errno.TheVariants.{EAGAIN}
use Rattle.iiod_grammar.specs.Stream.{Item, Scanned, AtEnd}
use Rattle.iiod_reply.specs.Reply.{Reply, Refusal, text_of}
use Rattle.iiod_session.specs.declared.going.Going.{Going}
use Rattle.iiod_session.specs.declared.going.Going.TheVariants.{On, Waits, Ended}
use Rattle.iiod_commands.specs.declared.manner.Manner.{Manner}
use Rattle.iiod_commands.specs.declared.manner.Manner.TheVariants.{Script, Server}
use Rattle.iiod_commands.specs.Acts.{act}
use Rattle.iiod_commands.specs.Client.{ClientRecord, State}
use Rattle.iio_core.specs.Front.{Front}
use Rattle.iiod_session.specs.Given.{GivenIs}
use Rattle.iio_core.specs.Machine.{Machine}
use Rattle.iiod_commands.specs.Moves.{Serves}
use Rattle.iiod_commands.specs.Performs.{IsAllowed, IsAnswerOf, IsReadOf}

-- what a feed changes: a state, the items received and not answered yet with where the stream stands, and the answers so far
pub record Feeding (S : Type 0) : Type 0 where
  pub state : S
  pub stream : Scanned
  pub out : List ℕ

abbrev pub feeding : {S : Type 0} → S → Scanned → List ℕ → Feeding S
feeding s stream out = record { state = s; stream = stream; out = out }

-- one item and its answer
pub record IsAnswered (manner : Manner) (front : Front) (a : State) (item : Item) (reply : Reply) (b : State) : Type 0 where
  pub allowed : IsAllowed manner reply
  pub answer : IsAnswerOf item manner reply
  pub served : Serves front a item reply b

-- a READBUF for which nothing waits: it isn't answered yet
abbrev pub FindsNone : Front → State → Item → State → Type 0
FindsNone front a item b = Serves front a item (Refusal EAGAIN) b

-- ---- items one after another, over any states: `Answered` says what an item and its answer make, `Unanswered` what a READBUF
-- that waits makes

module _ {S : Type 0} (Answered : S → Item → Reply → S → Type 0) where
  -- these items, each with its answer
  abbrev pub RunBy : S → List Item → List Reply → S → Type 0
  RunBy a [] [] b = b ≡ a
  RunBy a (item ∷ items) (reply ∷ replies) b = (mid : S) × Answered a item reply mid × RunBy mid items replies b
  RunBy a [] (reply ∷ replies) b = ⊥
  RunBy a (item ∷ items) [] b = ⊥

  -- the first of the whole items were answered
  pub record FedBy (x y : Feeding S) : Type 0 where
    pub items : List Item
    pub replies : List Reply
    pub heard : x.stream.items ≡ items ++ y.stream.items
    pub next : y.stream.next ≡ x.stream.next
    pub text : y.out ≡ x.out ++ flat_map text_of replies
    pub run : RunBy x.state items replies y.state

module _ {S : Type 0} (Unanswered : S → Item → S → Type 0) (manner : Manner) (front : Front) where
  -- the first item left is a READBUF of that device, for which nothing waits
  pub record IsWaitingBy (dev : ℕ) (a : S) (left : Scanned) (b : S) : Type 0 where
    pub server : manner ≡ Server
    pub item : Item
    pub more : List Item
    pub first : left.items ≡ item ∷ more
    pub read : IsReadOf front dev item
    pub served : Unanswered a item b

  -- how the connection then stands
  abbrev pub StandsBy : S → Scanned → S → Going → Type 0
  StandsBy a left b On = (b ≡ a) × (left.next ≢ AtEnd)
  StandsBy a left b (Waits dev) = IsWaitingBy dev a left b
  StandsBy a left b Ended = (b ≡ a) × (left ≡ record { items = []; next = AtEnd })

-- the first of these items were carried out, and the connection then stands so
pub record CarriesBy {S : Type 0} (Answered : S → Item → Reply → S → Type 0) (Unanswered : S → Item → S → Type 0) (manner : Manner) (front : Front)
    (x y : Feeding S) (going : Going) : Type 0 where
  pub mid : S
  pub fed : FedBy Answered x (record y { state = mid })
  pub stands : StandsBy Unanswered manner front mid y.stream y.state going

-- ---- over the state of the devices and what the connection has

abbrev pub Run : Manner → Front → State → List Item → List Reply → State → Type 0
Run manner front = RunBy (IsAnswered manner front)

abbrev pub Stands : Manner → Front → State → Scanned → State → Going → Type 0
Stands manner front = StandsBy (FindsNone front) manner front

abbrev pub Carries : Manner → Front → Feeding State → Feeding State → Going → Type 0
Carries manner front = CarriesBy (IsAnswered manner front) (FindsNone front) manner front

-- ... and the scans that the seats gave are those that were answered
pub record Feeds (manner : Manner) (front : Front) (x y : Feeding State) (going : Going) : Type 0 where
  pub carried : Carries manner front x y going
  pub given : GivenIs front carried.fed.items carried.fed.replies x.state y.state

-- ---- in a script, over a told state: everything is determined

-- the bytes of the answers to the items, and the state after them
abbrev pub texts_of : Front → Machine → ClientRecord → List Item → List ℕ
texts_of front m client [] = []
texts_of front m client (item ∷ items) =
    let acted = act front m client item in text_of acted.reply ++ texts_of front acted.machine acted.client items

abbrev pub machine_after : Front → Machine → ClientRecord → List Item → Machine
machine_after front m client [] = m
machine_after front m client (item ∷ items) = let acted = act front m client item in machine_after front acted.machine acted.client items

abbrev pub client_after : Front → Machine → ClientRecord → List Item → ClientRecord
client_after front m client [] = client
client_after front m client (item ∷ items) = let acted = act front m client item in client_after front acted.machine acted.client items

pub record Tells (front : Front) (m : Machine) (client : ClientRecord) (items : List Item) (text : List ℕ) (b : State) : Type 0 where
  pub said : text ≡ texts_of front m client items
  pub machine : b.told ≡ Some (machine_after front m client items)
  pub after : b.client ≡ client_after front m client items

-- what a feed of a script appends over a told state: the answer to each item
abbrev pub FeedTells : Manner → Front → State → List Item → List ℕ → List ℕ → State → Type 0
FeedTells Script front a items before after b = IfSome a.told (λ m. (text : List ℕ) × (after ≡ before ++ text) × Tells front m a.client items text b)
FeedTells Server front a items before after b = Unit {0}
