-- Whether a step keeps to the rules of bystanders, by the sessions of the connections.
use Rattle.std.proofs.Common.{◌≡◌, ℕ, ◌||◌, not, Bool, true, false, cond, List, [], ◌∷◌, map, Option, Some, None, refl, sym, ap, ◌∙◌, rules}
use Rattle.std.specs.Str.{bytes_eq}
use Rattle.std.proofs.lemmas.Slice.Eq.{bytes_eq-Decides}
use Rattle.iiod_grammar.specs.Stream.{Item, Scanner, items_from}
use Rattle.iiod_commands.specs.Client.{ClientRecord, client_of}
use Rattle.iio_core.specs.Front.{Front}
use Rattle.iio_core.specs.Machine.{Machine}
use Rattle.iiod_commands.specs.Seat.{SeatRecord}
use Rattle.iiod_session.specs.Session.{SessionRecord}
use Rattle.iio_history.specs.Registry.{Setup, has_ended}
use Rattle.iio_history.specs.Told.{Line, Told, registry_of}
use Rattle.iio_history.specs.Transcript.{Feed, Drop, begun_by}
use Rattle.iio_history.specs.Bench.{AreDistinct, Every, IsClientOf, front_of, is_in, name_of, names_of}
use Rattle.iio_worlds.specs.Stance.{ClientsDecide, Opens, client_there, clients_but, items_meet, none_seated, one_seated, opens_by, own_has, step_meets}
use Rattle.iio_bench.specs.declared.connection.Connection.{Connection}
use Rattle.iio_bench.specs.Guard.{client_named, clients_besides, with_client}
use Rattle.iio_system.specs.System.{AreLines, IsServed, Stands}

-- ---- questions about what is open

-- the same is asked where what the connection itself may say is asked of the others, and what others may say of it
pub record Asks (mine : Bool) (x y : Opens) : Type 0 where
  pub own : mine ≡ false → (device : List ℕ) → x.own device ≡ y.own device
  pub others : mine ≡ true → (device : List ℕ) → x.others device ≡ y.others device
  pub none : mine ≡ true → x.none ≡ y.none

pub items_same : (x y : Opens) (mine : Bool) (items : List Item) → Asks mine x y → items_meet x mine items ≡ items_meet y mine items
items_same x y mine [] same = refl
items_same x y mine (item ∷ items) same = search (rules, items_same x y mine items same)

every_map : {A : Type 0} (P Q : A → Type 0) (xs : List A) → ((x : A) → P x → Q x) → Every P xs → Every Q xs
every_map P Q [] f all = tt
every_map P Q (x ∷ xs) f all = (f x all.0, every_map P Q xs f all.1)

itself : (name : List ℕ) → bytes_eq name name ≡ true
itself name = (bytes_eq-Decides name name).1 refl

-- names that don't include that one
others_all : (w : List ℕ) (ns : List (List ℕ)) → is_in ns w ≡ false → Every (λ n. bytes_eq w n ≡ false) ns
others_all w [] absent = tt
others_all w (n ∷ ns) absent = by (bytes_eq n w) refl absent (λ h. others_all w ns h)
  where
    by : (b : Bool) → bytes_eq n w ≡ b → (b || is_in ns w) ≡ false → (is_in ns w ≡ false → Every (λ x. bytes_eq w x ≡ false) ns)
        → Every (λ x. bytes_eq w x ≡ false) (n ∷ ns)
    by b is h rest = search rules

-- ---- clients by connections

abbrev pub seat_state_client : ClientRecord
seat_state_client = record { who = 0; seats = []; buffers = []; holdings = [] }

module _ {S : Type 0} (seen : S → SeatRecord) (front : Front) (m : Told) where
  abbrev pub client_of_line : (l : Line) (o : Option (SessionRecord S)) → IsServed seen front m l o → ClientRecord
  client_of_line l None gone = gone.client
  client_of_line l (Some x) live = client_of seen x.client

  abbrev pub client_at : (ls : List Line) (cs : List (Connection S)) → AreLines seen front m ls cs → List ℕ → ClientRecord
  client_at (l ∷ ls) (c ∷ cs) are name = cond (bytes_eq l.user.who name) (client_of_line l c.session are.0.served) (client_at ls cs are.1 name)
  client_at ls cs are name = seat_state_client

  clients_are : (ls : List Line) (cs : List (Connection S)) (are : AreLines seen front m ls cs)
      → Every (λ name. IsClientOf m name (client_at ls cs are name)) (map name_of ls)
  clients_are [] cs are = tt
  clients_are (l ∷ ls) [] are = absurd are
  clients_are (l ∷ ls) (c ∷ cs) are = search (rules, every_map, clients_are ls cs are.1)

  -- ---- the others

  but_same : (f g : List ℕ → ClientRecord) (a : List ℕ) (ns : List (List ℕ)) → Every (λ n. f n ≡ g n) ns → clients_but f a ns ≡ clients_but g a ns
  but_same f g a [] same = refl
  but_same f g a (n ∷ ns) same = search (rules, but_same f g a ns same.1)

  -- past the first line
  past : (l : Line) (ls : List Line) (c : Connection S) (cs : List (Connection S)) (are : AreLines seen front m (l ∷ ls) (c ∷ cs)) (a : List ℕ)
      → is_in (map name_of ls) l.user.who ≡ false
      → clients_but (client_at (l ∷ ls) (c ∷ cs) are) a (map name_of ls) ≡ clients_but (client_at ls cs are.1) a (map name_of ls)
  past l ls c cs are a absent =
      but_same (client_at (l ∷ ls) (c ∷ cs) are) (client_at ls cs are.1) a (map name_of ls)
      (every_map (λ n. bytes_eq l.user.who n ≡ false) (λ n. client_at (l ∷ ls) (c ∷ cs) are n ≡ client_at ls cs are.1 n) (map name_of ls)
      (λ n other. ap (λ (b : Bool). cond b (client_of_line l c.session are.0.served) (client_at ls cs are.1 n)) other)
      (others_all l.user.who (map name_of ls) absent))

  seated_more : (l : Line) (o : Option (SessionRecord S)) (p : IsServed seen front m l o) (k : ℕ) (ds es : List ClientRecord)
      → one_seated ds k ≡ one_seated es k
      → one_seated (client_of_line l o p ∷ ds) k ≡ one_seated (with_client seen o es) k
  seated_more l o gone k ds es rest = search rules

  none_more : (l : Line) (o : Option (SessionRecord S)) (p : IsServed seen front m l o) (ds es : List ClientRecord) → none_seated ds ≡ none_seated es
      → none_seated (client_of_line l o p ∷ ds) ≡ none_seated (with_client seen o es)
  none_more l o gone ds es rest = search rules

  -- the same for a list of clients and any test that a client with nothing doesn't change
  others_are : {B : Type 0} (f : List ClientRecord → B)
      → ((l : Line) (o : Option (SessionRecord S)) (p : IsServed seen front m l o) (ds es : List ClientRecord) → f ds ≡ f es
      → f (client_of_line l o p ∷ ds) ≡ f (with_client seen o es))
      → (ls : List Line) (cs : List (Connection S)) (are : AreLines seen front m ls cs) (a : List ℕ) → AreDistinct (map name_of ls)
      → f (clients_but (client_at ls cs are) a (map name_of ls)) ≡ f (clients_besides seen a cs)
  others_are f more [] [] are a apart = refl
  others_are f more [] (c ∷ cs) are a apart = absurd are
  others_are f more (l ∷ ls) [] are a apart = absurd are
  others_are f more (l ∷ ls) (c ∷ cs) are a apart = search (rules, past, others_are f more ls cs are.1 a apart.1)

  pub seated_besides : (ls : List Line) (cs : List (Connection S)) (are : AreLines seen front m ls cs) (a : List ℕ) (k : ℕ) → AreDistinct (map name_of ls)
      → one_seated (clients_but (client_at ls cs are) a (map name_of ls)) k ≡ one_seated (clients_besides seen a cs) k
  seated_besides ls cs are a k apart = others_are (λ ds. one_seated ds k) (λ l o p ds es rest. seated_more l o p k ds es rest) ls cs are a apart

  pub none_besides : (ls : List Line) (cs : List (Connection S)) (are : AreLines seen front m ls cs) (a : List ℕ) → AreDistinct (map name_of ls)
      → none_seated (clients_but (client_at ls cs are) a (map name_of ls)) ≡ none_seated (clients_besides seen a cs)
  none_besides ls cs are a apart = others_are none_seated none_more ls cs are a apart

  -- ---- what the watched connection has open

  pub own_named : (ls : List Line) (cs : List (Connection S)) (are : AreLines seen front m ls cs) (a : List ℕ) (k : ℕ)
      → own_has (client_there (client_at ls cs are) a (map name_of ls)) k ≡ own_has (client_named seen a cs) k
  own_named [] [] are a k = refl
  own_named [] (c ∷ cs) are a k = absurd are
  own_named (l ∷ ls) [] are a k = absurd are
  own_named (l ∷ ls) (c ∷ cs) are a k = search (rules, own_named ls cs are.1 a k)

  -- ---- what is open, by the connections that aren't fed

  -- for a feed of the watched connection the others are asked, for a feed of another the watched one
  pub asks_those : (s : Setup) (a : List ℕ) (mine : Bool) (ls : List Line) (cs others : List (Connection S)) (are : AreLines seen front m ls cs)
      → AreDistinct (map name_of ls) → front ≡ front_of s
      → (mine ≡ false → client_named seen a others ≡ client_named seen a cs) → (mine ≡ true → clients_besides seen a others ≡ clients_besides seen a cs)
      → Asks mine (opens_by front (client_named seen a others) (clients_besides seen a others))
      (opens_by (front_of s) (client_there (client_at ls cs are) a (map name_of ls)) (clients_but (client_at ls cs are) a (map name_of ls)))
  asks_those s a mine ls cs others are apart same own besides = search (rules, own_named, seated_besides, none_besides)

module _ {S : Type 0} (seen : S → SeatRecord) where
  -- ---- the whole

  -- what is said, by what is open
  pub meets_those : ClientsDecide
      → (s : Setup) (m : Told) (front : Front) (told : Option Machine) (cs others : List (Connection S)) (a name bytes : List ℕ) (begun : Scanner)
      (meets : Bool)
      → Stands seen s m front told cs → has_ended name (registry_of m).users ≡ false → begun_by name m.lines ≡ begun
      → (bytes_eq name a ≡ false → client_named seen a others ≡ client_named seen a cs)
      → (bytes_eq name a ≡ true → clients_besides seen a others ≡ clients_besides seen a cs)
      → meets ≡ items_meet (opens_by front (client_named seen a others) (clients_besides seen a others)) (bytes_eq name a) (items_from begun bytes)
      → meets ≡ step_meets s a m (Feed name bytes)
  meets_those decide s m front told cs others a name bytes begun meets stands live was own besides is =
      let clients = client_at seen front m m.lines cs stands.lines in
      let by_clients = decide s m a clients (Feed name bytes) stands.bench (clients_are seen front m m.lines cs stands.lines) in
      let asks = asks_those seen front m s a (bytes_eq name a) m.lines cs others stands.lines stands.bench.names stands.front_is own besides in
      is ∙ items_same _ _ (bytes_eq name a) (items_from begun bytes) asks
      ∙ ap (λ b. items_meet (opens_by (front_of s) (client_there clients a (names_of m)) (clients_but clients a (names_of m))) (bytes_eq name a)
      (items_from b bytes))
      (sym was)
      ∙ ap (λ b. b || items_meet (opens_by (front_of s) (client_there clients a (names_of m)) (clients_but clients a (names_of m))) (bytes_eq name a)
      (items_from (begun_by name m.lines) bytes)) (sym live)
      ∙ sym by_clients

  -- a connection that has ended says nothing
  pub meets_ended : (s : Setup) (m : Told) (a name bytes : List ℕ) → has_ended name (registry_of m).users ≡ true → true ≡ step_meets s a m (Feed name bytes)
  meets_ended s m a name bytes ended = cc

  -- a loss
  pub meets_lost : ClientsDecide → (s : Setup) (m : Told) (front : Front) (told : Option Machine) (cs : List (Connection S)) (a name : List ℕ) (meets : Bool)
      → Stands seen s m front told cs
      → meets ≡ (not (bytes_eq name a) || none_seated (clients_besides seen a cs)) → meets ≡ step_meets s a m (Drop name)
  meets_lost decide s m front told cs a name meets stands is =
      let clients = client_at seen front m m.lines cs stands.lines in
      is ∙ ap (λ b. not (bytes_eq name a) || b) (sym (none_besides seen front m m.lines cs stands.lines a stands.bench.names))
      ∙ sym (decide s m a clients (Drop name) stands.bench (clients_are seen front m m.lines cs stands.lines))
