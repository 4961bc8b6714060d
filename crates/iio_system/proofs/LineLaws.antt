-- The lines of the told state when one connection is heard.
use Rattle.std.proofs.Common.{◌≡◌, ℕ, ◌||◌, Bool, true, false, List, [], ◌∷◌, map, Option, Some, None, refl, sym, ap, ◌∙◌, subst, append-nil, rules}
use Rattle.std.specs.Str.{bytes_eq}
use Rattle.iiod_grammar.specs.Stream.{Item, Scanner, no_item}
use Rattle.iiod_commands.specs.Client.{ClientRecord, client_of}
use Rattle.iio_core.specs.Front.{Front}
use Rattle.iiod_commands.specs.Seat.{SeatRecord}
use Rattle.iiod_session.specs.Session.{SessionRecord}
use Rattle.iio_history.specs.Event.{Event, Arrived, Heard}
use Rattle.iio_history.specs.Registry.{Registry, Setup}
use Rattle.iio_history.specs.Told.{Line, Told, registry_of}
use Rattle.iio_history.specs.Machine.{line_after, step}
use Rattle.iio_history.specs.Played.{steps}
use Rattle.iio_history.specs.Bench.{Every, IsClientOf, is_in, name_of, names_of}
use Rattle.iio_history.specs.BenchLaw.{IsOthers, heard}
use Rattle.iio_history.proofs.BenchLists.{name_itself}
use Rattle.iio_history.proofs.BenchOthers.{clients_are_kept}
use Rattle.iio_bench.specs.declared.connection.Connection.{Connection}
use Rattle.iio_system.specs.System.{AreLines, IsServed}

pub apart_sym : (a b : List ℕ) → bytes_eq a b ≡ false → bytes_eq b a ≡ false
apart_sym a b apart = search rules

-- a line that is the same except for its buffers count
pub record SameLine (l l' : Line) : Type 0 where
  pub who : l'.user.who ≡ l.user.who
  pub ended : l'.user.ended ≡ l.user.ended
  pub begun : l'.begun ≡ l.begun

-- what another connection says changes nothing of a line
pub other_heard : (s : Setup) (r : Registry) (name : List ℕ) (item : Item) (l : Line) → bytes_eq l.user.who name ≡ false
    → SameLine l (line_after s r (Heard name item) l)
other_heard s r name item l apart = search rules

pub other_arrived : (s : Setup) (r : Registry) (name bytes : List ℕ) (l : Line) → bytes_eq l.user.who name ≡ false
    → SameLine l (line_after s r (Arrived name bytes) l)
other_arrived s r name bytes l apart = search rules

module _ {S : Type 0} (seen : S → SeatRecord) where
  pub served_moves : (front : Front) (m m' : Told) (l l' : Line) (o : Option (SessionRecord S)) → SameLine l l'
      → ((client : ClientRecord) → IsClientOf m l.user.who client → IsClientOf m' l.user.who client) → IsServed seen front m l o → IsServed seen front m' l' o
  served_moves front m m' l l' None same clients served = record {
    ended = same.ended ∙ served.ended;
    client = served.client;
    bare = served.bare;
    has = subst (λ (w : List ℕ). IsClientOf m' w served.client) (sym same.who) (clients served.client served.has);
  }
  served_moves front m m' l l' (Some x) same clients served = record {
    live = same.ended ∙ served.live;
    begun = λ at. served.begun (sym same.begun ∙ at);
    session = record {
      manner = served.session.manner;
      stream = served.session.stream ∙ ap (λ (b : Scanner). no_item b) (sym same.begun);
      client = subst (λ (w : List ℕ). IsClientOf m' w (client_of seen x.client)) (sym same.who) (clients (client_of seen x.client) served.session.client);
    };
    client = served.client;
  }

  -- the lines except the one of that name
  abbrev pub OthersAre : Front → Told → List ℕ → List Line → List (Connection S) → Type 0
  OthersAre front m name [] [] = Unit {0}
  OthersAre front m name (l ∷ ls) (c ∷ cs) =
      (c.name ≡ l.user.who) × (bytes_eq l.user.who name ≡ false → IsServed seen front m l c.session) × OthersAre front m name ls cs
  OthersAre front m name ls cs = ⊥

  pub others_are : (front : Front) (m : Told) (name : List ℕ) (ls : List Line) (cs : List (Connection S)) → AreLines seen front m ls cs
      → OthersAre front m name ls cs
  others_are front m name [] [] are = tt
  others_are front m name [] (c ∷ cs) are = absurd are
  others_are front m name (l ∷ ls) [] are = absurd are
  others_are front m name (l ∷ ls) (c ∷ cs) are = (are.0.name, λ apart. are.0.served, others_are front m name ls cs are.1)

  -- one step of them
  pub others_move : (front : Front) (m m' : Told) (name : List ℕ) (f : Line → Line) (ls : List Line) (cs : List (Connection S))
      → ((l : Line) → (f l).user.who ≡ l.user.who)
      → ((l : Line) → bytes_eq l.user.who name ≡ false → SameLine l (f l))
      → Every (λ (l : Line). (client : ClientRecord) → bytes_eq l.user.who name ≡ false → IsClientOf m l.user.who client → IsClientOf m' l.user.who client) ls
      → OthersAre front m name ls cs → OthersAre front m' name (map f ls) cs
  others_move front m m' name f [] [] who same clients are = tt
  others_move front m m' name f [] (c ∷ cs) who same clients are = absurd are
  others_move front m m' name f (l ∷ ls) [] who same clients are = absurd are
  others_move front m m' name f (l ∷ ls) (c ∷ cs) who same clients are = (
    are.0 ∙ sym (who l),
    λ apart. let was : bytes_eq l.user.who name ≡ false = ap (λ (w : List ℕ). bytes_eq w name) (sym (who l)) ∙ apart in
        served_moves front m m' l (f l) c.session (same l was) (λ client d. clients.0 client was d) (are.1 was),
    others_move front m m' name f ls cs who same clients.1 are.2,
  )

-- each line's name is there
every_there : (names : List (List ℕ)) (ls : List Line) → ((w : List ℕ) → is_in (map name_of ls) w ≡ true → is_in names w ≡ true)
    → Every (λ (l : Line). is_in names l.user.who ≡ true) ls
every_there names [] all = tt
every_there names (l ∷ ls) all = (
  all l.user.who (ap (λ (b : Bool). b || is_in (map name_of ls) l.user.who) (name_itself l.user.who)),
  every_there names ls (λ w h. all w (ap (λ (b : Bool). bytes_eq l.user.who w || b) h ∙ or_true (bytes_eq l.user.who w))),
)
  where
    or_true : (b : Bool) → (b || true) ≡ true
    or_true b = search rules

pub every_line_there : (m : Told) → Every (λ (l : Line). is_in (names_of m) l.user.who ≡ true) m.lines
every_line_there m = every_there (names_of m) m.lines (λ w h. h)

pub clients_kept : (s : Setup) (m : Told) (e : Event) (name : List ℕ) (ls : List Line)
    → ((l : Line) → bytes_eq l.user.who name ≡ false → IsOthers l.user.who e)
    → Every (λ (l : Line). is_in (names_of m) l.user.who ≡ true) ls
    → Every (λ (l : Line). (client : ClientRecord) → bytes_eq l.user.who name ≡ false → IsClientOf m l.user.who client
    → IsClientOf (step s m e) l.user.who client) ls
clients_kept s m e name [] others there = tt
clients_kept s m e name (l ∷ ls) others there = search (rules, clients_are_kept, clients_kept s m e name ls others there.1)

module _ {S : Type 0} (seen : S → SeatRecord) where
  pub others_after_item : (s : Setup) (m : Told) (front : Front) (name : List ℕ) (item : Item) (cs : List (Connection S))
      → OthersAre seen front m name m.lines cs → OthersAre seen front (step s m (Heard name item)) name (step s m (Heard name item)).lines cs
  others_after_item s m front name item cs are =
      subst (λ (ls : List Line). OthersAre seen front (step s m (Heard name item)) name ls cs)
      (sym (append-nil (map (line_after s (registry_of m) (Heard name item)) m.lines)))
      (others_move seen front m (step s m (Heard name item)) name (line_after s (registry_of m) (Heard name item)) m.lines cs (λ l. refl)
      (λ l apart. other_heard s (registry_of m) name item l apart)
      (clients_kept s m (Heard name item) name m.lines (λ l apart. apart_sym l.user.who name apart) (every_line_there m)) are)

  pub others_after_items : (s : Setup) (m : Told) (front : Front) (name : List ℕ) (items : List Item) (cs : List (Connection S))
      → OthersAre seen front m name m.lines cs → OthersAre seen front (steps s m (heard name items)) name (steps s m (heard name items)).lines cs
  others_after_items s m front name [] cs are = are
  others_after_items s m front name (item ∷ items) cs are =
      others_after_items s (step s m (Heard name item)) front name items cs (others_after_item s m front name item cs are)

  pub others_arrived : (s : Setup) (m : Told) (front : Front) (name bytes : List ℕ) (cs : List (Connection S))
      → (step s m (Arrived name bytes)).lines ≡ map (line_after s (registry_of m) (Arrived name bytes)) m.lines
      → OthersAre seen front m name m.lines cs → OthersAre seen front (step s m (Arrived name bytes)) name (step s m (Arrived name bytes)).lines cs
  others_arrived s m front name bytes cs lines are =
      subst (λ (ls : List Line). OthersAre seen front (step s m (Arrived name bytes)) name ls cs) (sym lines)
      (others_move seen front m (step s m (Arrived name bytes)) name (line_after s (registry_of m) (Arrived name bytes)) m.lines cs (λ l. refl)
      (λ l apart. other_arrived s (registry_of m) name bytes l apart)
      (clients_kept s m (Arrived name bytes) name m.lines (λ l apart. tt) (every_line_there m)) are)
