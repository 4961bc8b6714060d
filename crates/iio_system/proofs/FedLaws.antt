-- A feed of a connection that is there and hasn't ended.
use Rattle.std.proofs.Common.{◌≡◌, ℕ, suc, ◌<◌, ◌||◌, Bool, true, false, cond, List, [], ◌∷◌, ◌++◌, length, map, get_or, set, Option, Some, None, option_map, is_some, refl, sym, ap, ◌∙◌, subst, rules}
use Rattle.std.specs.Str.{bytes_eq}
use Rattle.iio_text.specs.Escape.{quoted}
use Rattle.iiod_grammar.specs.Stream.{AtEnd, InLine, Scanner, items_from, scanner_after}
use Rattle.iiod_commands.specs.Client.{ClientRecord, client_of}
use Rattle.iio_core.specs.Front.{Front}
use Rattle.iio_core.specs.Machine.{Machine}
use Rattle.iiod_session.specs.Run.{client_after}
use Rattle.iiod_commands.specs.Seat.{SeatRecord}
use Rattle.iiod_session.specs.Session.{SessionRecord}
use Rattle.iio_history.specs.Event.{Event, Arrived}
use Rattle.iio_history.specs.Registry.{Setup, ConnectionRecord, has_ended, user_named}
use Rattle.iio_history.specs.Fold.{new_user, newcomers}
use Rattle.iio_history.specs.Told.{Line, Told, registry_of, user_of}
use Rattle.iio_history.specs.Machine.{line_after, step}
use Rattle.iio_history.specs.Played.{state_after, step_lines, steps, texts}
use Rattle.iio_history.specs.Transcript.{Feed, begun_by, closed_line, events_of_step, line_named, printed}
use Rattle.iio_history.specs.Bench.{Every, IsClientOf, front_of, is_in, machine_of, names_of}
use Rattle.iio_history.specs.BenchLaw.{CanJoinMore}
use Rattle.iio_history.proofs.BenchFeeds.{feeds_are_acts}
use Rattle.iio_history.proofs.BenchKept.{arrived_is_there, bench_kept, room_after}
use Rattle.iio_history.proofs.BenchLists.{name_same}
use Rattle.iio_history.proofs.BenchOthers.{arrival_is_nothing, clients_are_kept}
use Rattle.iio_bench.specs.declared.connection.Connection.{Connection}
use Rattle.iio_bench.specs.Connection.{Arrival, HasHeard, IsHearing, IsSessionOf, arrival, heard_of, items_of, scanner_of}
use Rattle.iio_system.specs.System.{IsBare, IsLive, IsServed, Stands}
use Rattle.iio_system.proofs.EndLaws.{seat_state_after, bytes_agree, has_end}
use Rattle.iio_bench.specs.Feeding.{IsOwning, is_at_end}
use Rattle.iio_system.proofs.LineLaws.{OthersAre, others_after_items, others_are, others_arrived}
use Rattle.iio_system.proofs.OwnLaws.{line_found, line_mapped, own_items, rejoined, with_session}

abbrev ended_by : Option ConnectionRecord → Bool
ended_by o = elim o [ None ↦ false | Some u ↦ u.ended ]

-- the users of lines
pub user_of_line : (name : List ℕ) (ls : List Line) → user_named name (map user_of ls) ≡ option_map user_of (line_named name ls)
user_of_line name [] = refl
user_of_line name (l ∷ ls) = by (bytes_eq l.user.who name) (user_of_line name ls)
  where
    by : (b : Bool) → user_named name (map user_of ls) ≡ option_map user_of (line_named name ls)
        → cond b (Some l.user) (user_named name (map user_of ls)) ≡ option_map user_of (cond b (Some l) (line_named name ls))
    by b h = search rules

pub user_is : (m : Told) (name : List ℕ) (l : Line) → line_named name m.lines ≡ Some l → user_named name (registry_of m).users ≡ Some l.user
user_is m name l is = user_of_line name m.lines ∙ ap (λ (o : Option Line). option_map user_of o) is

-- no connection is new
none_new : (s : Setup) (m : Told) (name bytes : List ℕ) (l : Line) → line_named name m.lines ≡ Some l
    → newcomers s (Arrived name bytes) (registry_of m).users ≡ []
none_new s m name bytes l is = ap (λ (o : Option ConnectionRecord). cond (is_some o) [] (new_user s name ∷ [])) (user_is m name l is)

-- the lines after the connection's bytes came
arrived_lines : (s : Setup) (m : Told) (name bytes : List ℕ) (l : Line) → line_named name m.lines ≡ Some l
    → (step s m (Arrived name bytes)).lines ≡ map (line_after s (registry_of m) (Arrived name bytes)) m.lines
arrived_lines s m name bytes l is = search (rules, none_new)

pub arrived_own : (s : Setup) (m : Told) (name bytes : List ℕ) (l : Line) → line_named name m.lines ≡ Some l
    → line_named name (step s m (Arrived name bytes)).lines ≡ Some (line_after s (registry_of m) (Arrived name bytes) l)
arrived_own s m name bytes l is = search (rules, arrived_lines, line_mapped)

arrived_begun : (s : Setup) (m : Told) (name bytes : List ℕ) (l : Line) → bytes_eq l.user.who name ≡ true
    → (line_after s (registry_of m) (Arrived name bytes) l).begun ≡ scanner_after l.begun bytes
arrived_begun s m name bytes l own = search rules

module _ {S : Type 0} (seen : S → SeatRecord) where
  -- the session when its bytes came
  pub is_hearing : (s : Setup) (m : Told) (front : Front) (told : Option Machine) (cs : List (Connection S)) (name bytes : List ℕ) (l : Line)
      (x : SessionRecord S)
      → Stands seen s m front told cs → line_named name m.lines ≡ Some l → IsLive seen front m l x → is_in (names_of m) name ≡ true
      → Every (CanJoinMore (suc (length (items_from l.begun bytes)))) m.stations
      → IsHearing seen s (step s m (Arrived name bytes)) front told (arrival name l.begun bytes) x
  is_hearing s m front told cs name bytes l x stands is live there room =
      let own : l.user.who ≡ name = name_same l.user.who name (line_found name m.lines l is) in
      record {
        front_is = stands.front_is;
        told_is = stands.told_is ∙ ap (λ (n : Machine). Some n) (sym (arrival_is_nothing s m name bytes stands.bench));
        bench = bench_kept s m (Arrived name bytes) tt stands.bench;
        there = arrived_is_there s m name bytes;
        session = record {
          manner = live.session.manner;
          stream = live.session.stream;
          client =
              clients_are_kept s m (Arrived name bytes) name (client_of seen x.client) tt there
              (subst (λ (w : List ℕ). IsClientOf m w (client_of seen x.client)) own live.session.client);
        };
        room = room_after s m (Arrived name bytes) (length (items_from l.begun bytes)) room;
      }

-- ---- what holds afterwards

-- a connection has a client with nothing on it
abbrev pub HasNothing : Told → List ℕ → Type 0
HasNothing m name = (client : ClientRecord) × IsBare client × IsClientOf m name client

-- the bytes have come: its line, and those of the others
pub record HasArrived {S : Type 0} (seen : S → SeatRecord) (front : Front) (n : Told) (a : Arrival) (cs : List (Connection S)) : Type 0 where
  pub line : Line
  pub is : line_named a.name n.lines ≡ Some line
  pub live : line.user.ended ≡ false
  pub more : line.begun ≡ scanner_of a
  pub open_before : is_at_end a.begun ≡ false
  pub others : OthersAre seen front n a.name n.lines cs

module _ {S : Type 0} (seen : S → SeatRecord) where
  -- its line after they were heard
  line_heard : (s : Setup) (front : Front) (n : Told) (a : Arrival) (cs : List (Connection S)) → HasArrived seen front n a cs
      → (l : Line) × (line_named a.name (steps s n (heard_of a)).lines ≡ Some l) × (l.user.ended ≡ is_at_end (scanner_of a)) × (l.begun ≡ scanner_of a)
  line_heard s front n a cs h =
      let o = own_items s n a.name (items_of a) h.line h.is in
      (o.0, o.1, o.2 ∙ ap (λ (b : Bool). b || has_end (items_of a)) h.live ∙ bytes_agree a.begun a.bytes h.open_before, o.3 ∙ h.more)

  served_by : (front : Front) (m : Told) (name : List ℕ) (begun : Scanner) (l : Line) (x : SessionRecord S) (e : Bool) → bytes_eq l.user.who name ≡ true
      → is_at_end begun ≡ e → l.user.ended ≡ is_at_end begun → l.begun ≡ begun → IsSessionOf seen m name begun x → IsOwning seen front (cond e None (Some x))
      → (is_at_end begun ≡ true → HasNothing m name)
      → IsServed seen front m l (cond e None (Some x))
  served_by front m name begun l x e own at ended same session client gone = search rules

  pub stands_fed : (s : Setup) (n : Told) (front : Front) (told' : Option Machine) (cs : List (Connection S)) (a : Arrival) (x' : SessionRecord S) (i : ℕ)
      (d : Connection S)
      → front ≡ front_of s → HasArrived seen front n a cs → HasHeard seen s n told' a x' → IsOwning seen front (cond (is_at_end (scanner_of a)) None (Some x'))
      → (is_at_end (scanner_of a) ≡ true → HasNothing (steps s n (heard_of a)) a.name)
      → i < length cs → ((k : ℕ) → k < i → bytes_eq (get_or cs k d).name a.name ≡ false) → bytes_eq (get_or cs i d).name a.name ≡ true
      → Stands seen s (steps s n (heard_of a)) front told' (set cs i (with_session seen (cond (is_at_end (scanner_of a)) None (Some x')) (get_or cs i d)))
  stands_fed s n front told' cs a x' i d same arrived said client gone less apart here =
      let m2 = steps s n (heard_of a) in
      let line = line_heard s front n a cs arrived in
      record {
        front_is = same;
        told_is = said.told_is;
        bench = said.bench;
        lines = search (rules, rejoined, others_after_items, served_by, line_found);
      }

  -- a connection that was there
  pub has_arrived : (s : Setup) (m : Told) (front : Front) (told : Option Machine) (cs : List (Connection S)) (name bytes : List ℕ) (l : Line)
      (x : SessionRecord S)
      → Stands seen s m front told cs → line_named name m.lines ≡ Some l → IsLive seen front m l x
      → HasArrived seen front (step s m (Arrived name bytes)) (arrival name l.begun bytes) cs
  has_arrived s m front told cs name bytes l x stands is live = record {
    line = line_after s (registry_of m) (Arrived name bytes) l;
    is = arrived_own s m name bytes l is;
    live = live.live;
    more = arrived_begun s m name bytes l (line_found name m.lines l is);
    open_before = not_end l.begun live.begun;
    others = others_arrived seen s m front name bytes cs (arrived_lines s m name bytes l is) (others_are seen front m name m.lines cs stands.lines);
  }
    where
      not_end : (b : Scanner) → (b ≡ AtEnd → ⊥) → is_at_end b ≡ false
      not_end b h = search rules

module _ {S : Type 0} (seen : S → SeatRecord) where
  -- after it has ended it has nothing
  pub has_nothing : (s : Setup) (n : Told) (front : Front) (told : Option Machine) (a : Arrival) (x : SessionRecord S) → IsHearing seen s n front told a x
      → is_at_end a.begun ≡ false → is_at_end (scanner_of a) ≡ true → HasNothing (steps s n (heard_of a)) a.name
  has_nothing s n front told a x h before after = (
    client_after (front_of s) (machine_of n) (client_of seen x.client) (items_of a),
    seat_state_after (front_of s) (machine_of n) (client_of seen x.client) a.begun a.bytes before after,
    (feeds_are_acts s n a.name (client_of seen x.client) (items_of a) h.bench h.there h.session.client h.room).client_then,
  )

-- ---- what is printed

-- what the connection had begun before its bytes came
module _ (s : Setup) (m : Told) (a : Arrival) (live : has_ended a.name (registry_of m).users ≡ false) (was : begun_by a.name m.lines ≡ a.begun) where
  abbrev arrived : Told
  arrived = step s m (Arrived a.name a.bytes)

  events_are : events_of_step m (Feed a.name a.bytes) ≡ Arrived a.name a.bytes ∷ heard_of a
  events_are = cc

  pub fed_state : state_after s m (Feed a.name a.bytes) ≡ steps s arrived (heard_of a)
  fed_state = ap (λ (es : List Event). steps s m es) events_are

  -- whether it has then ended or not
  pub fed_lines : (e : Bool) → has_ended a.name (registry_of (steps s arrived (heard_of a))).users ≡ e
      → step_lines s m (Feed a.name a.bytes) ≡ printed (a.name ∷ quoted (texts s arrived (heard_of a)) ∷ []) ++ cond e (closed_line a.name) []
  fed_lines e ended = search rules

pub live_user : (m : Told) (name : List ℕ) (l : Line) (e : Bool) → line_named name m.lines ≡ Some l → l.user.ended ≡ e
    → has_ended name (registry_of m).users ≡ e
live_user m name l e is live = ap (λ (o : Option ConnectionRecord). ended_by o) (user_is m name l is) ∙ live

pub begun_line : (m : Told) (name : List ℕ) (l : Line) → line_named name m.lines ≡ Some l → begun_by name m.lines ≡ l.begun
begun_line m name l is = ap (λ (o : Option Line). elim o [ None ↦ InLine [] | Some x ↦ x.begun ]) is

-- whether it has then ended
module _ {S : Type 0} (seen : S → SeatRecord) where
  pub ended_heard : (s : Setup) (front : Front) (n : Told) (a : Arrival) (cs : List (Connection S)) → HasArrived seen front n a cs
      → has_ended a.name (registry_of (steps s n (heard_of a))).users ≡ is_at_end (scanner_of a)
  ended_heard s front n a cs h = let l = line_heard seen s front n a cs h in live_user (steps s n (heard_of a)) a.name l.0 _ l.1 l.2
