-- A connection that is new.
use Rattle.std.proofs.Common.{◌≡◌, ℕ, suc, Bool, true, false, cond, List, [], ◌∷◌, ◌++◌, length, map, Option, Some, None, option_map, refl, sym, ap, ◌∙◌, subst, true≢false, rules}
use Rattle.std.specs.Str.{bytes_eq}
use Rattle.iiod_grammar.specs.Stream.{InLine, items_from, scanner_after}
use Rattle.iiod_commands.specs.declared.manner.Manner.TheVariants.{Script}
use Rattle.iiod_commands.specs.Client.{ClientRecord, client_of}
use Rattle.iio_core.specs.Front.{Front}
use Rattle.iio_core.specs.Machine.{Machine}
use Rattle.iiod_commands.specs.Seat.{SeatRecord}
use Rattle.iiod_session.specs.Session.{IsFresh, SessionRecord}
use Rattle.iio_history.specs.Event.{Arrived}
use Rattle.iio_history.specs.Registry.{Setup, ConnectionRecord, has_ended, user_named}
use Rattle.iio_history.specs.Fold.{new_user}
use Rattle.iio_history.specs.Told.{Line, Told, registry_of, user_of}
use Rattle.iio_history.specs.Machine.{line_after, new_line, step}
use Rattle.iio_history.specs.Transcript.{begun_by, line_named}
use Rattle.iio_history.specs.Bench.{Every, IsClientOf, is_in, name_of}
use Rattle.iio_history.specs.BenchLaw.{CanJoinMore, new_client}
use Rattle.iio_history.proofs.BenchKept.{arrived_is_there, bench_kept, room_after}
use Rattle.iio_history.proofs.BenchLists.{name_itself}
use Rattle.iio_history.proofs.BenchOthers.{arrival_is_nothing, new_is_client}
use Rattle.iio_bench.specs.declared.connection.Connection.{Connection}
use Rattle.iio_bench.specs.Connection.{IsHearing, arrival}
use Rattle.iio_system.specs.System.{AreLines, Stands}
use Rattle.iio_system.proofs.FedLaws.{HasArrived, user_of_line}
use Rattle.iio_system.proofs.LineLaws.{OthersAre, clients_kept, every_line_there, other_arrived, others_are, others_move}

-- there is no connection of that name
pub none_in : (name : List ℕ) (ls : List Line) → line_named name ls ≡ None → is_in (map name_of ls) name ≡ false
none_in name [] none = refl
none_in name (l ∷ ls) none = search (rules, none_in name ls)

user_none : (m : Told) (name : List ℕ) → line_named name m.lines ≡ None → user_named name (registry_of m).users ≡ None
user_none m name none = user_of_line name m.lines ∙ ap (λ (o : Option Line). option_map user_of o) none

pub new_live : (m : Told) (name : List ℕ) → line_named name m.lines ≡ None → has_ended name (registry_of m).users ≡ false
new_live m name none = ap (λ (o : Option ConnectionRecord). elim o [ None ↦ false | Some u ↦ u.ended ]) (user_none m name none)

pub new_begun : (m : Told) (name : List ℕ) → line_named name m.lines ≡ None → begun_by name m.lines ≡ InLine []
new_begun m name none = ap (λ (o : Option Line). elim o [ None ↦ InLine [] | Some x ↦ x.begun ]) none

new_lines : (s : Setup) (m : Told) (name bytes : List ℕ) → line_named name m.lines ≡ None
    → (step s m (Arrived name bytes)).lines ≡ map (line_after s (registry_of m) (Arrived name bytes)) m.lines ++ new_line (Arrived name bytes) (new_user s name)
    ∷ []
new_lines s m name bytes none = simp (user_none)

-- the line at the end
last_named : (name : List ℕ) (f : Line → Line) (x : Line) (ls : List Line) → ((l : Line) → (f l).user.who ≡ l.user.who) → line_named name ls ≡ None
    → bytes_eq x.user.who name ≡ true → line_named name (map f ls ++ x ∷ []) ≡ Some x
last_named name f x [] who none own = ap (λ (b : Bool). cond b (Some x) None) own
last_named name f x (l ∷ ls) who none own =
    ap (λ (w : List ℕ). cond (bytes_eq w name) (Some (f l)) (line_named name (map f ls ++ x ∷ []))) (who l)
    ∙ by (bytes_eq l.user.who name) none (λ h. last_named name f x ls who h own)
  where
    by : (b : Bool) → cond b (Some l) (line_named name ls) ≡ None → (line_named name ls ≡ None → line_named name (map f ls ++ x ∷ []) ≡ Some x)
        → cond b (Some (f l)) (line_named name (map f ls ++ x ∷ [])) ≡ Some x
    by b none rest = search rules

module _ {S : Type 0} (seen : S → SeatRecord) where
  -- another one at the end of both
  others_more : (front : Front) (m : Told) (name : List ℕ) (ls : List Line) (cs : List (Connection S)) (x : Line) (c : Connection S) → c.name ≡ x.user.who
      → bytes_eq x.user.who name ≡ true
      → OthersAre seen front m name ls cs → OthersAre seen front m name (ls ++ x ∷ []) (cs ++ c ∷ [])
  others_more front m name [] [] x c same own are = (same, λ apart. absurd (true≢false (sym own ∙ apart)), tt)
  others_more front m name [] (d ∷ cs) x c same own are = absurd are
  others_more front m name (l ∷ ls) [] x c same own are = absurd are
  others_more front m name (l ∷ ls) (d ∷ cs) x c same own are = (are.0, are.1, others_more front m name ls cs x c same own are.2)

  pub new_arrived : (s : Setup) (m : Told) (front : Front) (told : Option Machine) (cs : List (Connection S)) (name bytes : List ℕ) (c : Connection S)
      → Stands seen s m front told cs → line_named name m.lines ≡ None → c.name ≡ name
      → HasArrived seen front (step s m (Arrived name bytes)) (arrival name (InLine []) bytes) (cs ++ c ∷ [])
  new_arrived s m front told cs name bytes c stands none same =
      let f : Line → Line = line_after s (registry_of m) (Arrived name bytes) in
      let x : Line = new_line (Arrived name bytes) (new_user s name) in
      let lines = new_lines s m name bytes none in
      record {
        line = x;
        is = ap (λ (ls : List Line). line_named name ls) lines ∙ last_named name f x m.lines (λ l. refl) none (name_itself name);
        live = refl;
        more = ap (λ (b : Bool). cond b (scanner_after (InLine []) bytes) (InLine [])) (name_itself name);
        open_before = refl;
        others =
            subst (λ (ls : List Line). OthersAre seen front (step s m (Arrived name bytes)) name ls (cs ++ c ∷ [])) (sym lines)
            (others_more front (step s m (Arrived name bytes)) name (map f m.lines) cs x c same (name_itself name)
            (others_move seen front m (step s m (Arrived name bytes)) name f m.lines cs (λ l. refl)
            (λ l apart. other_arrived s (registry_of m) name bytes l apart)
            (clients_kept s m (Arrived name bytes) name m.lines (λ l apart. tt) (every_line_there m)) (others_are seen front m name m.lines cs stands.lines)));
      }

  length_lines : (front : Front) (m : Told) (ls : List Line) (cs : List (Connection S)) → AreLines seen front m ls cs → length cs ≡ length ls
  length_lines front m [] [] are = refl
  length_lines front m [] (c ∷ cs) are = absurd are
  length_lines front m (l ∷ ls) [] are = absurd are
  length_lines front m (l ∷ ls) (c ∷ cs) are = ap (λ (n : ℕ). suc n) (length_lines front m ls cs are.1)

  -- a new session has a new client
  fresh_client : (who : ℕ) (x : SessionRecord S) → IsFresh who Script x → client_of seen x.client ≡ new_client who
  fresh_client who x fresh = rw (fresh.number, fresh.seats, fresh.buffers, fresh.holdings) refl

  pub new_hearing : (s : Setup) (m : Told) (front : Front) (told : Option Machine) (cs : List (Connection S)) (name bytes : List ℕ) (x : SessionRecord S)
      → Stands seen s m front told cs → line_named name m.lines ≡ None → IsFresh (length cs) Script x
      → Every (CanJoinMore (suc (length (items_from (InLine []) bytes)))) m.stations
      → IsHearing seen s (step s m (Arrived name bytes)) front told (arrival name (InLine []) bytes) x
  new_hearing s m front told cs name bytes x stands none fresh room = record {
    front_is = stands.front_is;
    told_is = stands.told_is ∙ ap (λ (n : Machine). Some n) (sym (arrival_is_nothing s m name bytes stands.bench));
    bench = bench_kept s m (Arrived name bytes) tt stands.bench;
    there = arrived_is_there s m name bytes;
    session = record {
      manner = fresh.served;
      stream = fresh.stream;
      client =
          subst (λ (k : ClientRecord). IsClientOf (step s m (Arrived name bytes)) name k)
          (sym (fresh_client (length cs) x fresh ∙ ap (λ (n : ℕ). new_client n) (length_lines front m m.lines cs stands.lines)))
          (new_is_client s m name bytes stands.bench (none_in name m.lines none));
    };
    room = room_after s m (Arrived name bytes) (length (items_from (InLine []) bytes)) room;
  }
