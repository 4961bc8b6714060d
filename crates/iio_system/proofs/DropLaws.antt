-- A connection that is lost.
use Rattle.std.proofs.Common.{◌≡◌, ℕ, ◌<◌, ◌||◌, not, Bool, true, false, List, [], ◌∷◌, length, map, get_or, set, Option, Some, None, is_some, option_map, refl, sym, ap, ◌∙◌, subst, append-nil, rules}
use Rattle.std.specs.Str.{bytes_eq}
use Rattle.iiod_commands.specs.Acts.{left_client, left_machine}
use Rattle.iiod_commands.specs.Client.{ClientRecord}
use Rattle.iio_core.specs.Front.{Front}
use Rattle.iio_core.specs.Machine.{Machine}
use Rattle.iiod_commands.specs.Seat.{SeatRecord}
use Rattle.iiod_session.specs.Session.{SessionRecord}
use Rattle.iio_history.specs.Event.{Dropped}
use Rattle.iio_history.specs.Registry.{Registry, Setup, ConnectionRecord, is_live, user_named}
use Rattle.iio_history.specs.Told.{Line, Told, registry_of, user_of}
use Rattle.iio_history.specs.Machine.{line_after, step}
use Rattle.iio_history.specs.Played.{state_after, step_lines}
use Rattle.iio_history.specs.Transcript.{Drop, line_named, printed}
use Rattle.iio_history.specs.Bench.{IsClientOf, is_in, machine_of, names_of, place_in}
use Rattle.iio_history.specs.BenchLaw.{IsLeft, new_client}
use Rattle.iio_history.proofs.BenchEnds.{ends_are_left}
use Rattle.iio_history.proofs.BenchKept.{bench_kept}
use Rattle.iio_history.proofs.BenchLists.{name_same}
use Rattle.iio_history.proofs.BenchOthers.{absent_is_client}
use Rattle.iio_bench.specs.declared.connection.Connection.{Connection}
use Rattle.iio_bench.specs.Feeding.{left_by}
use Rattle.iio_history.specs.Words.{dropped_word}
use Rattle.iio_system.specs.System.{AreLines, IsServed, Stands}
use Rattle.iio_system.proofs.FedLaws.{user_is, user_of_line}
use Rattle.iio_system.proofs.LineLaws.{OthersAre, SameLine, apart_sym, clients_kept, every_line_there, others_are, others_move}
use Rattle.iio_system.proofs.NameLaws.{is_named, line_at, no_line}
use Rattle.iio_system.proofs.NewLaws.{none_in}
use Rattle.iio_system.proofs.OwnLaws.{all_others, line_found, line_mapped, rejoined, with_session}

or_false : (b : Bool) → (b || false) ≡ b
or_false b = search rules

or_true : (b : Bool) → (b || true) ≡ true
or_true b = search rules

other_dropped : (s : Setup) (r : Registry) (name : List ℕ) (l : Line) → bytes_eq l.user.who name ≡ false → SameLine l (line_after s r (Dropped name) l)
other_dropped s r name l apart = record { who = refl; ended = ap (λ (b : Bool). l.user.ended || b) apart ∙ or_false l.user.ended; begun = refl }

lines_dropped : (s : Setup) (m : Told) (name : List ℕ) → (step s m (Dropped name)).lines ≡ map (line_after s (registry_of m) (Dropped name)) m.lines
lines_dropped s m name = append-nil (map (line_after s (registry_of m) (Dropped name)) m.lines)

-- the line of a drop
pub drop_lines : (s : Setup) (m : Told) (name : List ℕ) (live : Bool) → is_live name (registry_of m).users ≡ live
    → step_lines s m (Drop name) ≡ printed (name ∷ dropped_word live ∷ [])
drop_lines s m name live is = search rules

live_by : (m : Told) (name : List ℕ) (o : Option ConnectionRecord) → user_named name (registry_of m).users ≡ o
    → is_live name (registry_of m).users ≡ elim o [ None ↦ false | Some u ↦ not u.ended ]
live_by m name o is = ap (λ (x : Option ConnectionRecord). elim x [ None ↦ false | Some u ↦ not u.ended ]) is

module _ {S : Type 0} (seen : S → SeatRecord) where
  others_dropped : (s : Setup) (m : Told) (front : Front) (name : List ℕ) (cs : List (Connection S)) → AreLines seen front m m.lines cs
      → OthersAre seen front (step s m (Dropped name)) name (step s m (Dropped name)).lines cs
  others_dropped s m front name cs are =
      subst (λ (ls : List Line). OthersAre seen front (step s m (Dropped name)) name ls cs) (sym (lines_dropped s m name))
      (others_move seen front m (step s m (Dropped name)) name (line_after s (registry_of m) (Dropped name)) m.lines cs (λ l. refl)
      (λ l apart. other_dropped s (registry_of m) name l apart)
      (clients_kept s m (Dropped name) name m.lines (λ l apart. apart_sym l.user.who name apart) (every_line_there m))
      (others_are seen front m name m.lines cs are))

  -- what a connection has: a client, by which its session is left
  abbrev pub HasClient : Told → List ℕ → Option (SessionRecord S) → Type 0
  HasClient m name o =
      (client : ClientRecord) × IsClientOf m name client
      × ((front : Front) (machine : Machine) → left_by seen front machine o ≡ left_machine front machine client)

  client_by : (front : Front) (m : Told) (name : List ℕ) (l : Line) (o : Option (SessionRecord S)) → l.user.who ≡ name → IsServed seen front m l o
      → HasClient m name o
  client_by front m name l o who served = search rules

  live_is : (front : Front) (m : Told) (name : List ℕ) (l : Line) (o : Option (SessionRecord S)) → line_named name m.lines ≡ Some l → IsServed seen front m l o
      → is_live name (registry_of m).users ≡ is_some o
  live_is front m name l None is served = live_by m name (Some l.user) (user_is m name l is) ∙ ap (λ (b : Bool). not b) served.ended
  live_is front m name l (Some x) is served = live_by m name (Some l.user) (user_is m name l is) ∙ ap (λ (b : Bool). not b) served.live

  pub dropped_there : (s : Setup) (m : Told) (front : Front) (machine machine' : Machine) (cs : List (Connection S)) (name : List ℕ) (i : ℕ) (d : Connection S)
      → Stands seen s m front (Some machine) cs
      → i < length cs → is_named name (get_or cs i d) ≡ true → ((k : ℕ) → k < i → is_named name (get_or cs k d) ≡ false)
      → machine' ≡ left_by seen front machine (get_or cs i d).session
      → (step_lines s m (Drop name) ≡ printed (name ∷ dropped_word (is_some (get_or cs i d).session) ∷ []))
      × Stands seen s (state_after s m (Drop name)) front (Some machine') (set cs i (with_session seen None (get_or cs i d)))
  dropped_there s m front machine machine' cs name i d stands within here apart left =
      let at = line_at name seen front m m.lines cs i d stands.lines within here apart in
      let l : Line = at.0 in
      let own = line_found name m.lines l at.1 in
      let has = client_by front m name l (get_or cs i d).session (name_same l.user.who name own) at.2 in
      let gone : IsLeft s m name has.0 (Dropped name) = (ends_are_left s m name has.0 stands.bench has.1).1 in
      let bench = bench_kept s m (Dropped name) tt stands.bench in
      let same : machine ≡ machine_of m = (let e = stands.told_is in cc) in
      let f : Line → Line = line_after s (registry_of m) (Dropped name) in (
        drop_lines s m name (is_some (get_or cs i d).session) (live_is front m name l (get_or cs i d).session at.1 at.2),
        record {
          front_is = stands.front_is;
          told_is = search rules;
          bench = bench;
          lines =
              rejoined seen front (step s m (Dropped name)) name None i d (step s m (Dropped name)).lines cs (f l) bench.names
              (others_dropped s m front name cs stands.lines)
              (ap (λ (ls : List Line). line_named name ls) (lines_dropped s m name) ∙ line_mapped name f (λ x. refl) m.lines
              ∙ ap (λ (o : Option Line). option_map f o) at.1)
              within apart here
              (record {
                ended = ap (λ (b : Bool). l.user.ended || b) own ∙ or_true l.user.ended;
                client = left_client has.0;
                bare = (refl, refl);
                has = subst (λ (w : List ℕ). IsClientOf (step s m (Dropped name)) w (left_client has.0)) (sym (name_same l.user.who name own)) gone.client_then;
              });
        },
      )

  pub dropped_nowhere : (s : Setup) (m : Told) (front : Front) (machine : Machine) (cs : List (Connection S)) (name : List ℕ)
      → Stands seen s m front (Some machine) cs → ((i : ℕ) (d : Connection S) → i < length cs → is_named name (get_or cs i d) ≡ false)
      → (step_lines s m (Drop name) ≡ printed (name ∷ dropped_word false ∷ []))
      × Stands seen s (state_after s m (Drop name)) front (Some machine) cs
  dropped_nowhere s m front machine cs name stands none =
      let nobody = no_line name seen front m m.lines cs stands.lines none in
      let absent : is_in (names_of m) name ≡ false = none_in name m.lines nobody in
      let gone : IsLeft s m name (new_client (place_in (names_of m) name)) (Dropped name) =
      (ends_are_left s m name (new_client (place_in (names_of m) name)) stands.bench (absent_is_client s m name stands.bench absent)).1 in
      let f : Line → Line = line_after s (registry_of m) (Dropped name) in (
        drop_lines s m name false (live_by m name None (user_of_line name m.lines ∙ ap (λ (o : Option Line). option_map user_of o) nobody)),
        record {
          front_is = stands.front_is;
          told_is = stands.told_is ∙ ap (λ (n : Machine). Some n) gone.state;
          bench = bench_kept s m (Dropped name) tt stands.bench;
          lines =
              all_others seen front (step s m (Dropped name)) name (step s m (Dropped name)).lines cs
              (none_in name (step s m (Dropped name)).lines
              (ap (λ (ls : List Line). line_named name ls) (lines_dropped s m name) ∙ line_mapped name f (λ x. refl) m.lines
              ∙ ap (λ (o : Option Line). option_map f o) nobody))
              (others_dropped s m front name cs stands.lines);
        },
      )
