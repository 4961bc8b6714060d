-- A feed of a connection by its place.
use Rattle.std.proofs.Common.{◌≡◌, ℕ, suc, zero, ◌<◌, true, false, cond, List, [], ◌∷◌, ◌++◌, length, map, get_or, set, Option, Some, None, refl, sym, ap, ◌∙◌, subst, arith, rules}
use Rattle.std.specs.Prelude.{slice_get}
use Rattle.std.proofs.lemmas.Option.{slice_get-get_or}
use Rattle.iiod_grammar.specs.Stream.{InLine}
use Rattle.iiod_commands.specs.declared.manner.Manner.TheVariants.{Script}
use Rattle.iiod_commands.specs.Seat.{SeatRecord}
use Rattle.iiod_session.specs.Session.{IsFresh, SessionRecord}
use Rattle.iio_history.specs.Event.{Event, Arrived}
use Rattle.iio_history.specs.Registry.{Setup, has_ended}
use Rattle.iio_history.specs.Told.{Line, Told, registry_of}
use Rattle.iio_history.specs.Machine.{step}
use Rattle.iio_history.specs.Played.{state_after, step_lines, steps}
use Rattle.iio_history.specs.Transcript.{Feed, begun_by, closed_line, events_of_step, line_named, printed}
use Rattle.iio_history.specs.Bench.{Every, is_in, name_of}
use Rattle.iio_history.specs.BenchLaw.{CanJoinMore}
use Rattle.iio_history.proofs.BenchLists.{name_itself}
use Rattle.iio_bench.specs.declared.connection.Connection.{Connection}
use Rattle.iio_bench.specs.Connection.{Arrival, IsHearing, arrival, heard_of, scanner_of}
use Rattle.iio_bench.specs.Feeding.{FeedState, Feeds, HasFed, IsOwning, is_at_end}
use Rattle.iio_bench.proofs.FeedingLaws.{state_with}
use Rattle.iio_system.specs.System.{IsServed, Stands}
use Rattle.iio_system.proofs.FedLaws.{HasArrived, begun_line, ended_heard, fed_lines, fed_state, has_arrived, has_nothing, is_hearing, live_user, stands_fed}
use Rattle.iio_system.proofs.ItemLemmas.{items_few, room_less}
use Rattle.iio_bench.proofs.ListLemmas.{set_same}
use Rattle.iio_system.proofs.NameLaws.{is_named, line_at, no_line}
use Rattle.iio_system.proofs.NewLaws.{new_arrived, new_begun, new_hearing, new_live}
use Rattle.iio_system.proofs.OwnLaws.{with_session}

pub line_there : (name : List ℕ) (ls : List Line) (l : Line) → line_named name ls ≡ Some l → is_in (map name_of ls) name ≡ true
line_there name [] l is = cc
line_there name (x ∷ ls) l is = search (rules, line_there name ls l)

module _ {S : Type 0} (seen : S → SeatRecord) where
  -- what a feed leaves: its lines, and the state afterwards
  abbrev pub Leaves : Setup → Told → (name bytes : List ℕ) → (x y : FeedState S) → List (Connection S) → Type 0
  Leaves s m name bytes x y cs =
      (y.printed ≡ x.printed ++ step_lines s m (Feed name bytes)) × Stands seen s (state_after s m (Feed name bytes)) x.front y.told cs

  -- a connection that hasn't ended
  fed_by : (s : Setup) (m : Told) (cs : List (Connection S)) (a : Arrival) (x y : FeedState S) (session : SessionRecord S) (i : ℕ) (d : Connection S)
      → has_ended a.name (registry_of m).users ≡ false → begun_by a.name m.lines ≡ a.begun
      → IsHearing seen s (step s m (Arrived a.name a.bytes)) x.front x.told a session → HasArrived seen x.front (step s m (Arrived a.name a.bytes)) a cs
      → i < length cs → is_named a.name (get_or cs i d) ≡ true → ((k : ℕ) → k < i → is_named a.name (get_or cs k d) ≡ false)
      → HasFed seen s (step s m (Arrived a.name a.bytes)) a x y → IsOwning seen x.front y.connection.session
      → Leaves s m a.name a.bytes x y (set cs i (with_session seen y.connection.session (get_or cs i d)))
  fed_by s m cs a x y session i d live was hears arrived within here apart fed owns =
      let n : Told = step s m (Arrived a.name a.bytes) in
      let left : y.connection.session ≡ cond (is_at_end (scanner_of a)) None (Some fed.spoken) = fed.left in (
        fed.lines
            ∙ ap (λ (ls : List ℕ). x.printed ++ ls) (sym (fed_lines s m a live was (is_at_end (scanner_of a)) (ended_heard seen s x.front n a cs arrived))),
        subst (λ (t : Told). Stands seen s t x.front y.told (set cs i (with_session seen y.connection.session (get_or cs i d))))
            (sym (fed_state s m a live was))
            (subst (λ (o : Option (SessionRecord S)). Stands seen s (steps s n (heard_of a)) x.front y.told (set cs i (with_session seen o (get_or cs i d))))
            (sym left)
            (stands_fed seen s n x.front y.told cs a fed.spoken i d hears.front_is arrived fed.heard_by
            (subst (λ (o : Option (SessionRecord S)). IsOwning seen x.front o) left owns)
            (λ ends. has_nothing seen s n x.front x.told a session hears arrived.open_before ends) within apart here)),
      )

  -- a connection that is there
  pub fed_there : (s : Setup) (m : Told) (cs : List (Connection S)) (bytes : List ℕ) (x y : FeedState S) (i : ℕ) (d : Connection S)
      → Stands seen s m x.front x.told cs → Every (CanJoinMore (suc (length bytes))) m.stations
      → i < length cs → is_named x.connection.name (get_or cs i d) ≡ true → ((k : ℕ) → k < i → is_named x.connection.name (get_or cs k d) ≡ false)
      → x.connection ≡ get_or cs i d → Feeds seen bytes x y → IsOwning seen x.front y.connection.session
      → Leaves s m x.connection.name bytes x y (set cs i (with_session seen y.connection.session (get_or cs i d)))
  fed_there s m cs bytes x y i d stands room within here apart is feeds owns =
      let at = line_at name seen x.front m m.lines cs i d stands.lines within here apart in
      by at.0 at.1 (get_or cs i d).session refl at.2 (subst (λ (e : Connection S). Feeds seen bytes (state_with x e.session) y) is feeds)
    where
      name : List ℕ
      name = x.connection.name

      by : (l : Line) → line_named name m.lines ≡ Some l → (o : Option (SessionRecord S)) → (get_or cs i d).session ≡ o → IsServed seen x.front m l o
          → Feeds seen bytes (state_with x o) y
          → Leaves s m name bytes x y (set cs i (with_session seen y.connection.session (get_or cs i d)))
      by l is (Some session) at served feeds =
          let hears =
          is_hearing seen s m x.front x.told cs name bytes l session stands is served (line_there name m.lines l is)
          (room_less _ _ m.stations (omega (arith, items_few l.begun bytes)) room) in
          fed_by s m cs (arrival name l.begun bytes) (state_with x (Some session)) y session i d (live_user m name l false is served.live)
          (begun_line m name l is) hears (has_arrived seen s m x.front x.told cs name bytes l session stands is served) within here apart
          (feeds s (step s m (Arrived name bytes)) l.begun hears) owns
      by l is None at served feeds =
          let gone : has_ended name (registry_of m).users ≡ true = live_user m name l true is served.ended in
          let none : events_of_step m (Feed name bytes) ≡ [] = search rules in
          let lines : step_lines s m (Feed name bytes) ≡ closed_line name = cc in
          let same : set cs i (with_session seen y.connection.session (get_or cs i d)) ≡ cs =
          set_same cs i _ (at_get within (ap (λ (o : Option (SessionRecord S)). with_session seen o (get_or cs i d)) (feeds.0 ∙ sym at))) in (
            feeds.2 ∙ ap (λ (ls : List ℕ). x.printed ++ ls) (sym lines),
            subst (λ (es : List Event). Stands seen s (steps s m es) x.front y.told (set cs i (with_session seen y.connection.session (get_or cs i d))))
                (sym none)
                (subst (λ (xs : List (Connection S)). Stands seen s m x.front y.told xs) (sym same)
                (record { front_is = stands.front_is; told_is = feeds.1 ∙ stands.told_is; bench = stands.bench; lines = stands.lines })),
          )
        where
          at_get : i < length cs → with_session seen y.connection.session (get_or cs i d) ≡ get_or cs i d
              → slice_get cs i ≡ Some (with_session seen y.connection.session (get_or cs i d))
          at_get within same = slice_get-get_or cs i d within ∙ ap (λ (c : Connection S). Some c) (sym same)

  -- a connection that is new
  pub fed_new : (s : Setup) (m : Told) (cs : List (Connection S)) (bytes : List ℕ) (x y : FeedState S) (session : SessionRecord S)
      → Stands seen s m x.front x.told cs → Every (CanJoinMore (suc (length bytes))) m.stations
      → ((i : ℕ) (d : Connection S) → i < length cs → is_named x.connection.name (get_or cs i d) ≡ false) → IsFresh (length cs) Script session
      → x.connection.session ≡ Some session → Feeds seen bytes x y → IsOwning seen x.front y.connection.session
      → Leaves s m x.connection.name bytes x y (cs ++ record { name = x.connection.name; session = y.connection.session } ∷ [])
  fed_new s m cs bytes x y session stands room none fresh is feeds owns =
      let nobody = no_line name seen x.front m m.lines cs stands.lines none in
      let hears =
      new_hearing seen s m x.front x.told cs name bytes session stands nobody fresh
      (room_less _ _ m.stations (omega (arith, items_few (InLine []) bytes)) room) in
      let fresh_feeds : Feeds seen bytes (state_with x (Some session)) y =
      subst (λ (o : Option (SessionRecord S)). Feeds seen bytes (state_with x o) y) is feeds in
      let fed =
      fed_by s m (cs ++ c ∷ []) (arrival name (InLine []) bytes) (state_with x (Some session)) y session (length cs) c (new_live m name nobody)
      (new_begun m name nobody) hears (new_arrived seen s m x.front x.told cs name bytes c stands nobody refl)
      (last_within cs) (ap (λ (e : Connection S). is_named name e) (last_at cs) ∙ name_itself name)
      (λ k h. ap (λ (e : Connection S). is_named name e) (front_at cs k h) ∙ none k c h)
      (fresh_feeds s (step s m (Arrived name bytes)) (InLine []) hears) owns in (
        fed.0,
        subst (λ (xs : List (Connection S)). Stands seen s (state_after s m (Feed name bytes)) x.front y.told xs)
            (ap (λ (e : Connection S). set (cs ++ c ∷ []) (length cs) (with_session seen y.connection.session e)) (last_at cs)
            ∙ last_set cs (record { name = name; session = y.connection.session }))
            fed.1,
      )
    where
      name : List ℕ
      name = x.connection.name

      c : Connection S
      c = record { name = name; session = Some session }

      last_within : (cs : List (Connection S)) → length cs < length (cs ++ c ∷ [])
      last_within [] = omega arith
      last_within (d ∷ cs) = let h = last_within cs in omega (arith, h)

      last_at : (cs : List (Connection S)) → get_or (cs ++ c ∷ []) (length cs) c ≡ c
      last_at [] = refl
      last_at (d ∷ cs) = last_at cs

      front_at : (cs : List (Connection S)) (k : ℕ) → k < length cs → get_or (cs ++ c ∷ []) k c ≡ get_or cs k c
      front_at [] k h = absurd (omega (arith, h))
      front_at (d ∷ cs) zero h = refl
      front_at (d ∷ cs) (suc k) h = front_at cs k (omega (arith, h))

      last_set : (cs : List (Connection S)) (e : Connection S) → set (cs ++ c ∷ []) (length cs) e ≡ cs ++ e ∷ []
      last_set [] e = refl
      last_set (d ∷ cs) e = ap (λ (xs : List (Connection S)). d ∷ xs) (last_set cs e)
