-- What feeds and drops make of a bench and its connections.
use Rattle.std.proofs.Common.{◌≡◌, ℕ, suc, zero, ◌<◌, ◌≤◌, Bool, true, false, List, [], ◌∷◌, ◌++◌, ◌+◌, length, map, get_or, set, Option, Some, None, is_some, Result, Ok, Err, OnOk, refl, sym, ap, ◌∙◌, subst, arith, one-add, rules}
use Rattle.std.proofs.lemmas.Grind.{common_steps}
use Rattle.std.specs.List.{position}
use Rattle.std.proofs.lemmas.List.Quantifiers.{position-Some}
use Rattle.iio_base.specs.declared.Mem.{Mem}
use Rattle.iio_core.specs.Front.{Front}
use Rattle.iiod_session.specs.Session.{SessionRecord}
use Rattle.iio_sensor.specs.Driver.{Driver}
use Rattle.iio_device.specs.declared.plug.Plug.{Plug}
use Rattle.iio_history.specs.Registry.{Setup}
use Rattle.iio_history.specs.Script.{max_names}
use Rattle.iio_history.specs.Told.{Told}
use Rattle.iio_history.specs.Machine.{step}
use Rattle.iio_history.specs.Played.{state_after}
use Rattle.iio_history.specs.Transcript.{Drop, Feed, printed}
use Rattle.iio_history.proofs.BenchLists.{name_same}
use Rattle.iio_bench.specs.declared.bench.Bench.{Bench}
use Rattle.iio_bench.specs.declared.connection.Connection.{Connection}
use Rattle.iio_kinds.specs.declared.seat.Seat.{Seat}
use Rattle.iio_system.specs.declared.step.Step.{Step as CodeStep}
use Rattle.iio_system.specs.declared.step.Step.TheVariants as code
use Rattle.iio_system.specs.Step.{step_view}
use Rattle.iio_bench.specs.Bench.{Kept, front_of, kept_of, machine_of}
use Rattle.iio_system.specs.Connections.{AreOwning}
use Rattle.iio_bench.specs.Feeding.{Feeds, IsOwning, feed_state, left_by}
use Rattle.iio_history.specs.Words.{dropped_word}
use Rattle.iio_bench.specs.Seat.{seen_of}
use Rattle.iio_system.specs.Standing.{Holds, IsMade, IsNew, Makes, MakesFeed, MakesStep, has_room, name_by, names_with, step_state}
use Rattle.iio_system.specs.System.{Stands}
use Rattle.iio_system.proofs.DropLaws.{dropped_nowhere, dropped_there}
use Rattle.iio_system.proofs.FeedLaws.{fed_new, fed_there}
use Rattle.iio_system.proofs.NameLaws.{is_named, known_at, none_named, room_left, unknown}
use Rattle.iio_system.proofs.OwnLaws.{with_session}

pub on_ok : {A P : Type 0} (r : Result A Mem) → P → OnOk r P
on_ok r p = search rules

-- ---- names

names_set : (cs : List (Connection Seat)) (i : ℕ) (d c : Connection Seat) → i < length cs → c.name ≡ (get_or cs i d).name
    → map name_by (set cs i c) ≡ map name_by cs
names_set [] i d c within same = refl
names_set (x ∷ cs) zero d c within same = ap (λ (n : List ℕ). n ∷ map name_by cs) same
names_set (x ∷ cs) (suc i) d c within same = ap (λ (ns : List (List ℕ)). x.name ∷ ns) (names_set cs i d c (omega (arith, within)) same)

-- a connection that is there keeps its name, and has it already
pub names_there : (cs : List (Connection Seat)) (i : ℕ) (c c' : Connection Seat) (name bytes : List ℕ) → Some i ≡ position (is_named name) cs
    → c ≡ get_or cs i c → c'.name ≡ c.name
    → map name_by (set cs i c') ≡ names_with (map name_by cs) (Feed name bytes)
names_there cs i c c' name bytes at is same = search (rules, names_set, known_at)

pub names_kept : (cs : List (Connection Seat)) (i : ℕ) (c c' : Connection Seat) (name : List ℕ) → Some i ≡ position (is_named name) cs → c ≡ get_or cs i c
    → c'.name ≡ c.name → map name_by (set cs i c') ≡ map name_by cs
names_kept cs i c c' name at is same = names_set cs i c c' (position-Some (is_named name) cs i c (sym at)).0 (same ∙ ap name_by is)

-- a connection that is new is the last
pub names_new : (cs : List (Connection Seat)) (c' : Connection Seat) (name bytes : List ℕ) → None ≡ position (is_named name) cs → c'.name ≡ name
    → map name_by (cs ++ c' ∷ []) ≡ names_with (map name_by cs) (Feed name bytes)
names_new cs c' name bytes at same = grind (arith, common_steps, unknown)

-- ---- room, and what is owned

pub more_fit : (cs : List (Connection Seat)) (c : Connection Seat) (name : List ℕ) → None ≡ position (is_named name) cs → has_room (map name_by cs) name ≡ true
    → length (cs ++ c ∷ []) ≤ max_names
more_fit cs c name at room = grind (arith, common_steps, room_left)

pub more_owned : (front front' : Front) (cs : List (Connection Seat)) (c : Connection Seat) → front' ≡ front → AreOwning seen_of front cs
    → IsOwning seen_of front' c.session → AreOwning seen_of front' (cs ++ c ∷ [])
more_owned front front' cs c same owned own = grind (arith, common_steps)

-- ---- the whole

pub front_kept : {X : Type 0} {V : X → Type 0} (b b' : Bench X V) → kept_of b' ≡ kept_of b → front_of b' ≡ front_of b
front_kept b b' kept = ap (λ (k : Kept). k.front) kept

module _ {X : Type 0} {V : X → Type 0} (driver : Plug X V → Driver) where
  holds_then : (s : Setup) (n : Told) (b b' : Bench X V) (cs' : List (Connection Seat)) → kept_of b' ≡ kept_of b
      → Stands seen_of s n (front_of b) (Some (machine_of driver b')) cs' → Holds driver s n b' cs'
  holds_then s n b b' cs' kept stands = subst (λ (f : Front). Stands seen_of s n f (Some (machine_of driver b')) cs') (sym (front_kept b b' kept)) stands

  pub feeds_there : {A : Type 0} (b b' : Bench X V) (cs : List (Connection Seat)) (i : ℕ) (c c' : Connection Seat) (name bytes before after : List ℕ)
      (r : Result A Mem)
      → Some i ≡ position (is_named name) cs → c ≡ get_or cs i c → c'.name ≡ c.name → kept_of b' ≡ kept_of b → IsOwning seen_of (front_of b') c'.session
      → OnOk r (Feeds seen_of bytes (feed_state driver b c before) (feed_state driver b' c' after))
      → OnOk r (MakesFeed driver name bytes (step_state b cs before) (step_state b' (set cs i c') after))
  feeds_there b b' cs i c c' name bytes before after (Err e) at is same kept owns feeds = tt
  feeds_there b b' cs i c c' name bytes before after (Ok x) at is same kept owns feeds = λ s m room holds.
      let place = position-Some (is_named name) cs i c (sym at) in
      let own : c.name ≡ name = name_same c.name name (ap (λ (e : Connection Seat). is_named name e) is ∙ place.1) in
      let fed =
      fed_there seen_of s m cs bytes (feed_state driver b c before) (feed_state driver b' c' after) i c holds room place.0
      (ap (λ (n : List ℕ). is_named n (get_or cs i c)) own ∙ place.1) (λ k h. ap (λ (n : List ℕ). is_named n (get_or cs k c)) own ∙ place.2 k h) is feeds
      (subst (λ (f : Front). IsOwning seen_of f c'.session) (front_kept b b' kept) owns) in
      let whole : with_session seen_of c'.session (get_or cs i c) ≡ c' =
      ap (λ (n : List ℕ). (let e : Connection Seat = record { name = n; session = c'.session } in e)) (ap name_by (sym is) ∙ sym same) in
      subst (λ (n : List ℕ). IsMade driver s m (Feed n bytes) (step_state b cs before) (step_state b' (set cs i c') after)) own (
        fed.0,
        holds_then s (state_after s m (Feed c.name bytes)) b b' (set cs i c') kept
            (subst (λ (e : Connection Seat). Stands seen_of s (state_after s m (Feed c.name bytes)) (front_of b) (Some (machine_of driver b')) (set cs i e))
            whole fed.1),
      )

  pub feeds_new : {A : Type 0} (b b' : Bench X V) (cs : List (Connection Seat)) (c c' : Connection Seat) (name bytes before after : List ℕ) (r : Result A Mem)
      → None ≡ position (is_named name) cs → IsNew name (length cs) c → c'.name ≡ c.name → kept_of b' ≡ kept_of b → IsOwning seen_of (front_of b') c'.session
      → OnOk r (Feeds seen_of bytes (feed_state driver b c before) (feed_state driver b' c' after))
      → OnOk r (MakesFeed driver name bytes (step_state b cs before) (step_state b' (cs ++ c' ∷ []) after))
  feeds_new b b' cs c c' name bytes before after (Err e) at is same kept owns feeds = tt
  feeds_new b b' cs c c' name bytes before after (Ok x) at is same kept owns feeds = λ s m room holds.
      let fed =
      fed_new seen_of s m cs bytes (feed_state driver b c before) (feed_state driver b' c' after) is.fresh holds room
      (λ i d less. ap (λ (n : List ℕ). is_named n (get_or cs i d)) is.name_is ∙ none_named name cs (sym at) i d less) is.is_fresh is.session_is feeds
      (subst (λ (f : Front). IsOwning seen_of f c'.session) (front_kept b b' kept) owns) in
      let whole : record { name = c.name; session = c'.session } ≡ c' =
      ap (λ (n : List ℕ). (let e : Connection Seat = record { name = n; session = c'.session } in e)) (sym same) in
      subst (λ (n : List ℕ). IsMade driver s m (Feed n bytes) (step_state b cs before) (step_state b' (cs ++ c' ∷ []) after)) is.name_is (
        fed.0,
        holds_then s (state_after s m (Feed c.name bytes)) b b' (cs ++ c' ∷ []) kept
            (subst (λ (e : Connection Seat). Stands seen_of s (state_after s m (Feed c.name bytes)) (front_of b) (Some (machine_of driver b')) (cs ++ e ∷ []))
            whole fed.1),
      )

  pub drops_there : (b b' : Bench X V) (cs : List (Connection Seat)) (i : ℕ) (c c' : Connection Seat) (name before after : List ℕ) (live : Bool)
      (r : Result (Unit {0}) Mem)
      → Some i ≡ position (is_named name) cs → c ≡ get_or cs i c → c'.name ≡ c.name → c'.session ≡ None → live ≡ is_some c.session
      → kept_of b' ≡ kept_of b → machine_of driver b' ≡ left_by seen_of (front_of b) (machine_of driver b) c.session
      → OnOk r (after ≡ before ++ printed (name ∷ dropped_word live ∷ []))
      → OnOk r (Makes driver (Drop name) (step_state b cs before) (step_state b' (set cs i c') after))
  drops_there b b' cs i c c' name before after live (Err e) at is same none was kept left lines = tt
  drops_there b b' cs i c c' name before after live (Ok x) at is same none was kept left lines = λ s m holds.
      let place = position-Some (is_named name) cs i c (sym at) in
      let dropped =
      dropped_there seen_of s m (front_of b) (machine_of driver b) (machine_of driver b') cs name i c holds place.0 place.1 place.2
      (left ∙ ap (λ (e : Connection Seat). left_by seen_of (front_of b) (machine_of driver b) e.session) is) in
      let whole : with_session seen_of None (get_or cs i c) ≡ c' =
      ap (λ (n : List ℕ). (let e : Connection Seat = record { name = n; session = None } in e)) (ap name_by (sym is) ∙ sym same)
      ∙ ap (λ (o : Option (SessionRecord Seat)). (let e : Connection Seat = record { name = c'.name; session = o } in e)) (sym none) in (
        lines ∙ ap (λ (b : Bool). before ++ printed (name ∷ dropped_word b ∷ [])) (was ∙ ap (λ (e : Connection Seat). is_some e.session) is)
            ∙ ap (λ (ls : List ℕ). before ++ ls) (sym dropped.0),
        holds_then s (state_after s m (Drop name)) b b' (set cs i c') kept
            (subst (λ (e : Connection Seat). Stands seen_of s (state_after s m (Drop name)) (front_of b) (Some (machine_of driver b')) (set cs i e)) whole
            dropped.1),
      )

  pub drops_nowhere : (b : Bench X V) (cs : List (Connection Seat)) (name before after : List ℕ) (r : Result (Unit {0}) Mem)
      → None ≡ position (is_named name) cs → OnOk r (after ≡ before ++ printed (name ∷ dropped_word false ∷ []))
      → OnOk r (Makes driver (Drop name) (step_state b cs before) (step_state b cs after))
  drops_nowhere b cs name before after (Err e) at lines = tt
  drops_nowhere b cs name before after (Ok x) at lines = λ s m holds.
      let dropped = dropped_nowhere seen_of s m (front_of b) (machine_of driver b) cs name holds (none_named name cs (sym at)) in (
        lines ∙ ap (λ (ls : List ℕ). before ++ ls) (sym dropped.0),
        holds_then s (state_after s m (Drop name)) b b cs refl dropped.1,
      )

  -- ---- any step

  pub made_move : {A : Type 0} (t : CodeStep) (b b' : Bench X V) (cs : List (Connection Seat)) (before after : List ℕ) (r : Result A Mem)
      → OnOk r ((cs : List (Connection Seat)) → Makes driver (step_view t) (step_state b cs before) (step_state b' cs after))
      → OnOk r (MakesStep driver t (step_state b cs before) (step_state b' cs after))
  made_move t b b' cs before after (Err e) makes = tt
  made_move t b b' cs before after (Ok x) makes = λ s m room holds. makes cs s m holds

  pub made_feed : {A : Type 0} (name bytes : List ℕ) (b b' : Bench X V) (cs cs' : List (Connection Seat)) (before after : List ℕ) (r : Result A Mem)
      → OnOk r (MakesFeed driver name bytes (step_state b cs before) (step_state b' cs' after))
      → OnOk r (MakesStep driver (code.Feed name bytes) (step_state b cs before) (step_state b' cs' after))
  made_feed name bytes b b' cs cs' before after (Err e) makes = tt
  made_feed name bytes b b' cs cs' before after (Ok x) makes = λ s m room holds. makes s m (rw one-add at room) holds

  pub made_step : {A : Type 0} (t : CodeStep) (b b' : Bench X V) (cs cs' : List (Connection Seat)) (before after : List ℕ) (r : Result A Mem)
      → OnOk r (Makes driver (step_view t) (step_state b cs before) (step_state b' cs' after))
      → OnOk r (MakesStep driver t (step_state b cs before) (step_state b' cs' after))
  made_step t b b' cs cs' before after (Err e) makes = tt
  made_step t b b' cs cs' before after (Ok x) makes = λ s m room holds. makes s m holds
