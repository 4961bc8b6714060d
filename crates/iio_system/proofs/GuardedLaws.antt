-- Whether a step keeps to the rules of bystanders, by the told state.
use Rattle.std.proofs.Common.{◌≡◌, ℕ, suc, ◌+◌, ◌*◌, ◌-◌, ◌^◌, ◌<◌, ◌||◌, not, Bool, true, false, List, ◌++◌, length, get_or, Option, Some, None, Result, Ok, Err, IfOk, refl, sym, ap, ◌∙◌, subst, arith, [], rules}
use Rattle.std.specs.List.{position}
use Rattle.std.specs.Str.{bytes_eq}
use Rattle.std.proofs.lemmas.List.Quantifiers.{position-Some}
use Rattle.iio_base.specs.declared.Mem.{Mem}
use Rattle.iio_sensor.specs.Driver.{Driver}
use Rattle.iio_device.specs.declared.plug.Plug.{Plug}
use Rattle.iiod_grammar.specs.Stream.{InLine}
use Rattle.iiod_session.specs.Session.{SessionRecord}
use Rattle.iio_history.specs.Event.{Event}
use Rattle.iio_history.specs.Registry.{Setup}
use Rattle.iio_history.specs.Told.{Line, Told, told}
use Rattle.iio_history.specs.Transcript.{Drop, Feed, line_named, with_step}
use Rattle.iio_history.specs.Bench.{Every}
use Rattle.iio_history.specs.BenchLaw.{CanJoinMore}
use Rattle.iio_worlds.specs.Bystanders.{only_bystanders}
use Rattle.iio_worlds.specs.Stance.{ClientsDecide, StepDecides, none_seated, step_meets}
use Rattle.iio_bench.specs.declared.bench.Bench.{Bench}
use Rattle.iio_bench.specs.declared.connection.Connection.{Connection}
use Rattle.iio_kinds.specs.declared.seat.Seat.{Seat}
use Rattle.iio_system.specs.declared.step.Step.{Step as CodeStep}
use Rattle.iio_system.specs.declared.step.Step.TheVariants as code
use Rattle.iio_system.specs.declared.system.System.{System}
use Rattle.iio_bench.specs.Bench.{front_of, machine_of}
use Rattle.iio_bench.specs.Feeding.{feed_state}
use Rattle.iio_bench.specs.Guard.{MeetsBeside, client_named, clients_besides}
use Rattle.iio_bench.specs.Seat.{seen_of}
use Rattle.iio_system.specs.Standing.{Holds, IsNew, Meets, MeetsFeed, MeetsStep, StandsFor}
use Rattle.iio_system.specs.Step.{cost_of, step_view}
use Rattle.iio_system.specs.System.{IsServed}
use Rattle.iio_bench.proofs.BesideLaws.{besides_between, named_between}
use Rattle.iio_system.proofs.FedLaws.{begun_line, is_hearing, live_user}
use Rattle.iio_system.proofs.FeedLaws.{line_there}
use Rattle.iio_system.proofs.GuardLaws.{meets_ended, meets_lost, meets_those}
use Rattle.iio_system.proofs.ItemLemmas.{items_few, room_less}
use Rattle.iio_system.proofs.NameLaws.{is_named, line_at, no_line, none_named}
use Rattle.iio_system.proofs.NewLaws.{new_begun, new_hearing, new_live}
use Rattle.iio_system.proofs.SplitLaws.{StandsAt, named_there, there}

module _ {X : Type 0} {V : X → Type 0} (driver : Plug X V → Driver) where
  -- ---- a feed

  -- of a connection that is there
  meets_there : ClientsDecide → (b : Bench X V) (cs others : List (Connection Seat)) (i : ℕ) (c : Connection Seat) (a name bytes text : List ℕ)
      (r : Result Bool Mem)
      → position (is_named name) cs ≡ Some i → c ≡ get_or cs i c → c.name ≡ name
      → (bytes_eq name a ≡ false → client_named seen_of a others ≡ client_named seen_of a cs)
      → (bytes_eq name a ≡ true → clients_besides seen_of a others ≡ clients_besides seen_of a cs)
      → IfOk r (MeetsBeside seen_of a bytes (feed_state driver b c text) others) → IfOk r (MeetsFeed driver a name bytes b cs)
  meets_there decides b cs others i c a name bytes text (Err e) at is called own besides fed = tt
  meets_there decides b cs others i c a name bytes text (Ok meets) at is called own besides fed = λ s m room holds.
      let place = position-Some (is_named name) cs i c at in
      let line = line_at name seen_of (front_of b) m m.lines cs i c holds.lines place.0 place.1 place.2 in
      by s m room holds line.0 line.1 (get_or cs i c).session line.2
      (subst (λ (e : Connection Seat). MeetsBeside seen_of a bytes (feed_state driver b (record { name = name; session = e.session }) text) others meets) is
      (subst (λ (n : List ℕ). MeetsBeside seen_of a bytes (feed_state driver b (record { name = n; session = c.session }) text) others meets) called fed))
    where
      by : (s : Setup) (m : Told) → Every (CanJoinMore (suc (length bytes))) m.stations → Holds driver s m b cs → (l : Line) → line_named name m.lines ≡ Some l
          → (o : Option (SessionRecord Seat)) → IsServed seen_of (front_of b) m l o
          → MeetsBeside seen_of a bytes (feed_state driver b (record { name = name; session = o }) text) others meets
          → meets ≡ step_meets s a m (Feed name bytes)
      by s m room holds l here None served fed = fed ∙ meets_ended seen_of s m a name bytes (live_user m name l true here served.ended)
      by s m room holds l here (Some x) served fed =
          meets_those seen_of decides s m (front_of b) (Some (machine_of driver b)) cs others a name bytes l.begun meets holds
          (live_user m name l false here served.live) (begun_line m name l here) own besides
          (fed s _ l.begun
          (is_hearing seen_of s m (front_of b) (Some (machine_of driver b)) cs name bytes l x holds here served (line_there name m.lines l here)
          (room_less _ _ m.stations (omega (arith, items_few l.begun bytes)) room)))

  -- the same, if the others are those before it and those after it: one of the watched name counts as nobody, and one of
  -- another name isn't the watched one
  pub meets_between : ClientsDecide
      → (b : Bench X V) (cs before : List (Connection Seat)) (c : Connection Seat) (after : List (Connection Seat)) (a name bytes text : List ℕ)
      (r : Result Bool Mem)
      → StandsAt name cs before c after
      → IfOk r (MeetsBeside seen_of a bytes (feed_state driver b c text) (before ++ after))
      → IfOk r (MeetsFeed driver a name bytes b cs)
  meets_between decides b cs before c after a name bytes text r at fed =
      let own : c.name ≡ name = named_there name cs before c after at in
      let called : (e : Bool) → bytes_eq name a ≡ e → bytes_eq c.name a ≡ e = λ e h. ap (λ (w : List ℕ). bytes_eq w a) own ∙ h in
      meets_there decides b cs (before ++ after) (length before) c a name bytes text r (sym at.place) (there name cs before c after at) own
      (λ other. named_between seen_of a before after c (called false other) ∙ ap (λ (xs : List (Connection Seat)). client_named seen_of a xs) (sym at.parts))
      (λ mine. besides_between seen_of a before after c (called true mine) ∙ ap (λ (xs : List (Connection Seat)). clients_besides seen_of a xs) (sym at.parts))
      fed

  -- of a connection that is new
  pub meets_new : ClientsDecide → (b : Bench X V) (cs : List (Connection Seat)) (c : Connection Seat) (a name bytes text : List ℕ) (r : Result Bool Mem)
      → position (is_named name) cs ≡ None → IsNew name (length cs) c
      → IfOk r (MeetsBeside seen_of a bytes (feed_state driver b c text) cs) → IfOk r (MeetsFeed driver a name bytes b cs)
  meets_new decides b cs c a name bytes text (Err e) at is fed = tt
  meets_new decides b cs c a name bytes text (Ok meets) at is fed = λ s m room holds.
      let nobody = no_line name seen_of (front_of b) m m.lines cs holds.lines (none_named name cs at) in
      let said : MeetsBeside seen_of a bytes (feed_state driver b (record { name = name; session = Some is.fresh }) text) cs meets =
      subst (λ (n : List ℕ). MeetsBeside seen_of a bytes (feed_state driver b (record { name = n; session = Some is.fresh }) text) cs meets) is.name_is
      (subst (λ (o : Option (SessionRecord Seat)). MeetsBeside seen_of a bytes (feed_state driver b (record { name = c.name; session = o }) text) cs meets)
      is.session_is fed) in
      meets_those seen_of decides s m (front_of b) (Some (machine_of driver b)) cs cs a name bytes (InLine []) meets holds (new_live m name nobody)
      (new_begun m name nobody) (λ e. refl) (λ e. refl)
      (said s _ (InLine [])
      (new_hearing seen_of s m (front_of b) (Some (machine_of driver b)) cs name bytes is.fresh holds nobody is.is_fresh
      (room_less _ _ m.stations (omega (arith, items_few (InLine []) bytes)) room)))

  -- ---- a loss

  pub meets_drop : ClientsDecide → (b : Bench X V) (cs : List (Connection Seat)) (a name : List ℕ) (meets : Bool)
      → meets ≡ (not (bytes_eq name a) || none_seated (clients_besides seen_of a cs)) → Meets driver a (Drop name) b cs meets
  meets_drop decides b cs a name meets is = search (rules, meets_lost)

  -- ---- any step

  pub met_feed : (a name bytes given : List ℕ) (t : CodeStep) (b : Bench X V) (cs : List (Connection Seat)) (r : Result Bool Mem) → t ≡ code.Feed name bytes
      → given ≡ bytes
      → IfOk r (MeetsFeed driver a name given b cs) → IfOk r (MeetsStep driver a t b cs)
  met_feed a name bytes given t b cs r is same fed = search rules

  pub met_drop : (a name : List ℕ) (t : CodeStep) (b : Bench X V) (cs : List (Connection Seat)) (r : Result Bool Mem) → t ≡ code.Drop name
      → IfOk r (Meets driver a (Drop name) b cs) → IfOk r (MeetsStep driver a t b cs)
  met_drop a name t b cs r is lost = search rules

  -- every other step keeps to the rules
  pub met_other : (a : List ℕ) (t : CodeStep) (b : Bench X V) (cs : List (Connection Seat)) → ((name bytes : List ℕ) → t ≡ code.Feed name bytes → ⊥)
      → ((name : List ℕ) → t ≡ code.Drop name → ⊥)
      → MeetsStep driver a t b cs true
  met_other a t b cs feed drop = search rules

  -- ---- the whole, by the history

  pub meets_ok : StepDecides → (x : System X V) (t : CodeStep) (a : List ℕ) (r : Result Bool Mem) → x.used + cost_of t < 2 ^ 56
      → IfOk r (MeetsStep driver a t x.bench x.connections.items)
      → IfOk r (λ meets. (s : Setup) (h : List Event) → StandsFor driver s h x → only_bystanders s a h ≡ true
      → meets ≡ only_bystanders s a (with_step s h (step_view t)))
  meets_ok decides x t a (Err e) few met = tt
  meets_ok decides x t a (Ok meets) few met = λ s h stands so_far.
      met s (told s h) (room_less (cost_of t) (2 ^ 64 - 1 - 32 * x.used) (told s h).stations (omega (arith, few)) stands.room) stands.holds
      ∙ sym (decides s a h (step_view t) so_far)
