-- A step of a system, by the history.
use Rattle.std.proofs.Common.{◌≡◌, ℕ, suc, ◌+◌, ◌*◌, ◌-◌, ◌^◌, ◌<◌, ◌≤◌, ℤ, List, [], ◌∷◌, ◌++◌, length, map, All, OnOk, Result, Ok, Err, sym, ap, ◌∙◌, subst, arith, rules}
use Rattle.std.proofs.lemmas.Grind.{common_steps}
use Rattle.iiod_grammar.specs.Stream.{Item, items_from}
use Rattle.iio_core.specs.Attached.{Attachment, entries_from}
use Rattle.iio_base.specs.declared.Mem.{Mem}
use Rattle.iio_sensor.specs.Driver.{Driver}
use Rattle.iio_desc.specs.declared.limits.TheConstants.{MAX_DEVICES}
use Rattle.iio_device.specs.declared.plug.Plug.{Plug}
use Rattle.iio_history.specs.Event.{Event, Heard}
use Rattle.iio_history.specs.Registry.{Setup}
use Rattle.iio_history.specs.Told.{Told, told}
use Rattle.iio_history.specs.Machine.{step}
use Rattle.iio_history.specs.Played.{state_after, steps}
use Rattle.iio_history.specs.Transcript.{begun_by, events_of_step, lines_of_step, with_step}
use Rattle.iio_history.specs.Bench.{Every}
use Rattle.iio_history.specs.BenchLaw.{CanJoinMore}
use Rattle.iio_history.proofs.BenchKept.{room_after}
use Rattle.iio_history.proofs.TranscriptLaws.{lines_are, state_is}
use Rattle.iio_bench.specs.declared.bench.Bench.{Bench}
use Rattle.iio_bench.specs.declared.connection.Connection.{Connection}
use Rattle.iio_kinds.specs.declared.seat.Seat.{Seat}
use Rattle.iio_system.specs.declared.step.Step.{Step as CodeStep}
use Rattle.iio_system.specs.declared.step.Step.TheVariants as code
use Rattle.iio_system.specs.declared.system.System.{System}
use Rattle.iio_system.specs.Standing.{Holds, IsPerformed, MakesStep, RiseBy, StandsFor, names_by, names_with, step_state}
use Rattle.iio_system.specs.Step.{cost_of, step_view}
use Rattle.iio_system.proofs.ItemLemmas.{items_few, room_less}

-- ---- the events of a step are few

entries_few : (k trigger : ℕ) (t : ℤ) (ds : List Attachment) → length (entries_from k trigger t ds) ≤ length ds
entries_few k trigger t [] = omega arith
entries_few k trigger t (d ∷ ds) = search (rules, entries_few (suc k) trigger t ds)

room_steps : (s : Setup) (es : List Event) (m : Told) (a b : ℕ) → length es + b ≤ a → Every (CanJoinMore a) m.stations
    → Every (CanJoinMore b) (steps s m es).stations
room_steps s [] m a b less room = room_less b a m.stations (omega (arith, less)) room
room_steps s (e ∷ es) m a b less room =
    room_steps s es (step s m e) (length es + b) b (omega arith)
    (room_after s m e (length es + b) (room_less (suc (length es + b)) a m.stations (omega (arith, less)) room))

heard_few : (m : Told) (name bytes : List ℕ) → length (map (λ (item : Item). Heard name item) (items_from (begun_by name m.lines) bytes)) ≤ length bytes
heard_few m name bytes = grind (arith, common_steps, items_few)

events_few : (m : Told) (t : CodeStep) → length m.stations ≤ MAX_DEVICES → length (events_of_step m (step_view t)) ≤ 32 * cost_of t
events_few m t devices = grind (arith, common_steps, heard_few, entries_few)

-- ---- the step

module _ {X : Type 0} {V : X → Type 0} (driver : Plug X V → Driver) where
  stations_few : (s : Setup) (m : Told) (b : Bench X V) (cs : List (Connection Seat)) → Holds driver s m b cs → length m.stations ≤ MAX_DEVICES
  stations_few s m b cs holds = grind (arith, common_steps)

  pub stands_step : (s : Setup) (h : List Event) (x x' : System X V) (t : CodeStep) (before after : List ℕ) → x.used + cost_of t < 2 ^ 56
      → x'.used ≡ x.used + cost_of t
      → MakesStep driver t (step_state x.bench x.connections.items before) (step_state x'.bench x'.connections.items after) → StandsFor driver s h x
      → (after ≡ before ++ lines_of_step s h (step_view t)) × StandsFor driver s (with_step s h (step_view t)) x'
  stands_step s h x x' t before after few used makes stands =
      let m : Told = told s h in
      let made = makes s m (room_less (cost_of t) (2 ^ 64 - 1 - 32 * x.used) m.stations (omega (arith, few)) stands.room) stands.holds in
      let events = events_few m t (stations_few s m x.bench x.connections.items stands.holds) in
      let room : Every (CanJoinMore (2 ^ 64 - 1 - 32 * x'.used)) (state_after s m (step_view t)).stations =
      room_steps s (events_of_step m (step_view t)) m (2 ^ 64 - 1 - 32 * x.used) (2 ^ 64 - 1 - 32 * x'.used) (omega (arith, few, used, events)) stands.room in (
        made.0 ∙ ap (λ (ls : List ℕ). before ++ ls) (sym (lines_are s h (step_view t))),
        record {
          holds = subst (λ (n : Told). Holds driver s n x'.bench x'.connections.items) (sym (state_is s h (step_view t))) made.1;
          room = subst (λ (n : Told). Every (CanJoinMore (2 ^ 64 - 1 - 32 * x'.used)) n.stations) (sym (state_is s h (step_view t))) room;
        },
      )

  pub steps_ok : {A : Type 0} (x x' : System X V) (t : CodeStep) (before after : List ℕ) (r : Result A Mem) → x.used + cost_of t < 2 ^ 56
      → x'.used ≡ x.used + cost_of t
      → OnOk r (MakesStep driver t (step_state x.bench x.connections.items before) (step_state x'.bench x'.connections.items after))
      → OnOk r ((s : Setup) (h : List Event) → StandsFor driver s h x → (after ≡ before ++ lines_of_step s h (step_view t))
      × StandsFor driver s (with_step s h (step_view t)) x')
  steps_ok x x' t before after (Err e) few used makes = tt
  steps_ok x x' t before after (Ok u) few used makes = λ s h stands. stands_step s h x x' t before after few used makes stands

  pub performed_ok : {A : Type 0} (x x' : System X V) (t : CodeStep) (before after : List ℕ) (r : Result A Mem) → x.used + cost_of t < 2 ^ 56
      → x'.used ≡ x.used + cost_of t
      → OnOk r (MakesStep driver t (step_state x.bench x.connections.items before) (step_state x'.bench x'.connections.items after))
      → OnOk r (names_by x' ≡ names_with (names_by x) (step_view t))
      → OnOk r (IsPerformed driver (step_view t) x x' before after)
  performed_ok x x' t before after (Err e) few used makes names = tt
  performed_ok x x' t before after (Ok u) few used makes names = search (rules, stands_step)

-- captures stay within what was used
pub rise_none : (old new : List ℕ) → new ≡ old → RiseBy 32 old new
rise_none old new same n all = rw same (λ i d within. let few = all i d within in omega (arith, few))

cost_some : (t : CodeStep) → 1 ≤ cost_of t
cost_some t = search rules

pub counted_more : (t : CodeStep) (used cost : ℕ) (old new : List ℕ) → cost ≡ cost_of t → RiseBy 32 old new → All (λ (n : ℕ). n ≤ 32 * used) old
    → All (λ (n : ℕ). n ≤ 32 * (used + cost)) new
counted_more t used cost old new is rise all i d within =
    let less = rise (32 * used) all i d within in
    let some = cost_some t in
    omega (arith, is, less, some)
