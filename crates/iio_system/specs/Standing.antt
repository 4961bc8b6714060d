-- What a system holds, and the steps that it stands for.
use Rattle.std.specs.Prelude.{◌≡◌, ℕ, suc, ◌+◌, ◌*◌, ◌-◌, ◌^◌, ◌<◌, ◌≤◌, nat_lt, ◌||◌, All, Bool, true, List, [], ◌∷◌, ◌++◌, map, length, Some, if◌then◌else◌}
use Rattle.iio_sensor.specs.Driver.{Driver}
use Rattle.iio_device.specs.declared.plug.Plug.{Plug}
use Rattle.iiod_commands.specs.declared.manner.Manner.TheVariants.{Script}
use Rattle.iiod_session.specs.Session.{IsFresh, SessionRecord}
use Rattle.iio_history.specs.Event.{Event}
use Rattle.iio_history.specs.Registry.{Setup}
use Rattle.iio_history.specs.Script.{is_known, max_names}
use Rattle.iio_history.specs.Told.{Told, told}
use Rattle.iio_history.specs.Transcript.{Step, Feed, lines_of_step, with_step}
use Rattle.iio_history.specs.Bench.{Every}
use Rattle.iio_history.specs.BenchLaw.{CanJoinMore}
use Rattle.iio_history.specs.Played.{state_after, step_lines}
use Rattle.iio_worlds.specs.Stance.{step_meets}
use Rattle.iio_bench.specs.declared.bench.Bench.{Bench}
use Rattle.iio_bench.specs.declared.connection.Connection.{Connection}
use Rattle.iio_kinds.specs.declared.seat.Seat.{Seat}
use Rattle.iio_system.specs.declared.step.Step.{Step as CodeStep}
use Rattle.iio_system.specs.declared.step.Step.TheVariants as code
use Rattle.iio_system.specs.declared.system.System.{System}
use Rattle.iio_bench.specs.Bench.{front_of, machine_of}
use Rattle.iio_bench.specs.Seat.{seen_of}
use Rattle.iio_system.specs.Step.{cost_of, step_view}
use Rattle.iio_system.specs.System.{Stands}

-- ---- the names that were fed

abbrev pub name_by : {S : Type 0} → Connection S → List ℕ
name_by c = c.name

abbrev pub names_by : {X : Type 0} {V : X → Type 0} → System X V → List (List ℕ)
names_by x = map name_by x.connections.items

-- whether a connection of that name can be fed: it was fed before, or there is room for another name
abbrev pub has_room : List (List ℕ) → List ℕ → Bool
has_room names name = is_known names name || nat_lt (length names) max_names

-- the names after a step, the newest last
abbrev pub names_with : List (List ℕ) → Step → List (List ℕ)
names_with names (Feed name bytes) = if is_known names name then names else names ++ name ∷ []
names_with names step = names

-- a feed is for a connection that can be fed
abbrev pub IsTaken : List (List ℕ) → CodeStep → Type 0
IsTaken names (code.Feed name bytes) = has_room names name ≡ true
IsTaken names step = Unit {0}

-- a connection that has sent nothing yet
pub record IsNew (name : List ℕ) (who : ℕ) (c : Connection Seat) : Type 0 where
  pub name_is : c.name ≡ name
  pub fresh : SessionRecord Seat
  pub session_is : c.session ≡ Some fresh
  pub is_fresh : IsFresh who Script fresh

-- ---- captures

-- the numbers of captures can still rise
abbrev pub CanCapture : List ℕ → Type 0
CanCapture captures = All (λ n. n < 2 ^ 63) captures

-- the largest number of captures of a device has risen by at most `k`
abbrev pub RiseBy : ℕ → (old new : List ℕ) → Type 0
RiseBy k old new = (n : ℕ) → All (λ c. c ≤ n) old → All (λ c. c ≤ n + k) new

-- ---- the whole

-- the state that a step changes: the bench, the connections, and what was printed
pub record StepState (X : Type 0) (V : X → Type 0) : Type 0 where
  pub bench : Bench X V
  pub connections : List (Connection Seat)
  pub printed : List ℕ

abbrev pub step_state : {X : Type 0} {V : X → Type 0} → Bench X V → (connections : List (Connection Seat)) → (printed : List ℕ) → StepState X V
step_state bench connections text = record { bench = bench; connections = connections; printed = text }

module _ {X : Type 0} {V : X → Type 0} (driver : Plug X V → Driver) where
  -- what a bench and its connections hold is the told state
  abbrev pub Holds : Setup → Told → Bench X V → List (Connection Seat) → Type 0
  Holds s m b connections = Stands seen_of s m (front_of b) (Some (machine_of driver b)) connections

  -- a step of a bench and its connections that hold this told state: its lines, and what they hold afterwards
  abbrev pub IsMade : Setup → Told → Step → (x y : StepState X V) → Type 0
  IsMade s m t x y = (y.printed ≡ x.printed ++ step_lines s m t) × Holds s (state_after s m t) y.bench y.connections

  -- the same, whatever told state they hold
  abbrev pub Makes : Step → (x y : StepState X V) → Type 0
  Makes t x y = (s : Setup) (m : Told) → Holds s m x.bench x.connections → IsMade s m t x y

  -- a feed, if members can still be numbered
  abbrev pub MakesFeed : (name bytes : List ℕ) → (x y : StepState X V) → Type 0
  MakesFeed name bytes x y =
      (s : Setup) (m : Told) → Every (CanJoinMore (suc (length bytes))) m.stations → Holds s m x.bench x.connections → IsMade s m (Feed name bytes) x y

  -- a step, if as many members can still be numbered as its cost, which is 1 and the number of its bytes
  abbrev pub MakesStep : CodeStep → (x y : StepState X V) → Type 0
  MakesStep t x y =
      (s : Setup) (m : Told) → Every (CanJoinMore (cost_of t)) m.stations → Holds s m x.bench x.connections → IsMade s m (step_view t) x y

  -- whether a step keeps to the rules of bystanders as to the watched connection; and the same of a feed, and of any step of
  -- the code
  abbrev pub Meets : (watched : List ℕ) → Step → Bench X V → List (Connection Seat) → Bool → Type 0
  Meets watched t b cs meets = (s : Setup) (m : Told) → Holds s m b cs → meets ≡ step_meets s watched m t

  abbrev pub MeetsFeed : (watched name bytes : List ℕ) → Bench X V → List (Connection Seat) → Bool → Type 0
  MeetsFeed watched name bytes b cs meets =
      (s : Setup) (m : Told) → Every (CanJoinMore (suc (length bytes))) m.stations → Holds s m b cs → meets ≡ step_meets s watched m (Feed name bytes)

  abbrev pub MeetsStep : (watched : List ℕ) → CodeStep → Bench X V → List (Connection Seat) → Bool → Type 0
  MeetsStep watched t b cs meets =
      (s : Setup) (m : Told) → Every (CanJoinMore (cost_of t)) m.stations → Holds s m b cs → meets ≡ step_meets s watched m (step_view t)

  -- a system stands for these events: it holds the state that they give, and members can still be numbered. (A step has at most
  -- 32 events for itself and for each of its bytes.)
  pub record StandsFor (s : Setup) (h : List Event) (x : System X V) : Type 0 where
    pub holds : Holds s (told s h) x.bench x.connections.items
    pub room : Every (CanJoinMore (2 ^ 64 - 1 - 32 * x.used)) (told s h).stations

  -- a step was performed: what it printed, what the system stands for, and the names that were fed
  pub record IsPerformed (t : Step) (x x' : System X V) (before after : List ℕ) : Type 0 where
    pub lines : (s : Setup) (h : List Event) → StandsFor s h x → (after ≡ before ++ lines_of_step s h t) × StandsFor s (with_step s h t) x'
    pub names : names_by x' ≡ names_with (names_by x) t
