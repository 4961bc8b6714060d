-- The handlings that follow a poll, one after another. Only this crate's private functions cite this file.
use Rattle.std.specs.Prelude.{◌≡◌, ℕ, suc, ◌<◌, ◌≤◌, ◌-◌, ◌^◌, All, List, [], ◌∷◌, ◌++◌, map, None, Some}
use Rattle.iio_sensor.specs.Driver.{Driver}
use Rattle.iio_trigger.specs.Trigger.{Handed}
use Rattle.iio_device.specs.declared.plug.Plug.{Plug}
use Rattle.iio_history.specs.Event.{Event, Handled}
use Rattle.iio_history.specs.Registry.{Setup}
use Rattle.iio_core.specs.Trigger.{entries_at, entry_of}
use Rattle.iio_history.specs.Told.{Told}
use Rattle.iio_history.specs.Played.{steps, texts}
use Rattle.iio_system.specs.Standing.{Holds, StepState}

-- no device has made its last capture
abbrev pub CanGoOn : List ℕ → Type 0
CanGoOn captures = All (λ n. n < 2 ^ 64 - 1) captures

-- the handling of the entry that a device has, if it has one
abbrev pub handling_of : (trigger dev : ℕ) → List Handed → List Event
handling_of trigger dev entries = elim (entry_of dev entries) [ None ↦ [] | Some e ↦ Handled trigger dev ∷ [] ]

-- the handling of each entry
abbrev pub handlings : (trigger : ℕ) → List Handed → List Event
handlings trigger entries = map (λ (e : Handed). Handled trigger e.dev) entries

-- the entries are of devices from `low` on and below `high`, in the order of devices, and of each device there is at most one
abbrev pub InOrder : (low high : ℕ) → List Handed → Type 0
InOrder low high [] = low ≤ high
InOrder low high (e ∷ es) = (low ≤ e.dev) × InOrder (suc e.dev) high es

module _ {X : Type 0} {V : X → Type 0} (driver : Plug X V → Driver) where
  -- these events: their lines, and what the bench and the connections hold afterwards
  abbrev pub Plays : Setup → Told → List Event → (x y : StepState X V) → Type 0
  Plays s m events x y = (y.printed ≡ x.printed ++ texts s m events) × Holds driver s (steps s m events) y.bench y.connections

  -- the handling of a device's entry at a trigger
  abbrev pub HandlesOne : (trigger dev : ℕ) → (x y : StepState X V) → Type 0
  HandlesOne trigger dev x y =
      (s : Setup) (m : Told) → Holds driver s m x.bench x.connections → Plays s m (handling_of trigger dev (entries_at m.triggers trigger)) x y

  -- the handling of all entries at a trigger, which are for devices below `high` and in their order
  abbrev pub HandlesAll : (trigger high : ℕ) → (x y : StepState X V) → Type 0
  HandlesAll trigger high x y =
      (s : Setup) (m : Told) → Holds driver s m x.bench x.connections → InOrder 0 high (entries_at m.triggers trigger)
      → Plays s m (handlings trigger (entries_at m.triggers trigger)) x y
