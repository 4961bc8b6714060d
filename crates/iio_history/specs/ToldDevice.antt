-- The law about all that isn't a connection's call, at an input device over any queue's end: the device's own view then is
-- that of the device that the history gives.
use Rattle.std.specs.Prelude.{◌≡◌, ℕ, ℤ, ◌-◌, ◌^◌, ◌==◌, false, List, slice_get, Some}
use Rattle.iio_kfifo.specs.declared.tail.Tail.{Ghosts}
use Rattle.iio_trigger.specs.Trigger.{Handed}
use Rattle.iio_device.specs.declared.handling.Handled.{Handled}
use Rattle.iio_device.specs.Active.{active_for}
use Rattle.iio_device.specs.Device.{DeviceView, Handles, after_sense, at_site}
use Rattle.iio_device.specs.Members.{masks_of}
use Rattle.iio_device.specs.Site.{unplugged}
use Rattle.iio_desc.specs.Kind.{Input}
use Rattle.iio_core.specs.Front.{kind_at, shape_at}
use Rattle.iio_history.specs.Event.{Handled as HandledAt, Sensed as SensedAt, Unplugged}
use Rattle.iio_history.specs.Registry.{Setup}
use Rattle.iio_core.specs.Trigger.{entries_at, entry_of}
use Rattle.iio_history.specs.Told.{Told}
use Rattle.iio_history.specs.Machine.{step}
use Rattle.iio_history.specs.Bench.{IsBench, front_of, machine_of}
use Rattle.iio_core.specs.Devices.{AreMet, IsAt, station_met}

module _ {Q : Type 0} where
  abbrev pub EndsAgree : Ghosts Q → Type 0
  EndsAgree ends =
      (waits : Q → List (List ℕ)) (s : Setup) (m : Told) (k : ℕ) (d : DeviceView Q) → IsBench s m → kind_at (front_of s) k ≡ Input
      → IsAt ends waits (machine_of m) k d
      → IsAt ends waits (machine_of (step s m (Unplugged k))) k (at_site (unplugged d.site) d)

  abbrev pub ToldLooksAgree : Ghosts Q → Type 0
  ToldLooksAgree ends =
      (waits : Q → List (List ℕ)) (s : Setup) (m : Told) (k : ℕ) (t : ℤ) (d : DeviceView Q) → IsBench s m → shape_at (front_of s) k ≡ d.standing.shape
      → IsAt ends waits (machine_of m) k d → IsAt ends waits (machine_of (step s m (SensedAt k t))) k (after_sense t d)

  abbrev pub ToldHandlingsAgree : Ghosts Q → Type 0
  ToldHandlingsAgree ends =
      (waits : Q → List (List ℕ)) (waited : Q → Q → List (List ℕ)) (s : Setup) (m : Told) (trigger k : ℕ) (due : Handed) (r : Handled) (old new : DeviceView Q)
      → IsBench s m → kind_at (front_of s) k ≡ Input → shape_at (front_of s) k ≡ old.standing.shape
      → entry_of k (entries_at m.triggers trigger) ≡ Some due
      → Handles ends due r old new → due.dev ≡ old.number → (old.standing.captures == 2 ^ 64 - 1) ≡ false
      → old.standing.active ≡ active_for old.standing.shape (masks_of old.standing.members) → AreMet ends waits waited r old new
      → slice_get (machine_of m).stations k ≡ Some (station_met ends waits waited r old new)
      → IsAt ends waits (machine_of (step s m (HandledAt trigger k))) k new
