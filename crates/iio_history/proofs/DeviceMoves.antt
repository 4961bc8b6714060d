-- What isn't a connection's call, at a device: by its own view, and by the history.
use Rattle.std.proofs.Common.{◌≡◌, ℕ, ◌-◌, ◌^◌, Bool, true, false, List, Option, Some, slice_get, option_map, cond, ap, ◌∙◌, arith, rules}
use Rattle.std.proofs.lemmas.Bool.Decides.{nat_tests}
use Rattle.std.specs.Prelude.{◌==◌, ℤ}
use Rattle.iio_layout.specs.Shape.{ShapeRecord}
use Rattle.iio_kfifo.specs.declared.tail.Tail.{Ghosts}
use Rattle.iio_trigger.specs.Trigger.{Handed}
use Rattle.iio_device.specs.declared.handling.Handled.{Handled}
use Rattle.iio_device.specs.Active.{active_for}
use Rattle.iio_device.specs.Device.{DeviceView, Handles, after_sense, at_site}
use Rattle.iio_device.specs.Members.{masks_of}
use Rattle.iio_device.specs.Site.{unplugged}
use Rattle.iio_desc.specs.Kind.{Kind, Input}
use Rattle.iio_core.specs.Front.{kind_at, shape_at}
use Rattle.iio_core.specs.Machine.{Machine, Station}
use Rattle.iio_core.proofs.PlaceLists.{get_first}
use Rattle.iio_history.specs.Event.{Handled as HandledAt, Sensed as SensedAt, Unplugged}
use Rattle.iio_history.specs.Registry.{Setup}
use Rattle.iio_core.specs.Trigger.{entries_at, entry_of}
use Rattle.iio_history.specs.Told.{Told}
use Rattle.iio_history.specs.Machine.{step}
use Rattle.iio_history.specs.Bench.{IsBench, front_of, machine_of}
use Rattle.iio_core.specs.Moves.{capture_at, entry_at, station_after_entry}
use Rattle.iio_core.specs.Devices.{AreMet, IsAt, station_met}
use Rattle.iio_history.proofs.BenchMoves.{handling_is, look_is, unplugging_is}
use Rattle.iio_core.proofs.DeviceLaws.{looks_agree}
use Rattle.iio_core.proofs.DeviceHandlings.{handled_is}

module _ {Q : Type 0} (ends : Ghosts Q) where
  pub ends_agree : (waits : Q → List (List ℕ)) (s : Setup) (m : Told) (k : ℕ) (d : DeviceView Q) → IsBench s m → kind_at (front_of s) k ≡ Input
      → IsAt ends waits (machine_of m) k d
      → IsAt ends waits (machine_of (step s m (Unplugged k))) k (at_site (unplugged d.site) d)
  ends_agree waits s m k d bench input here = search (rules, unplugging_is, get_first)

  pub told_looks_agree : (waits : Q → List (List ℕ)) (s : Setup) (m : Told) (k : ℕ) (t : ℤ) (d : DeviceView Q) → IsBench s m
      → shape_at (front_of s) k ≡ d.standing.shape
      → IsAt ends waits (machine_of m) k d → IsAt ends waits (machine_of (step s m (SensedAt k t))) k (after_sense t d)
  told_looks_agree waits s m k t d bench shaped here = search (rules, look_is, looks_agree)

module _ {Q : Type 0} (ends : Ghosts Q) where
  pub told_handlings_agree : (waits : Q → List (List ℕ)) (waited : Q → Q → List (List ℕ)) (s : Setup) (m : Told) (trigger k : ℕ) (due : Handed) (r : Handled)
      (d d' : DeviceView Q)
      → IsBench s m → kind_at (front_of s) k ≡ Input → shape_at (front_of s) k ≡ d.standing.shape
      → entry_of k (entries_at m.triggers trigger) ≡ Some due
      → Handles ends due r d d' → due.dev ≡ d.number → (d.standing.captures == 2 ^ 64 - 1) ≡ false
      → d.standing.active ≡ active_for d.standing.shape (masks_of d.standing.members) → AreMet ends waits waited r d d'
      → slice_get (machine_of m).stations k ≡ Some (station_met ends waits waited r d d')
      → IsAt ends waits (machine_of (step s m (HandledAt trigger k))) k d'
  told_handlings_agree waits waited s m trigger k due r d d' bench input shaped entry h own fewer ruled met_is here =
      let itself : (k == k) ≡ true = grind (arith, nat_tests) in
      let es = entries_at m.triggers trigger in
      let met : Station = station_met ends waits waited r d d' in
      let made : ℕ → Kind → Station → Station =
      λ j kind st. entry_at (entry_of k es) (capture_at (front_of s) (entry_of k es) k (machine_of m)) k kind (shape_at (front_of s) j) j st in
      ap (λ (x : Machine). slice_get x.stations k) (handling_is s m trigger k bench)
      ∙ get_first (λ j st. made j (kind_at (front_of s) j) st) (machine_of m).stations k
      ∙ ap (λ (o : Option Station). option_map (made k (kind_at (front_of s) k)) o) here
      ∙ ap (λ (kind : Kind). Some (made k kind met)) input
      ∙ ap (λ (b : Bool). Some (cond b (station_after_entry Input (shape_at (front_of s) k) (entry_of k es) met) met)) itself
      ∙ ap (λ (shape : ShapeRecord). Some (station_after_entry Input shape (entry_of k es) met)) shaped
      ∙ ap (λ o. Some (station_after_entry Input d.standing.shape o met)) entry
      ∙ ap (λ (st : Station). Some st) (handled_is ends waits waited due r d d' h own fewer ruled met_is).1
