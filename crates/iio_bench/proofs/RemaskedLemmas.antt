-- What a REMASK keeps of a device's standing.
use Rattle.std.proofs.Common.{◌≡◌, ℕ, List, map, set, slice_get, Some, Result, rules}
use Rattle.std.specs.Prelude.{ℤ}
use Rattle.iio_desc.specs.declared.description.TriggerDesc.{TriggerDesc}
use Rattle.iio_sensor.specs.Driver.{Driver}
use Rattle.iio_device.specs.declared.plug.Plug.{Plug}
use Rattle.iio_device.specs.Site.{is_empty}
use Rattle.iiod_commands.specs.declared.iio.No.{No}
use Rattle.iio_core.specs.Trigger.{Trigger}
use Rattle.iio_core.specs.Calls.{is_inner_of, remask_of, station_after_remask, with_mask}
use Rattle.iio_core.specs.Machine.{Member, MemberId, Station, queue_of}
use Rattle.iiod_commands.specs.Seat.{Answers}
use Rattle.iio_kinds.specs.Acting.{Acts}
use Rattle.iio_kinds.specs.Remasking.{remask_answer}
use Rattle.iio_kinds.specs.declared.any_device.AnyDevice.{AnyDevice}
use Rattle.iio_kinds.specs.Station.{any_front, any_station}
use Rattle.iio_kinds.proofs.StandingLemmas.{KeepsStanding, standing}
use Rattle.iio_bench.proofs.BenchLemmas.{acts_stand, inner_mapped}
use Rattle.iio_bench.proofs.ToldLemmas.{fronts_by, machine_by, shape_is, told_acts}

-- ---- what it keeps

empty_map : {A B : Type 0} (f : A → B) (xs : List A) → is_empty (map f xs) ≡ is_empty xs
empty_map f xs = search rules

remasked_inner : (n mask scans j : ℕ) (x : Member) → is_inner_of j (with_mask n mask scans x) ≡ is_inner_of j x
remasked_inner n mask scans j x = search rules

pub remasked_stands : (n mask scans : ℕ) (st : Station) → KeepsStanding st (station_after_remask n mask scans st)
remasked_stands n mask scans st = search (rules, standing, empty_map, inner_mapped, remasked_inner)

-- ---- the bench

module _ {X : Type 0} {V : X → Type 0} (drive : Plug X V → Driver) (context : List ℕ) (triggers : List TriggerDesc) (ds : List (AnyDevice X V)) (clock : ℤ)
    (k : ℕ) (d d' : AnyDevice X V)
    (at : slice_get ds k ≡ Some d) (id : MemberId) (mask scans : ℕ) (r : Result ℕ No)
    (acts : Acts (station_after_remask id.number mask scans) (remask_answer (any_front d).shape (any_station drive d) id mask) r (any_station drive d)
    (any_station drive d')) where
  pub remask_kept : KeepsStanding (any_station drive d) (any_station drive d')
  remask_kept =
      acts_stand (station_after_remask id.number mask scans) (any_station drive d) (any_station drive d')
      (remask_answer (any_front d).shape (any_station drive d) id mask)
      r (λ x e. remasked_stands id.number mask scans (any_station drive d)) acts

  pub told_remask : (ts : List Trigger)
      → Answers (remask_of (fronts_by any_front context triggers ds) (machine_by (any_station drive) clock ts ds) k id mask scans)
      (machine_by (any_station drive) clock ts ds) r (Some (machine_by (any_station drive) clock ts (set ds k d')))
  unfolding remask_of queue_of
  told_remask ts =
      rw (shape_is any_front context triggers ds k d at)
      (told_acts (any_station drive) clock ts ds k d d' at (station_after_remask id.number mask scans) (λ st. remask_answer (any_front d).shape st id mask) r
      acts)
