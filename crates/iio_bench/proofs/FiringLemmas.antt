-- Polls, looks at thresholds and unpluggings at a bench.
use Rattle.std.proofs.Common.{◌≡◌, ◌⊎◌, ℕ, zero, suc, Bool, false, List, [], ◌∷◌, map, set, slice_get, Option, Some, inl, inr, refl, ap, ◌∙◌, rules}
use Rattle.std.specs.Prelude.{ℤ, unwrap_or}
use Rattle.std.specs.Option.{option_map_or}
use Rattle.iio_layout.specs.Shape.{ShapeRecord}
use Rattle.iio_desc.specs.declared.description.TriggerDesc.{TriggerDesc}
use Rattle.iio_desc.specs.Kind.{Kind}
use Rattle.iio_trigger.specs.declared.Polled.{Polled}
use Rattle.iio_trigger.specs.Trigger.{Handed, Polls, State}
use Rattle.iio_device.specs.Site.{at_place}
use Rattle.iio_core.specs.Attached.{entries_from}
use Rattle.iio_core.specs.Machine.{Station, attachments_of}
use Rattle.iio_core.specs.Trigger.{trigger_after_poll, trigger_after_handling, Trigger, entry_of, first_trigger, poll_answer, entries_at, missed_at}
use Rattle.iio_core.specs.Moves.{station_after_look}
use Rattle.iio_core.specs.declared.became.Became.{Became}
use Rattle.iio_kinds.specs.Handling.{is_last, entry_became}
use Rattle.iio_bench.specs.Triggers.{IsBench, IsTrigger}
use Rattle.iio_kinds.specs.Places.{trigger_of}
use Rattle.iio_bench.proofs.ListLemmas.{after_set, map_at, map_changed, map_same}
use Rattle.iio_kinds.proofs.StandingLemmas.{KeepsStanding}
use Rattle.iio_bench.proofs.TriggerLemmas.{off_sound, off_told, poll_answers, poll_places, poll_sound, poll_told}
use Rattle.iio_kinds.proofs.DueLemmas.{without}

-- one trigger has changed
pub bench_triggered : (triggers : List TriggerDesc) (states : List State) (sts : List Station) (t : ℕ) (s s' : State) → IsBench triggers states sts
    → slice_get states t ≡ Some s → s'.places ≡ s.places → IsTrigger t sts s'
    → IsBench triggers (set states t s') sts
bench_triggered triggers states sts t s s' bench there places sound = record {
  few = bench.few;
  devices = bench.devices;
  places = map_same (λ (x : State). x.places) states t s s' there places ∙ bench.places;
  each = λ u x e. by u x (after_set states t u s' x e);
}
  where
    by : (u : ℕ) (x : State) → ((u ≡ t) × (x ≡ s')) ⊎ ((u ≡ t → ⊥) × (slice_get states u ≡ Some x)) → IsTrigger u sts x
    by u x (inl p) = rw (p.0, p.1) sound
    by u x (inr p) = bench.each u x p.1

module _ (triggers : List TriggerDesc) (states : List State) (sts : List Station) (t : ℕ) (moment : ℤ) (s s' : State) (answer : Polled)
    (bench : IsBench triggers states sts) (there : slice_get states t ≡ Some s) (p : Polls s moment answer s') where
  pub poll_bench : IsBench triggers (set states t s') sts
  poll_bench =
      bench_triggered triggers states sts t s s' bench there (poll_places t sts moment s (bench.each t s there) answer s' p)
      (poll_sound t sts moment s (bench.each t s there) answer s' p)

  pub poll_triggers : map trigger_of (set states t s') ≡ at_place t (trigger_after_poll (attachments_of sts) t moment) (map trigger_of states)
  poll_triggers = search (rules, map_changed, poll_told)

  pub poll_answer_is : answer
      ≡ poll_answer (entries_from 0 t moment (attachments_of sts)) (entries_at (map trigger_of states) t) (missed_at (map trigger_of states) t)
  poll_answer_is = search (rules, map_at, poll_answers)

-- ---- thresholds

pub sense_stands : (shape : ShapeRecord) (t : ℤ) (st st' : Station) → st' ≡ station_after_look shape t st → KeepsStanding st st'
sense_stands shape t st st' e = search rules

-- ---- entries

module _ (triggers : List TriggerDesc) (states : List State) (sts : List Station) (t dev : ℕ) (s s' : State) (bench : IsBench triggers states sts)
    (there : slice_get states t ≡ Some s) where
  pub entry_bench : s' ≡ without dev s → IsBench triggers (set states t s') sts
  entry_bench off =
      bench_triggered triggers states sts t s s' bench there (ap (λ (x : State). x.places) off) (off_sound t dev sts s s' (bench.each t s there) off)

pub entry_triggers : (states : List State) (t dev : ℕ) (s s' : State) → slice_get states t ≡ Some s → s' ≡ without dev s
    → map trigger_of (set states t s') ≡ at_place t (trigger_after_handling dev) (map trigger_of states)
entry_triggers states t dev s s' there off = map_changed trigger_of states t s s' (trigger_after_handling dev) there (off_told dev s s' off)

pub entry_here : (states : List State) (t dev : ℕ) (s : State) → slice_get states t ≡ Some s
    → entry_of dev (entries_at (map trigger_of states) t) ≡ entry_of dev (trigger_of s).entries
entry_here states t dev s there = ap (λ (o : Option Trigger). entry_of dev (unwrap_or o first_trigger).entries) (map_at trigger_of states t s there)

pub entry_answer_is : (kind kind' : Kind) (o o' : Option Handed) (ended ended' : Bool) (st st' : Station) (r : Option Became) → kind' ≡ kind → o' ≡ o
    → ended' ≡ ended → st' ≡ st → r ≡ entry_became kind o ended st
    → r ≡ entry_became kind' o' ended' st'
entry_answer_is kind kind' o o' ended ended' st st' r sameK same sameE sameS e = rw (sameK, same, sameE, sameS) e

-- the room of a device is that of the device at its place
pub room_is : {D : Type 0} (f : D → List ℕ) (ds : List D) (k : ℕ) (d d' : D) → slice_get ds k ≡ Some d → option_map_or f (slice_get (set ds k d') k) [] ≡ f d'
room_is f [] k d d' at = absurd (cc)
room_is f (x ∷ xs) zero d d' at = refl
room_is f (x ∷ xs) (suc k) d d' at = room_is f xs k d d' at

pub ended_here : {D : Type 0} (f : D → ℕ) (ds : List D) (k : ℕ) (d : D) → slice_get ds k ≡ Some d
    → option_map_or is_last (slice_get (map f ds) k) false ≡ is_last (f d)
ended_here f ds k d at = ap (λ (o : Option ℕ). option_map_or is_last o false) (map_at f ds k d at)
