-- The places at a trigger when a device is attached or detached.
use Rattle.std.proofs.Common.{◌≡◌, ℕ, zero, suc, ◌+◌, ◌<◌, Bool, true, false, List, [], ◌∷◌, map, length, set, slice_get, Some, refl, arith, rules}
use Rattle.std.specs.Prelude.{ℤ}
use Rattle.iio_trigger.specs.Trigger.{entries_at, holds_place, with_place, without_place}
use Rattle.iio_core.specs.Attached.{attached_count, entries_from, is_attached}
use Rattle.iio_core.specs.Machine.{Station, attachment_of, attachments_of}
use Rattle.iio_kinds.specs.Places.{handed_of}
use Rattle.iio_bench.specs.Triggers.{places_from}

module _ (trigger : ℕ) where
  -- whether a device is attached to the trigger
  abbrev is_on : Station → Bool
  is_on st = is_attached trigger (attachment_of st)

  -- a device that keeps its place
  pub places_kept : (dev : ℕ) (sts : List Station) (k : ℕ) (st st' : Station) → slice_get sts k ≡ Some st → is_on st' ≡ is_on st
      → st'.site.attachment ≡ st.site.attachment → places_from dev trigger (set sts k st') ≡ places_from dev trigger sts
  places_kept dev [] k st st' at e a = refl
  places_kept dev (y ∷ ys) zero st st' at e a = cc
  places_kept dev (y ∷ ys) (suc k) st st' at e a = simp (places_kept (suc dev) ys k st st' at e a)

  -- a device that has no place
  pub places_none : (dev : ℕ) (sts : List Station) (k : ℕ) (st st' : Station) → slice_get sts k ≡ Some st → is_on st ≡ false
      → is_on st' ≡ false
      → places_from dev trigger (set sts k st') ≡ places_from dev trigger sts
  places_none dev [] k st st' at e a = refl
  places_none dev (y ∷ ys) zero st st' at e a = cc
  places_none dev (y ∷ ys) (suc k) st st' at e a = simp (places_none (suc dev) ys k st st' at e a)

  pub length-places_from : (dev : ℕ) (sts : List Station) → length (places_from dev trigger sts) ≡ attached_count trigger (attachments_of sts)
  length-places_from dev [] = refl
  length-places_from dev (y ∷ ys) = search (rules, length-places_from (suc dev) ys)

  -- the places of devices after this one aren't its
  held_later : (n dev : ℕ) (sts : List Station) → n < dev → holds_place n (places_from dev trigger sts) ≡ false
  held_later n dev [] h = refl
  held_later n dev (y ∷ ys) h = search (rules, held_later n (suc dev) ys (omega arith))

  pub holds_place-places_from : (dev : ℕ) (sts : List Station) (k n : ℕ) (st : Station) → slice_get sts k ≡ Some st → n ≡ dev + k
      → is_on st ≡ false → holds_place n (places_from dev trigger sts) ≡ false
  holds_place-places_from dev [] k n st at e off = refl
  holds_place-places_from dev (y ∷ ys) zero n st at e off = search (rules, held_later)
  holds_place-places_from dev (y ∷ ys) (suc k) n st at e off = search (rules, holds_place-places_from (suc dev) ys k n st at (omega arith) off)

  -- another place, before those of the devices after it
  placed_first : (n a dev : ℕ) (sts : List Station) → n < dev
      → with_place n a (places_from dev trigger sts) ≡ record { dev = n; attachment = a } ∷ places_from dev trigger sts
  placed_first n a dev [] h = refl
  placed_first n a dev (y ∷ ys) h = search (rules, placed_first n a (suc dev) ys (omega arith))

  -- a device that takes a place
  pub places_attached : (dev : ℕ) (sts : List Station) (k n a : ℕ) (st st' : Station) → slice_get sts k ≡ Some st → n ≡ dev + k → is_on st ≡ false
      → is_on st' ≡ true → st'.site.attachment ≡ a → with_place n a (places_from dev trigger sts) ≡ places_from dev trigger (set sts k st')
  places_attached dev [] k n a st st' at e off on same = absurd (cc)
  places_attached dev (y ∷ ys) zero n a st st' at e off on same = search (rules, placed_first)
  places_attached dev (y ∷ ys) (suc k) n a st st' at e off on same =
      search (rules, set, places_attached (suc dev) ys k n a st st' at (omega arith) off on same)

  -- devices after this one keep their places
  left_later : (n dev : ℕ) (sts : List Station) → n < dev → without_place n (places_from dev trigger sts) ≡ places_from dev trigger sts
  left_later n dev [] h = refl
  left_later n dev (y ∷ ys) h = search (rules, left_later n (suc dev) ys (omega arith))

  -- a device that leaves its place
  pub places_detached : (dev : ℕ) (sts : List Station) (k n : ℕ) (st st' : Station) → slice_get sts k ≡ Some st → n ≡ dev + k → is_on st' ≡ false
      → without_place n (places_from dev trigger sts) ≡ places_from dev trigger (set sts k st')
  places_detached dev [] k n st st' at e off = refl
  places_detached dev (y ∷ ys) zero n st st' at e off = search (rules, left_later)
  places_detached dev (y ∷ ys) (suc k) n st st' at e off = search (rules, set, places_detached (suc dev) ys k n st st' at (omega arith) off)

  -- the entries of a poll
  pub entries_of_places : (dev : ℕ) (moment : ℤ) (sts : List Station)
      → map handed_of (entries_at moment (places_from dev trigger sts)) ≡ entries_from dev trigger moment (attachments_of sts)
  entries_of_places dev moment [] = refl
  entries_of_places dev moment (y ∷ ys) = search (rules, entries_of_places (suc dev) moment ys)
