-- Outstanding entries, by the newest event.
use Rattle.std.proofs.Common.{◌≡◌, ℕ, zero, suc, ℤ, List, [], ◌∷◌, Some, slice_get, option_map, cond, refl, ap, rules}
use Rattle.iio_trigger.specs.Trigger.{Handed, poll_made}
use Rattle.iio_history.specs.Event.{Event, Polled, Handled}
use Rattle.iio_history.specs.Registry.{Setup, attachments_of}
use Rattle.iio_core.specs.Attached.{entries_from}
use Rattle.iio_core.specs.Trigger.{Trigger, without_entry}
use Rattle.iio_device.specs.Site.{at_place, is_empty}
use Rattle.iio_history.specs.Fold.{outstanding, registry_after}

got_at : {A : Type 0} (k : ℕ) (f : A → A) (xs : List A) → slice_get (at_place k f xs) k ≡ option_map f (slice_get xs k)
got_at k f [] = refl
got_at zero f (x ∷ xs) = refl
got_at (suc k) f (x ∷ xs) = got_at k f xs

got_elsewhere : {A : Type 0} (k j : ℕ) (f : A → A) (xs : List A) → (k ≡ j → ⊥) → slice_get (at_place k f xs) j ≡ slice_get xs j
got_elsewhere k j f [] other = refl
got_elsewhere zero zero f (x ∷ xs) other = absurd (other refl)
got_elsewhere zero (suc j) f (x ∷ xs) other = refl
got_elsewhere (suc k) zero f (x ∷ xs) other = refl
got_elsewhere (suc k) (suc j) f (x ∷ xs) other = got_elsewhere k j f xs (λ same. other (ap suc same))

-- a poll is accepted exactly if nothing is outstanding
made_is : (made es : List Handed) → poll_made made es ≡ cond (is_empty es) made es
made_is made es = search rules

pub outstanding_is : (s : Setup) (h : List Event) (trigger : ℕ) (t : Trigger) → slice_get (registry_after s h).triggers trigger ≡ Some t
    → ((moment : ℤ) → outstanding s trigger (Polled trigger moment ∷ h)
    ≡ cond (is_empty (outstanding s trigger h)) (entries_from 0 trigger moment (attachments_of (registry_after s h))) (outstanding s trigger h))
    × ((k : ℕ) → outstanding s trigger (Handled trigger k ∷ h) ≡ without_entry k (outstanding s trigger h))
    × ((other : ℕ) (moment : ℤ) → (other ≡ trigger → ⊥) → outstanding s trigger (Polled other moment ∷ h) ≡ outstanding s trigger h)
    × ((other k : ℕ) → (other ≡ trigger → ⊥) → outstanding s trigger (Handled other k ∷ h) ≡ outstanding s trigger h)
outstanding_is s h trigger t is = search (rules, got_at, made_is, got_elsewhere)
