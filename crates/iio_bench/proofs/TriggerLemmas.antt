-- A trigger of a bench: polls, and entries that are handed out and removed.
use Rattle.std.proofs.Common.{◌≡◌, ℕ, false, List, [], ◌∷◌, map, refl, ap, ◌∙◌, arith, rules}
use Rattle.std.proofs.lemmas.Grind.{common_steps}
use Rattle.std.specs.Prelude.{ℤ}
use Rattle.iio_trigger.specs.declared.rows.Place.{Place}
use Rattle.iio_trigger.specs.declared.rows.Entry.{Entry}
use Rattle.iio_trigger.specs.declared.Polled.{Polled}
use Rattle.iio_trigger.specs.Trigger.{Polls, State, after_poll, entries_at, missed_after, poll_made, without_entry as without_entry_of}
use Rattle.iio_core.specs.Attached.{entries_from}
use Rattle.iio_core.specs.Machine.{Station, attachments_of}
use Rattle.iio_core.specs.Trigger.{trigger_after_poll, trigger_after_handling, poll_answer}
use Rattle.iio_bench.specs.Triggers.{IsTrigger}
use Rattle.iio_kinds.specs.Places.{handed_of, has_in_hand, trigger_of}
use Rattle.iio_bench.proofs.ListLemmas.{filter_map_is}
use Rattle.iio_bench.proofs.PlaceLemmas.{entries_of_places}
use Rattle.iio_kinds.proofs.DueLemmas.{or_left, or_right, without}

-- ---- polls

made_is : (made out : List Entry) → map handed_of (poll_made made out) ≡ poll_made (map handed_of made) (map handed_of out)
made_is made out = search rules

missed_is : (out : List Entry) (n : ℕ) → missed_after out n ≡ missed_after (map handed_of out) n
missed_is out n = search rules

none_in_hand : (t : ℤ) (places : List Place) → has_in_hand (entries_at t places) ≡ false
none_in_hand t [] = refl
none_in_hand t (p ∷ ps) = none_in_hand t ps

poll_in_hand : (t : ℤ) (places : List Place) (out : List Entry) → has_in_hand out ≡ false → has_in_hand (poll_made (entries_at t places) out) ≡ false
poll_in_hand t places out h = search (rules, none_in_hand)

module _ (trigger : ℕ) (stations : List Station) (moment : ℤ) (s : State) (sound : IsTrigger trigger stations s) where
  made_by : map handed_of (entries_at moment s.attached) ≡ entries_from 0 trigger moment (attachments_of stations)
  made_by = ap (λ (ps : List Place). map handed_of (entries_at moment ps)) sound.attached ∙ entries_of_places trigger 0 moment stations

  polled_state : trigger_of (after_poll moment s) ≡ trigger_after_poll (attachments_of stations) trigger moment (trigger_of s)
  polled_state = simp (made_is, made_by, missed_is)

  polls_is : (answer : Polled) (s' : State) → Polls s moment answer s' → s' ≡ after_poll moment s
  polls_is answer s' p = search rules

  answer_at : (answer : Polled) (s' : State) (out : List Entry) → s.outstanding ≡ out → Polls s moment answer s'
      → answer ≡ poll_answer (entries_from 0 trigger moment (attachments_of stations)) (map handed_of out) s.missed
  answer_at answer s' out e p = grind (arith, common_steps, made_by)

  pub poll_answers : (answer : Polled) (s' : State) → Polls s moment answer s'
      → answer ≡ poll_answer (entries_from 0 trigger moment (attachments_of stations)) (trigger_of s).entries s.missed
  poll_answers answer s' p = answer_at answer s' s.outstanding refl p

  pub poll_told : (answer : Polled) (s' : State) → Polls s moment answer s'
      → trigger_of s' ≡ trigger_after_poll (attachments_of stations) trigger moment (trigger_of s)
  poll_told answer s' p = ap trigger_of (polls_is answer s' p) ∙ polled_state

  pub poll_sound : (answer : Polled) (s' : State) → Polls s moment answer s' → IsTrigger trigger stations s'
  poll_sound answer s' p = search (rules, polls_is, poll_in_hand)

  pub poll_places : (answer : Polled) (s' : State) → Polls s moment answer s' → s'.places ≡ s.places
  poll_places answer s' p = ap (λ (x : State). x.places) (polls_is answer s' p)

-- ---- entries

off_idle : (dev : ℕ) (out : List Entry) → has_in_hand out ≡ false → has_in_hand (without_entry_of dev out) ≡ false
off_idle dev [] h = refl
off_idle dev (o ∷ os) h = search (rules, or_left, or_right, off_idle dev os (or_right o.in_hand (has_in_hand os) h))

-- it is told so
pub off_told : (dev : ℕ) (s s' : State) → s' ≡ without dev s → trigger_of s' ≡ trigger_after_handling dev (trigger_of s)
off_told dev s s' e = search (rules, filter_map_is)

pub off_sound : (trigger dev : ℕ) (stations : List Station) (s s' : State) → IsTrigger trigger stations s → s' ≡ without dev s → IsTrigger trigger stations s'
off_sound trigger dev stations s s' sound e = search (rules, off_idle)
