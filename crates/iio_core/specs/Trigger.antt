-- A trigger in the plain state. (Kernel, driver-api/iio: a poll calls each attached device once. The count of missed polls is
-- this project's own.)
use Rattle.std.specs.Prelude.{ℕ, ℤ, ◌==◌, not, List, [], ◌∷◌, find, filter, length, slice_get, unwrap_or, Option, Some, None}
use Rattle.iio_trigger.specs.declared.Polled.{Polled}
use Rattle.iio_trigger.specs.declared.Polled.TheVariants.{Accepted, Missed}
use Rattle.iio_trigger.specs.Trigger.{Handed, poll_made, missed_after}
use Rattle.iio_core.specs.Attached.{Attachment, entries_from}

-- a trigger: the entries of its last accepted poll that haven't been handled since, and the number of polls that were missed
pub record Trigger : Type 0 where
  pub entries : List Handed
  pub missed : ℕ

-- a trigger before the first poll
abbrev pub first_trigger : Trigger
first_trigger = record { entries = []; missed = 0 }

-- the trigger of that number, its entries, and the number of polls that it missed
abbrev pub trigger_in : List Trigger → ℕ → Trigger
trigger_in triggers trigger = unwrap_or (slice_get triggers trigger) first_trigger

abbrev pub entries_at : List Trigger → ℕ → List Handed
entries_at triggers trigger = (trigger_in triggers trigger).entries

abbrev pub missed_at : List Trigger → ℕ → ℕ
missed_at triggers trigger = (trigger_in triggers trigger).missed

-- ---- polls

-- a trigger after a poll: there is an entry for each attached device if nothing was outstanding; otherwise the poll is missed
abbrev pub trigger_after_poll : List Attachment → ℕ → ℤ → Trigger → Trigger
trigger_after_poll devices trigger moment t =
    record { entries = poll_made (entries_from 0 trigger moment devices) t.entries; missed = missed_after t.entries t.missed }

-- the answer to a poll: the number of entries that it made, or of polls that were missed, with this one
abbrev pub poll_answer : (made outstanding : List Handed) → (missed : ℕ) → Polled
poll_answer made [] missed = Accepted (length made)
poll_answer made (e ∷ es) missed = Missed (missed_after (e ∷ es) missed)

-- ---- entries

-- the device's entry, and the entries without it
abbrev pub entry_of : ℕ → List Handed → Option Handed
entry_of device entries = find (λ (e : Handed). e.dev == device) entries

abbrev pub without_entry : ℕ → List Handed → List Handed
without_entry device entries = filter (λ (e : Handed). not (e.dev == device)) entries

-- a trigger after a device's entry was handled
abbrev pub trigger_after_handling : ℕ → Trigger → Trigger
trigger_after_handling device t = record t { entries = without_entry device t.entries }

-- the device of the first of some entries
abbrev pub first_due : List Handed → Option ℕ
first_due [] = None
first_due (e ∷ es) = Some e.dev
