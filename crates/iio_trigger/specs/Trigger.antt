-- A trigger as contracts see it. (Kernel driver-api/iio, "Triggers": a trigger that is still busy misses a poll. Places and the
-- count of missed polls are this project's own.)
use Rattle.std.specs.Prelude.{◌≡◌, ℕ, ◌+◌, ◌-◌, ◌^◌, ◌<◌, ◌≤◌, ℤ, Bool, true, false, not, ◌&&◌, ◌==◌, nat_lt, if◌then◌else◌, List, [], ◌∷◌, map, filter, length, min, Option, Some, None}
use Rattle.std.specs.List.{list_any, find}
use Rattle.std.specs.Option.{option_map}
use Rattle.iio_trigger.specs.declared.limits.TheConstants.{MAX_PLACES}
use Rattle.iio_trigger.specs.declared.rows.Place.{Place}
use Rattle.iio_trigger.specs.declared.rows.Entry.{Entry}
use Rattle.iio_trigger.specs.declared.Polled.{Polled}
use Rattle.iio_trigger.specs.declared.Polled.TheVariants.{Accepted, Missed}

-- the number of places, who holds them and which entries are outstanding, both in the order of devices, and the number of polls
-- that were missed
pub record State : Type 0 where
  pub places : ℕ
  pub attached : List Place
  pub outstanding : List Entry
  pub missed : ℕ

-- the device of a place, and of an entry
abbrev pub place_dev : Place → ℕ
place_dev p = p.dev

abbrev pub entry_dev : Entry → ℕ
entry_dev e = e.dev

-- each row is of a device that is at least `low` and comes after those of the rows before it
abbrev pub InOrder : {X : Type 0} → (X → ℕ) → ℕ → List X → Type 0
InOrder dev_of low [] = Unit {0}
InOrder dev_of low (x ∷ xs) = (low ≤ dev_of x) × InOrder dev_of (dev_of x + 1) xs

-- what holds of every trigger: it has at most `MAX_PLACES` places, there are no more devices than places, and each device is at
-- most once among the places and at most once among the entries
pub record IsSound (s : State) : Type 0 where
  pub within : length s.attached ≤ s.places
  pub most : s.places ≤ MAX_PLACES
  pub attached_once : InOrder place_dev 0 s.attached
  pub outstanding_once : InOrder entry_dev 0 s.outstanding

-- an entry that was handed out: its device, that device's attachment when the poll came, and the moment of the poll
pub record Handed : Type 0 where
  pub dev : ℕ
  pub attachment : ℕ
  pub t : ℤ

-- whether the device holds a place
abbrev pub holds_place : ℕ → List Place → Bool
holds_place dev places = list_any (λ (p : Place). p.dev == dev) places

-- the places after the device takes one under this attachment: the one that it has, or another one
abbrev pub with_place : ℕ → ℕ → List Place → List Place
with_place dev attachment [] = record { dev = dev; attachment = attachment } ∷ []
with_place dev attachment (p ∷ ps) =
    if nat_lt p.dev dev then p ∷ with_place dev attachment ps
    else if p.dev == dev then record { dev = dev; attachment = attachment } ∷ ps
    else record { dev = dev; attachment = attachment } ∷ p ∷ ps

-- the places after the device's was freed
abbrev pub without_place : ℕ → List Place → List Place
without_place dev places = filter (λ (p : Place). not (p.dev == dev)) places

-- a poll's entries: one for each device that holds a place
abbrev pub entries_at : ℤ → List Place → List Entry
entries_at t places = map (λ (p : Place). record { dev = p.dev; attachment = p.attachment; t = t; in_hand = false }) places

-- the device of the first of some entries
abbrev pub first_dev : List Entry → Option ℕ
first_dev [] = None
first_dev (e ∷ es) = Some e.dev

-- whether this entry is the device's and isn't in hand
abbrev pub is_waiting : ℕ → Entry → Bool
is_waiting dev e = (e.dev == dev) && not e.in_hand

-- what is handed out for a device: its entry that isn't in hand
abbrev pub due_of : ℕ → List Entry → Option Handed
due_of dev entries = option_map (λ (e : Entry). record { dev = e.dev; attachment = e.attachment; t = e.t }) (find (is_waiting dev) entries)

-- the entries after the device's was handed out
abbrev pub with_in_hand : ℕ → List Entry → List Entry
with_in_hand dev entries = map (λ (e : Entry). if e.dev == dev then record e { in_hand = true } else e) entries

-- the entries without the device's
abbrev pub without_entry : ℕ → List Entry → List Entry
without_entry dev entries = filter (λ (e : Entry). not (e.dev == dev)) entries

-- what is outstanding after a poll: what the poll made, if nothing was outstanding, otherwise what was
abbrev pub poll_made : {E : Type 0} → (made outstanding : List E) → List E
poll_made made [] = made
poll_made made (e ∷ es) = e ∷ es

-- the number of missed polls after a poll: one more if something was outstanding; the count stays at 2^64 - 1 once it gets
-- there
abbrev pub missed_after : {E : Type 0} → (outstanding : List E) → ℕ → ℕ
missed_after [] missed = missed
missed_after (e ∷ es) missed = min (missed + 1) (2 ^ 64 - 1)

-- the trigger after a poll
abbrev pub after_poll : ℤ → State → State
after_poll t s = record s { outstanding = poll_made (entries_at t s.attached) s.outstanding; missed = missed_after s.outstanding s.missed }

-- a poll at `t`. It is accepted if no entry is outstanding, and makes one for each device that holds a place; otherwise it is
-- missed and counted
abbrev pub Polls : State → ℤ → Polled → State → Type 0
Polls old t (Accepted made) new = (old.outstanding ≡ []) × (made ≡ length old.attached) × (new ≡ after_poll t old)
Polls old t (Missed missed) new = (0 < length old.outstanding) × (missed ≡ missed_after old.outstanding old.missed) × (new ≡ after_poll t old)
