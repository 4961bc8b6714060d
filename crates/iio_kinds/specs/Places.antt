-- The place that a device of a bench has at its trigger while it has a member. (Kernel, driver-api/iio: a device is attached to
-- its trigger while its buffer is enabled. Places are this project's own.)
use Rattle.std.specs.Prelude.{ℕ, ◌+◌, ◌||◌, not, nat_lt, Bool, List, map, Option, Some, None, if◌then◌else◌}
use Rattle.std.specs.List.{list_any}
use Rattle.iio_trigger.specs.declared.rows.Entry.{Entry}
use Rattle.iio_trigger.specs.Trigger.{Handed, State, with_place, without_place}
use Rattle.iio_device.specs.Site.{is_empty}
use Rattle.iio_core.specs.Machine.{Station}
use Rattle.iio_core.specs.Trigger.{Trigger}

-- an entry and a trigger of the code, as they are told
abbrev pub handed_of : Entry → Handed
handed_of e = record { dev = e.dev; attachment = e.attachment; t = e.t }

abbrev pub trigger_of : State → Trigger
trigger_of s = record { entries = map handed_of s.outstanding; missed = s.missed }

-- ---- places of members

-- the trigger after a member has joined the device of that number: the first member takes a place, under the number of the
-- device's new attachment
abbrev pub place_taken : (number : ℕ) → (before : Station) → State → State
place_taken number before s =
    if is_empty before.members then record s { attached = with_place number (before.site.attachment + 1) s.attached } else s

-- the trigger after a member has left: the last one frees the place
abbrev pub place_left : (number : ℕ) → (before after : Station) → State → State
place_left number before after s =
    if is_empty before.members || not (is_empty after.members) then s else record s { attached = without_place number s.attached }

-- ---- what holds after every call

-- whether a device is hosted if there are `count` triggers: it has one of them, or it has none and no member
abbrev pub hosts : (count : ℕ) → (empty : Bool) → Option ℕ → Bool
hosts count empty None = empty
hosts count empty (Some trigger) = nat_lt trigger count

abbrev pub is_hosted : (count : ℕ) → Station → Bool
is_hosted count st = hosts count (is_empty st.members) st.site.trigger

-- whether an entry is in hand
abbrev pub has_in_hand : List Entry → Bool
has_in_hand entries = list_any (λ (e : Entry). e.in_hand) entries
