-- What another connection may do without this connection noticing: each event,
-- with the state before it, has to meet two rules. (This project's own.)
use Rattle.std.specs.Prelude.{ℕ, suc, ◌&&◌, ◌||◌, not, Bool, true, false, List, [], ◌∷◌, Some, None, slice_get, Ok, Err}
use Rattle.std.specs.Str.{bytes_eq}
use Rattle.iio_text.specs.declared.errors.Errno.TheVariants.{EFBIG}
use Rattle.iiod_grammar.specs.Command.{Help, Exit, Version, Print, Timeout, Open, Close, Read, ReadBuf, GetTrig, SetBuffers, Remask}
use Rattle.iio_desc.specs.Description.{find_device}
use Rattle.iio_history.specs.Who.{Who, Conn, Inner, same}
use Rattle.iio_desc.specs.Kind.{is_input}
use Rattle.iiod_grammar.specs.Stream.{Item, Said, End}
use Rattle.iio_history.specs.Event.{Event, Heard, Dropped}
use Rattle.iio_history.specs.Registry.{Setup, Member, Device, Registry, is_member, is_named}
use Rattle.iio_history.specs.Fold.{registry_after}

-- whether the connection is a member of device k, and k is neither an output nor an averaging device
abbrev pub has_open_at : Registry → List ℕ → ℕ → Bool
has_open_at r a k = elim (slice_get r.devices k) [ None ↦ false | Some d ↦ is_input d.kind && is_member (Conn a) d.members ]

-- the same of the device of that name
abbrev pub has_open : Setup → Registry → List ℕ → List ℕ → Bool
has_open s r a device = elim (find_device s.desc device) [ None ↦ false | Some k ↦ has_open_at r a k ]

-- what another connection may say: a line that asks for nothing, EXIT, or an item that names a device for which `is_so` holds
abbrev pub may_say : (is_so : List ℕ → Bool) → Item → Bool
may_say is_so (Said (Err refused)) = true
may_say is_so (Said (Ok Help)) = true
may_say is_so (Said (Ok Exit)) = true
may_say is_so (Said (Ok Version)) = true
may_say is_so (Said (Ok Print)) = true
may_say is_so (Said (Ok (Timeout milliseconds))) = true
may_say is_so (End None) = true
may_say is_so (End (Some EFBIG)) = false
may_say is_so (End (Some e)) = true
may_say is_so (Said (Ok (Open device samples text cyclic))) = is_so device
may_say is_so (Said (Ok (Close device))) = is_so device
may_say is_so (Said (Ok (ReadBuf device bytes))) = is_so device
may_say is_so (Said (Ok (Read device place attribute))) = is_so device
may_say is_so (Said (Ok (GetTrig device))) = is_so device
may_say is_so (Said (Ok (SetBuffers device n))) = is_so device
may_say is_so (Said (Ok (Remask device text))) = is_so device
may_say is_so item = false

-- another connection than `a` may name those devices that `a` has open
abbrev pub is_neutral : Setup → Registry → List ℕ → Item → Bool
is_neutral s r a item = may_say (has_open s r a) item

-- the first rule
abbrev pub others_are_neutral : Setup → Registry → List ℕ → Event → Bool
others_are_neutral s r a (Heard name item) = bytes_eq name a || is_neutral s r a item
others_are_neutral s r a e = true

-- whether the event ends the membership of `a` at device k, or remasks it
abbrev pub ends_membership : Setup → List ℕ → Event → ℕ → Bool
ends_membership s a (Heard name (Said (Ok (Close device)))) k = bytes_eq name a && is_named s device k
ends_membership s a (Heard name (Said (Ok (Remask device text)))) k = bytes_eq name a && is_named s device k
ends_membership s a (Heard name (End refusal)) k = bytes_eq name a
ends_membership s a (Dropped name) k = bytes_eq name a
ends_membership s a e k = false

-- whether a membership is the connection's own, or nobody's
abbrev pub mine : Who → Who → Bool
mine who (Conn name) = same who (Conn name)
mine who (Inner device) = true

-- whether another connection is a member
abbrev pub has_other : Who → List Member → Bool
has_other who [] = false
has_other who (m ∷ ms) = not (mine who m.who) || has_other who ms

-- the second rule at device k: no membership of `a` ends or is remasked while another connection is a member
abbrev pub is_unparted : Setup → List ℕ → Event → ℕ → Device → Bool
is_unparted s a e k d = not (ends_membership s a e k && is_member (Conn a) d.members && has_other (Conn a) d.members)

-- whether `f` holds at each place of a list; `k` is the first place
abbrev pub all_from : {A : Type 0} → (ℕ → A → Bool) → ℕ → List A → Bool
all_from f k [] = true
all_from f k (x ∷ xs) = f k x && all_from f (suc k) xs

-- whether the event meets both rules
abbrev pub is_bystander : Setup → Registry → List ℕ → Event → Bool
is_bystander s r a e = others_are_neutral s r a e && all_from (is_unparted s a e) 0 r.devices

-- whether each event of a history meets both, with the state before it
abbrev pub only_bystanders : Setup → List ℕ → List Event → Bool
only_bystanders s a [] = true
only_bystanders s a (e ∷ h) = is_bystander s (registry_after s h) a e && only_bystanders s a h

-- ---- by what was open at the beginning of a feed

-- whether an item meets both rules by what was open then: for the second it is enough to know whether another was a member
abbrev pub meets_by : Setup → Registry → List ℕ → List ℕ → Item → Bool
meets_by s r a name item =
    others_are_neutral s r a (Heard name item)
    && all_from (λ k d. not (ends_membership s a (Heard name item) k && has_other (Conn a) d.members)) 0 r.devices

abbrev pub all_meet_by : Setup → Registry → List ℕ → List ℕ → List Item → Bool
all_meet_by s r a name [] = true
all_meet_by s r a name (item ∷ items) = meets_by s r a name item && all_meet_by s r a name items
