-- What an event means to a device: its act.
use Rattle.std.specs.Prelude.{ℕ, ◌==◌, ◌&&◌, not, Bool, true, false, List, [], ◌∷◌, ◌++◌, is_ok, suc, Option, Some, None, Result, Ok, Err, if◌then◌else◌, ℤ, slice_get}
use Rattle.iio_text.specs.declared.errors.Errno.{Errno}
use Rattle.iio_text.specs.declared.values.Fixed.{Fixed}
use Rattle.iio_attr.specs.declared.attributes.Attr.{Attr}
use Rattle.iio_attr.specs.declared.attributes.Attr.TheVariants as attr
use Rattle.iio_sensor.specs.Driver.{values_of, ask_fails}
use Rattle.iio_trigger.specs.Trigger.{Handed}
use Rattle.iio_desc.specs.Kind.{Kind, Input, Output, Average, is_input, is_output, is_over, is_unplugged_by}
use Rattle.iio_desc.specs.Description.{find_device}
use Rattle.iio_derive.specs.Window.{Window, full_mask, is_filled_by, means_of, sums_with}
use Rattle.iio_device.specs.Site.{is_current, is_empty}
use Rattle.iiod_grammar.specs.Command.{Place, Open, Close, Read, ReadBuf, SetTrig, Remask, EvOpen, EvRead, EvClose}
use Rattle.iiod_commands.specs.Attributes.{Assignment, Named, found as found_by, write_found as write_found_by}
use Rattle.iio_core.specs.Commands.{evclose_answer, evopen_answer, evread_answer}
use Rattle.iio_history.specs.Who.{Who, Conn, Inner, same}
use Rattle.iiod_grammar.specs.Stream.{Item, Said, Written, Streamed, End}
use Rattle.iio_history.specs.Event.{Event, Heard, Dropped, Handled, Sensed, Unplugged}
use Rattle.iio_history.specs.Registry.{Setup, Member, Device, Outline, outline_of, Registry, is_member, is_named, buffers_of, is_left_empty}
use Rattle.iio_core.specs.Moves.{Capture}
use Rattle.iio_core.specs.Trigger.{entries_at, entry_of}
use Rattle.iio_history.specs.Opening.{open_answer, remask_answer, write_answer, trigger_answer}

pub data Act : Type 0 where
  Nothing : Act
  -- an accepted OPEN, or the inner member's joining
  Joining : (member : Member) → Act
  -- an accepted REMASK
  Remasking : (member : Member) (mask : ℕ) → Act
  -- the memberships of these end, if they have one
  Leaving : (gone : List Who) → Act
  -- the holdings of events of these end, and their memberships as with `Leaving`
  Ending : (gone : List Who) → Act
  -- a READBUF that asks for `bytes` bytes
  Reading : (who : Who) (bytes : ℕ) → Act
  -- a current entry is handled: its capture; for an averaging device, the mean that is made with it
  Capturing : (capture : Capture) → Act
  -- a capture of the base that counts towards the next mean, and makes none yet
  Gathering : (capture : Capture) → Act
  -- a WRITEBUF offers these scans
  Writing : (who : Who) (scans : List (List ℕ)) → Act
  -- a current entry is handled at an output device: the device is given the next scan, if one waits
  Giving : Act
  -- the ask of the sensor failed
  Failing : (moment : ℤ) → Act
  -- a READ of `raw`
  Asking : Act
  Retriggering : (trigger : Option ℕ) → Act
  -- an accepted WRITE
  Setting : (target : Named) (value : Fixed) → Act
  -- the thresholds are looked at
  Sensing : (moment : ℤ) → Act
  -- EVOPEN, EVREAD and EVCLOSE
  Holding : (who : Who) → Act
  Draining : (who : Who) → Act
  Releasing : (who : Who) → Act
  Unplugging : Act

abbrev pub only : Bool → Act → Act
only b act = if b then act else Nothing

-- an accepted answer is an act; a refusal is none
abbrev pub accepted : {A : Type 0} → (A → Act) → Result A Errno → Act
accepted act (Ok x) = act x
accepted act (Err e) = Nothing

-- ---- the answers that a device decides

-- what a READ by this connection names; it depends on whether the connection is a member
abbrev pub found : Device → Who → Place → Option (List ℕ) → Result Named Errno
found d who place name = found_by d.kind d.shape d.site.plugged (is_member who d.members) place name

-- what a WRITE sets, and to which value
abbrev pub write_found : Device → Who → Place → Option (List ℕ) → List ℕ → Result Assignment Errno
write_found d who place name payload = write_found_by d.kind d.shape d.site.plugged (is_member who d.members) place name payload

abbrev pub setting : Assignment → Act
setting x = Setting x.target x.value

abbrev pub is_raw : Attr → Bool
is_raw attr.Raw = true
is_raw a = false

-- a READ asks the sensor if it names `raw`, the device is an input device, and the device has no member
abbrev pub asking : Device → Named → Act
asking d target = only (is_raw target.attribute && is_empty d.members && is_input d.kind) Asking

-- ---- events

-- the handling of a current entry
abbrev pub current_entry : Kind → Outline → Handed → Act
current_entry Output o e = Giving
current_entry (Average base window) o e = Nothing
current_entry Input o e =
    if ask_fails o.site.driver then Failing e.t
    else Capturing (record { moment = e.t; values = values_of o.site.driver o.shape e.t })

-- the handling of an entry, which does nothing if the entry isn't current
abbrev pub handled_entry : Outline → Handed → Act
handled_entry o e =
    if not (is_current e.attachment o.site.attachment o.masks o.site.plugged) then Nothing else current_entry o.kind o e

abbrev pub handled_act : Outline → Option Handed → Act
handled_act o None = Nothing
handled_act o (Some e) = handled_entry o e

-- ---- averaging devices: the inner member, and the means

-- the inner member that averaging device j has at its base
abbrev pub inner_member : ℕ → Device → Member
inner_member j base = record { who = Inner j; mask = full_mask base.shape; capacity = 1; cyclic = false }

-- an accepted OPEN of device j makes the inner member join device k, if k is its base and the inner member isn't there yet
abbrev pub inner_joins : Kind → ℕ → ℕ → Device → Bool → Act
inner_joins kind j k d is_accepted = only (is_accepted && is_over kind k && is_input d.kind && not (is_member (Inner j) d.members)) (Joining (inner_member j d))

abbrev pub inner_joining : Setup → Registry → List ℕ → ℕ → List ℕ → Bool → ℕ → ℕ → Device → Act
inner_joining s r name samples text cyclic j k d = elim (slice_get r.devices j) [
  | None ↦ Nothing
  | Some x ↦ inner_joins x.kind j k d (is_ok (open_answer s r x (Conn name) (buffers_of r.users name j) samples text cyclic))
]

-- what an OPEN of device j, if there is such a device, means to device k
abbrev pub open_act : Setup → Registry → List ℕ → ℕ → List ℕ → Bool → Option ℕ → ℕ → Device → Act
open_act s r name samples text cyclic None k d = Nothing
open_act s r name samples text cyclic (Some j) k d =
    if j == k then accepted (λ m. Joining m) (open_answer s r d (Conn name) (buffers_of r.users name k) samples text cyclic)
    else inner_joining s r name samples text cyclic j k d

-- the inner member of device j at device k, if the leaving of these leaves j without a member
abbrev pub inner_left : List Who → ℕ → ℕ → Device → List Who
inner_left gone j k d = if is_over d.kind k && is_left_empty gone d.members then Inner j ∷ [] else []

-- the same for all devices; `j` is the number of the first one
abbrev pub inners_left : List Who → ℕ → ℕ → List Device → List Who
inners_left gone k j [] = []
inners_left gone k j (d ∷ ds) = inner_left gone j k d ++ inners_left gone k (suc j) ds

-- the inner members that leave device k
abbrev pub inners_at : Registry → List Who → ℕ → Device → List Who
inners_at r gone k d = if is_input d.kind then inners_left gone k 0 r.devices else []

abbrev pub inner_left_at : Registry → List Who → ℕ → ℕ → Device → List Who
inner_left_at r gone j k d = if is_input d.kind then elim (slice_get r.devices j) [ None ↦ [] | Some x ↦ inner_left gone j k x ] else []

-- if nobody leaves, it means nothing to the device
abbrev pub leaving : List Who → Act
leaving [] = Nothing
leaving (who ∷ gone) = Leaving (who ∷ gone)

-- what a CLOSE of device j, if there is such a device, means to device k
abbrev pub close_act : Registry → List ℕ → Option ℕ → ℕ → Device → Act
close_act r name None k d = Nothing
close_act r name (Some j) k d = if j == k then Leaving (Conn name ∷ []) else leaving (inner_left_at r (Conn name ∷ []) j k d)

-- the end of a connection
abbrev pub end_act : Registry → List ℕ → ℕ → Device → Act
end_act r name k d = Ending (Conn name ∷ inners_at r (Conn name ∷ []) k d)

-- the capture that the handling of an entry of a device makes
abbrev pub capture_by : Act → Option Capture
capture_by (Capturing c) = Some c
capture_by act = None

abbrev pub capture_at : Registry → ℕ → ℕ → Option Capture
capture_at r trigger k =
    elim (slice_get r.devices k) [ None ↦ None | Some d ↦ capture_by (handled_act (outline_of d) (entry_of k (entries_at r.triggers trigger))) ]

-- a capture of the base: if it is the last one that a mean needs, the mean is made at once
abbrev pub gathering : ℕ → Window → Capture → Act
gathering size w c = if is_filled_by size w then Capturing (record { moment = c.moment; values = means_of size (sums_with w c.values) }) else Gathering c

abbrev pub gathered : ℕ → Device → Option Capture → Act
gathered size d None = Nothing
gathered size d (Some c) = if is_empty d.members then Nothing else gathering size d.window c

-- what the handling of the entry of `device` means to device k, by the kind of k
abbrev pub handled_by : Registry → ℕ → ℕ → ℕ → Kind → Device → Act
handled_by r trigger device k (Average base size) d = only (device == base) (gathered size d (capture_at r trigger base))
handled_by r trigger device k kind d = only (device == k) (handled_act (outline_of d) (entry_of k (entries_at r.triggers trigger)))

-- ---- items

-- what an item of a connection means to device k
abbrev pub item_act : Setup → Registry → List ℕ → Item → ℕ → Device → Act
item_act s r name (Said (Ok (Open device samples text cyclic))) k d = open_act s r name samples text cyclic (find_device s.desc device) k d
item_act s r name (Said (Ok (Close device))) k d = close_act r name (find_device s.desc device) k d
item_act s r name (Said (Ok (ReadBuf device bytes))) k d = only (is_named s device k && not (is_output d.kind)) (Reading (Conn name) bytes)
item_act s r name (Said (Ok (Read device place attribute))) k d = only (is_named s device k) (accepted (asking d) (found d (Conn name) place attribute))
item_act s r name (Written device (Some target) payload) k d =
    only (is_named s device k) (accepted setting (write_found d (Conn name) target.0 target.1 payload))
item_act s r name (Streamed device payload) k d =
    only (is_named s device k) (accepted (λ scans. Writing (Conn name) scans) (write_answer d (Conn name) payload))
item_act s r name (Said (Ok (SetTrig device trigger))) k d =
    only (is_named s device k) (accepted (λ t. Retriggering t) (trigger_answer s (outline_of d) trigger))
item_act s r name (Said (Ok (Remask device text))) k d =
    only (is_named s device k) (accepted (λ x. Remasking x.member x.mask) (remask_answer d (Conn name) text))
item_act s r name (Said (Ok (EvOpen device))) k d =
    only (is_named s device k) (accepted (λ opened. Holding (Conn name)) (evopen_answer d.kind d.site))
item_act s r name (Said (Ok (EvRead device))) k d =
    only (is_named s device k) (accepted (λ oldest. Draining (Conn name)) (evread_answer d.kind d.site same (Conn name)))
item_act s r name (Said (Ok (EvClose device))) k d =
    only (is_named s device k) (accepted (λ closed. Releasing (Conn name)) (evclose_answer d.kind d.site same (Conn name)))
item_act s r name (End refusal) k d = end_act r name k d
item_act s r name item k d = Nothing

-- what an event means to device k
abbrev pub act_of : Setup → Registry → Event → ℕ → Device → Act
act_of s r (Heard name item) k d = item_act s r name item k d
act_of s r (Dropped name) k d = end_act r name k d
act_of s r (Handled trigger device) k d = handled_by r trigger device k d.kind d
act_of s r (Sensed device moment) k d = only (device == k && d.site.plugged) (Sensing moment)
act_of s r (Unplugged device) k d = only (is_unplugged_by d.kind device k) Unplugging
act_of s r e k d = Nothing

abbrev pub act_at : Setup → Registry → Event → ℕ → Act
act_at s r e k = elim (slice_get r.devices k) [ None ↦ Nothing | Some d ↦ act_of s r e k d ]
