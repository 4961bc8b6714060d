-- What decides an OPEN, a REMASK and a SETTRIG: the refusals in their order. (docs/FORMATS.md says which errno is the
-- kernel's or libiio's, and which is this project's own.)
use Rattle.std.specs.Prelude.{ℕ, ◌*◌, ◌&&◌, not, nat_lt, Bool, List, [], ◌∷◌, ◌++◌, length, map, Option, Some, None, is_some, is_none, slice_get, unwrap_or, Result, Ok, option_map}
use Rattle.std.specs.Option.{ok_or}
use Rattle.iio_base.specs.Refusals.{ensure, ◌>>=◌, first_refusal, unless_refused}
use Rattle.iio_text.specs.declared.errors.Errno.{Errno}
use Rattle.iio_text.specs.declared.errors.Errno.TheVariants.{EBADF, EBUSY, ENODEV, EINVAL, ENOENT, ENOSYS}
use Rattle.iio_mask.specs.Text.{mask_of}
use Rattle.iio_layout.specs.Shape.{ShapeRecord, count_of}
use Rattle.iio_layout.specs.Active.{has_data}
use Rattle.iio_layout.specs.Layout.{scan_size}
use Rattle.iio_desc.specs.Description.{find_trigger}
use Rattle.iio_desc.specs.Kind.{Kind, Output, is_average, is_input, is_output}
use Rattle.iio_output.specs.Written.{is_bad_size, scans_of}
use Rattle.iio_device.specs.Active.{is_without_union}
use Rattle.iio_device.specs.Site.{is_empty}
use Rattle.iio_kfifo.specs.declared.limits.TheConstants.{MAX_BYTES}
use Rattle.iio_core.specs.Attached.{Attachment, has_no_place}
use Rattle.iio_core.specs.Commands.{settrig_answer}
use Rattle.iio_core.specs.Front.{first_front}
use Rattle.iio_core.specs.Opening.{is_excess, asked_refusals, mask_refusals, join_refusals, Host, host_by, inner_host, own_host}
use Rattle.iio_history.specs.Who.{Who}
use Rattle.iio_history.specs.Registry.{Setup, Member, Device, Outline, Registry, attachments_of, outline_of, is_member, member_of, without_members, mask_of_member}

-- ---- OPEN

-- whether somebody can have no further membership: the connection has the device open, or anybody has the output device open
abbrev pub is_taken : Kind → Who → List Member → Bool
is_taken Output who ms = not (is_empty ms)
is_taken kind who ms = is_member who ms

-- the device at which a new membership needs a place
abbrev pub host_of : List Device → Device → ℕ → Host Outline
host_of ds d mask =
    host_by d.kind (own_host (outline_of d) d.shape mask (outline_of d).masks)
    (λ base. option_map (λ (b : Device). inner_host (is_empty d.members) (outline_of b) b.shape) (slice_get ds base))

-- the refusals of an OPEN at a device, in their order; `is_open` says whether the device is taken
abbrev pub open_refusals : Setup → List Attachment → Host Outline → Outline → Bool → Bool → Bool → ℕ → ℕ → List (Bool × Errno)
open_refusals s devices host o is_open is_mask cyclic mask capacity =
    asked_refusals (not o.site.plugged) (cyclic && not (is_output o.kind)) (not is_mask) (not (has_data o.shape mask))
    (is_excess capacity (scan_size o.shape mask)) is_open
    ++ join_refusals (is_none host.device.site.trigger) (host.joins && is_without_union host.shape host.beside host.mask)
    (host.joins && is_empty host.device.masks && has_no_place (first_front s.desc) devices host.device.site.trigger)

abbrev pub opened : Setup → List Attachment → Host Outline → Outline → Bool → Bool → Bool → Member → Result Member Errno
opened s devices host o is_open is_mask cyclic m =
    unless_refused m (first_refusal (open_refusals s devices host o is_open is_mask cyclic m.mask m.capacity))

-- the membership that is asked for: its capacity is the number of samples times the buffers count
abbrev pub member_asked : Device → Who → ℕ → ℕ → List ℕ → Bool → Member
member_asked d who buffers samples text cyclic =
    record { who = who; mask = unwrap_or (mask_of text (count_of d.shape)) 0; capacity = samples * buffers; cyclic = cyclic }

-- the answer to an OPEN of a device
abbrev pub open_answer : Setup → Registry → Device → Who → ℕ → ℕ → List ℕ → Bool → Result Member Errno
open_answer s r d who buffers samples text cyclic =
    let m = member_asked d who buffers samples text cyclic in
    opened s (attachments_of r) (host_of r.devices d m.mask) (outline_of d) (is_taken d.kind who d.members) (is_some (mask_of text (count_of d.shape))) cyclic m

-- ---- REMASK

-- the refusals of a member's new mask, in their order; `others` are the masks of the other members
abbrev pub remask_refusals : ShapeRecord → List ℕ → Member → Bool → ℕ → List (Bool × Errno)
remask_refusals shape others m is_mask mask =
    mask_refusals (not is_mask) (not (has_data shape mask)) (nat_lt MAX_BYTES (m.capacity * scan_size shape mask))
    ++ (is_without_union shape others mask, EINVAL) ∷ []

-- a member, and the mask that it is given
pub record Remasked : Type 0 where
  pub member : Member
  pub mask : ℕ

abbrev pub remasked : Device → List ℕ → Member → Result Remasked Errno
remasked d text m =
    let mask = unwrap_or (mask_of text (count_of d.shape)) 0 in
    unless_refused (record { member = m; mask = mask })
    (first_refusal (remask_refusals d.shape (map mask_of_member (without_members (m.who ∷ []) d.members)) m (is_some (mask_of text (count_of d.shape))) mask))

-- the answer to a REMASK of a device
abbrev pub remask_answer : Device → Who → List ℕ → Result Remasked Errno
remask_answer d who text = do
  plugged ← ensure d.site.plugged ENODEV
  input ← ensure (is_input d.kind) ENOSYS
  m ← ok_or (member_of who d.members) EBADF
  remasked d text m

-- ---- WRITEBUF

-- the scans of a payload, which a member offers
abbrev pub offering : ShapeRecord → List ℕ → Member → Result (List (List ℕ)) Errno
offering shape payload m = do
  whole ← ensure (not (is_bad_size m.cyclic m.capacity (scan_size shape m.mask) (length payload))) EINVAL
  Ok (scans_of (scan_size shape m.mask) payload)

-- the scans that a WRITEBUF offers to a device; the scans that wait there decide the rest
abbrev pub write_answer : Device → Who → List ℕ → Result (List (List ℕ)) Errno
write_answer d who payload = do
  plugged ← ensure d.site.plugged ENODEV
  output ← ensure (is_output d.kind) ENOSYS
  m ← ok_or (member_of who d.members) EBADF
  offering d.shape payload m

-- ---- SETTRIG

abbrev pub trigger_named : Setup → Option (List ℕ) → Result (Option ℕ) Errno
trigger_named s None = Ok None
trigger_named s (Some name) = do
  t ← ok_or (find_trigger s.desc name) ENOENT
  Ok (Some t)

-- the answer to a SETTRIG at a device: its new trigger
abbrev pub trigger_answer : Setup → Outline → Option (List ℕ) → Result (Option ℕ) Errno
trigger_answer s o name = settrig_answer o.kind o.site.plugged (is_empty o.masks) (trigger_named s name)
