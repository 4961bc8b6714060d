-- What each job makes of a device, plainly.
use Rattle.std.specs.Prelude.{◌≡◌, ℕ, ℤ, ◌<◌, ◌^◌, Bool, ⊤, zero, suc, [], length, Option, Some, None, IfSome, nat_eq, option_map, option_and_then, Result, Ok, Err, MatchBool, if◌then◌else◌}
use Rattle.iio_base.specs.Refusals.{first_refusal}
use Rattle.iio_text.specs.declared.errors.Errno.{Errno}
use Rattle.iio_text.specs.declared.errors.Errno.TheVariants.{ENODEV}
use Rattle.iio_text.specs.declared.values.Fixed.{Fixed}
use Rattle.iio_attr.specs.declared.attributes.Attr.{Attr}
use Rattle.iio_attr.specs.declared.attributes.Attr.TheVariants.{Raw}
use Rattle.iio_attr.specs.declared.values.Value.{Value}
use Rattle.iio_mask.specs.declared.Mask.{Mask}
use Rattle.iio_event.specs.declared.event.EventData.{EventData}
use Rattle.iio_event.specs.Monitor.{MonitorRecord, after_close, after_open, after_read, close_answer, open_answer, read_answer}
use Rattle.iio_trigger.specs.Trigger.{Handed, State}
use Rattle.iio_layout.specs.Layout.{scan_size}
use Rattle.iio_layout.specs.Shape.{ShapeRecord, count_of}
use Rattle.iio_device.specs.declared.handling.Handled.{Handled}
use Rattle.iio_device.specs.declared.membership.Membership.{Membership}
use Rattle.iio_device.specs.Ends.{writer_end}
use Rattle.iio_device.specs.Device.{DeviceView, Handles, LeavesDevice, RemasksDevice, after_raw, after_trigger, after_write, at_site, device_joined, join_faults, raw_answer, remask_faults, trigger_answer, trigger_joined, write_answer}
use Rattle.iio_device.specs.Members.{first_number, member_of}
use Rattle.iio_device.specs.Site.{unplugged, with_monitor}
use Rattle.iio_device.specs.Stored.{attr_value}
use Rattle.iio_core.specs.Faults.{errno_of, held_errno, holder_errno, map_err, raw_value, remask_errno}
use Rattle.iiod_commands.specs.declared.iio.No.{No}
use Rattle.iiod_commands.specs.declared.iio.No.TheVariants.{Errno as NoErrno, Mem as NoMem}
use Rattle.iio_kfifo.specs.Ends.{WriterEnd}
use Rattle.iiod_bank.specs.declared.opening.Opened.{Opened}
use Rattle.iiod_bank.specs.declared.remasking.Remasked.{Remasked}
use Rattle.iiod_bank.specs.Received.{IsFresh}

-- a refusal by an errno
abbrev pub refused : {A : Type 0} → Result A Errno → Result A No
refused (Ok x) = Ok x
refused (Err e) = Err (NoErrno e)

-- ---- buffers

-- a member's buffer: its mask, the most scans that wait in it, and the bytes of a scan
pub record Buffer : Type 0 where
  pub mask : Mask
  pub scans : ℕ
  pub bytes : ℕ

abbrev pub buffer_of : Mask → (scans bytes : ℕ) → Buffer
buffer_of mask scans bytes = record { mask = mask; scans = scans; bytes = bytes }

-- ---- OPEN

-- where an OPEN may run: the mask has only channels of the device, and its scans have the size that the opener knows
pub record MayOpenAt (mask size : ℕ) (shape : ShapeRecord) : Type 0 where
  pub below : mask < 2 ^ count_of shape
  pub sized : size ≡ scan_size shape mask

-- the errno of the refusal, if there is one
abbrev pub open_refusal : ℕ → DeviceView WriterEnd → Option State → Option Errno
open_refusal mask a s = option_and_then errno_of (first_refusal (join_faults a mask s))

-- the writer's end of a new ring for a buffer, to which nothing was offered
pub record IsNewEnd (buffer : Buffer) (w : WriterEnd) : Type 0 where
  pub taken_none : writer_end.taken w ≡ 0
  pub lost_none : writer_end.lost w ≡ 0
  pub sized : w.size ≡ buffer.bytes
  pub bounded : w.capacity ≡ buffer.scans

abbrev pub joined_at : DeviceView WriterEnd → Option State → Option State
joined_at a s = option_map (λ (t : State). trigger_joined a t) s

-- the member is the device's next, and its queue's two ends are those of one new ring
pub record Accepted (buffer : Buffer) (a : DeviceView WriterEnd) (o : Opened) (b : DeviceView WriterEnd) : Type 0 where
  pub numbered : o.member.number ≡ a.standing.next
  pub reader : IsFresh buffer.bytes o.reader
  pub tail : WriterEnd
  pub end : IsNewEnd buffer tail
  pub one_ring : tail.ring ≡ o.reader.ring
  pub joins : b ≡ device_joined buffer.mask tail a

abbrev pub OpenMakes : Buffer → DeviceView WriterEnd → Option State → Result Opened No → DeviceView WriterEnd → Option State → Type 0
OpenMakes buffer a s (Ok o) b t = (first_refusal (join_faults a buffer.mask.bits s) ≡ None) × Accepted buffer a o b × (t ≡ joined_at a s)
OpenMakes buffer a s (Err (NoErrno e)) b t = (open_refusal buffer.mask.bits a s ≡ Some e) × (b ≡ a) × (t ≡ s)
OpenMakes buffer a s (Err NoMem) b t = (open_refusal buffer.mask.bits a s ≡ None) × (b ≡ a) × (t ≡ s)

-- ---- CLOSE

-- a device without a trigger has no member
abbrev pub LeaveMakes : ℕ → DeviceView WriterEnd → Option State → Option WriterEnd → DeviceView WriterEnd → Option State → Type 0
LeaveMakes number a (Some s) o b (Some t) = LeavesDevice writer_end number o a b s t
LeaveMakes number a None o b None = (o ≡ None) × (member_of number a.standing.members ≡ None) × (b ≡ a)
LeaveMakes number a (Some s) o b None = ⊥
LeaveMakes number a None o b (Some t) = ⊥

-- ---- REMASK

-- the errno of the refusal, if there is one
abbrev pub remask_refusal : (number mask : ℕ) → DeviceView WriterEnd → Option Errno
remask_refusal number mask a = option_and_then remask_errno (first_refusal (remask_faults a number mask))

-- the member of that number begins anew under the buffer's mask; its two ends are those of one new ring; its old writer is returned
pub record Exchanged (number : ℕ) (buffer : Buffer) (a : DeviceView WriterEnd) (o : Remasked) (b : DeviceView WriterEnd) : Type 0 where
  pub reader : IsFresh buffer.bytes o.reader
  pub tail : WriterEnd
  pub end : IsNewEnd buffer tail
  pub one_ring : tail.ring ≡ o.reader.ring
  pub remasks : RemasksDevice writer_end number buffer.mask tail (Ok o.before) a b

-- what the job makes of the device, by its answer
abbrev pub RemaskMakes : ℕ → Buffer → DeviceView WriterEnd → Result Remasked No → DeviceView WriterEnd → Type 0
RemaskMakes number buffer a (Ok o) b = Exchanged number buffer a o b
RemaskMakes number buffer a (Err (NoErrno e)) b = (remask_refusal number buffer.mask.bits a ≡ Some e) × (b ≡ a)
RemaskMakes number buffer a (Err NoMem) b = (remask_refusal number buffer.mask.bits a ≡ None) × (b ≡ a)

-- ---- attributes

-- the channel, if one is given, is one of the shape's
abbrev pub HasChannel : Option ℕ → ShapeRecord → Type 0
HasChannel channel shape = IfSome channel (λ c. c < length shape.channels)

abbrev pub kept_value : Option ℕ → Attr → DeviceView WriterEnd → Result Value No
kept_value channel attr a = if a.site.plugged then Ok (attr_value a.name channel attr a.site) else Err (NoErrno ENODEV)

-- the answer to a READ at a moment: `raw` asks the sensor
abbrev pub value_at : ℤ → Option ℕ → Attr → DeviceView WriterEnd → Result Value No
value_at t (Some c) Raw a = refused (raw_value (raw_answer c t a))
value_at t channel attr a = kept_value channel attr a

abbrev pub after_value : Option ℕ → Attr → DeviceView WriterEnd → DeviceView WriterEnd
after_value (Some c) Raw a = after_raw a
after_value channel attr a = a

abbrev pub ReadMakes : ℤ → Option ℕ → Attr → DeviceView WriterEnd → Result Value No → DeviceView WriterEnd → Type 0
ReadMakes t channel attr a o b = (o ≡ value_at t channel attr a) × (b ≡ after_value channel attr a)

abbrev pub WriteMakes : Option ℕ → Attr → Fixed → DeviceView WriterEnd → Result ⊤ No → DeviceView WriterEnd → Type 0
WriteMakes channel attr v a o b = (o ≡ refused (write_answer a)) × (b ≡ after_write channel attr v a)

abbrev pub SetTriggerMakes : Option ℕ → DeviceView WriterEnd → Result ⊤ No → DeviceView WriterEnd → Type 0
SetTriggerMakes trigger a o b = (o ≡ refused (trigger_answer a)) × (b ≡ after_trigger trigger a)

-- ---- the numbers of a queue

abbrev pub LostMakes : ℕ → DeviceView WriterEnd → Option ℕ → DeviceView WriterEnd → Type 0
LostMakes number a o b = (o ≡ option_map (λ (m : Membership WriterEnd). writer_end.lost m.tail) (member_of number a.standing.members)) × (b ≡ a)

-- ---- a trigger's entry

abbrev pub HandleMakes : Handed → DeviceView WriterEnd → Handled → DeviceView WriterEnd → Type 0
HandleMakes due a o b = Handles writer_end due o a b

-- ---- events

abbrev pub with_events : (MonitorRecord ℕ → MonitorRecord ℕ) → DeviceView WriterEnd → DeviceView WriterEnd
with_events change a = at_site (with_monitor change a.site) a

abbrev pub EvOpenMakes : ℕ → DeviceView WriterEnd → Result ⊤ No → DeviceView WriterEnd → Type 0
EvOpenMakes who a o b =
    MatchBool a.site.plugged ((o ≡ refused (map_err held_errno (open_answer a.site.monitor))) × (b ≡ with_events (after_open who) a))
    ((o ≡ Err (NoErrno ENODEV)) × (b ≡ a))

abbrev pub EvReadMakes : ℕ → DeviceView WriterEnd → Result (Option EventData) No → DeviceView WriterEnd → Type 0
EvReadMakes who a o b =
    MatchBool a.site.plugged ((o ≡ refused (map_err holder_errno (read_answer nat_eq who a.site.monitor))) × (b ≡ with_events (after_read nat_eq who) a))
    ((o ≡ Err (NoErrno ENODEV)) × (b ≡ a))

abbrev pub EvCloseMakes : ℕ → DeviceView WriterEnd → Result ⊤ No → DeviceView WriterEnd → Type 0
EvCloseMakes who a o b = (o ≡ refused (map_err holder_errno (close_answer nat_eq who a.site.monitor))) × (b ≡ with_events (after_close nat_eq who) a)

-- ---- the end of a device

abbrev pub gone : DeviceView WriterEnd → DeviceView WriterEnd
gone a = at_site (unplugged a.site) a

-- the first member leaves
pub record FirstLeaves (a : DeviceView WriterEnd) (s : State) (b : DeviceView WriterEnd) (t : State) : Type 0 where
  pub number : ℕ
  pub tail : WriterEnd
  pub first : first_number a.standing.members ≡ Some number
  pub left : LeavesDevice writer_end number (Some tail) a b s t

-- the first n members leave, one after another
abbrev pub Left : ℕ → DeviceView WriterEnd → State → DeviceView WriterEnd → State → Type 0
Left zero a s b t = (b ≡ a) × (t ≡ s)
Left (suc k) a s b t = (c : DeviceView WriterEnd) × (u : State) × Left k a s c u × FirstLeaves c u b t

-- all members leave a device that was unplugged
pub record Emptied (a : DeviceView WriterEnd) (s : State) (b : DeviceView WriterEnd) (t : State) : Type 0 where
  pub members : ℕ
  pub left : Left members (gone a) s b t
  pub none : b.standing.members ≡ []

abbrev pub UnplugMakes : DeviceView WriterEnd → Option State → Bool → DeviceView WriterEnd → Option State → Type 0
UnplugMakes a (Some s) o b (Some t) = (o ≡ a.site.plugged) × Emptied a s b t
UnplugMakes a None o b None = (o ≡ a.site.plugged) × (b ≡ gone a) × (b.standing.members ≡ [])
UnplugMakes a (Some s) o b None = ⊥
UnplugMakes a None o b (Some t) = ⊥
