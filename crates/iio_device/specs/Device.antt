-- A device as contracts see it, and what each call makes of it. (Kernel, driver-api/iio: the core keeps a device's buffer,
-- trigger, attributes and events; its driver is asked. That a device can be unplugged while it has members, and the order of
-- the refusals, are this project's own.)
use Rattle.std.specs.Prelude.{◌≡◌, ℕ, ◌+◌, ◌-◌, ◌^◌, ◌==◌, ◌&&◌, ◌||◌, not, nat_lt, Bool, true, false, ⊤, List, [], ◌∷◌, length, Option, Some, None, is_none, is_some, option_map, Result, Ok, Err, if◌then◌else◌, ℤ}
use Rattle.std.specs.Option.{option_map_or}
use Rattle.iio_base.specs.Refusals.{ensure, ◌>>=◌, first_refusal}
use Rattle.iio_text.specs.declared.errors.Errno.{Errno}
use Rattle.iio_text.specs.declared.errors.Errno.TheVariants.{EBUSY, ENODEV}
use Rattle.iio_text.specs.declared.values.Fixed.{Fixed}
use Rattle.iio_attr.specs.declared.attributes.Attr.{Attr}
use Rattle.iio_mask.specs.declared.Mask.{Mask}
use Rattle.iio_layout.specs.Active.{has_data}
use Rattle.iio_layout.specs.Shape.{ShapeRecord, count_of}
use Rattle.iio_kfifo.specs.declared.tail.Tail.{Ghosts}
use Rattle.iio_trigger.specs.Trigger.{State, Handed, holds_place, with_place, without_place}
use Rattle.iio_sensor.specs.Driver.{Driver, ask_fails, value_of, values_of}
use Rattle.iio_desc.specs.Description.{DeviceRecord}
use Rattle.iio_device.specs.declared.device.Fitted.{Fitted}
use Rattle.iio_device.specs.declared.iio_dev.IioDev.{IioDev}
use Rattle.iio_device.specs.declared.plug.Plug.{Plug}
use Rattle.iio_device.specs.declared.handling.Handled.{Handled}
use Rattle.iio_device.specs.declared.handling.Handled.TheVariants as handled
use Rattle.iio_device.specs.declared.handling.RawFault.{RawFault}
use Rattle.iio_device.specs.declared.handling.RawFault.TheVariants as raw
use Rattle.iio_device.specs.declared.handling.Sensed.{Sensed}
use Rattle.iio_device.specs.declared.handling.Sensed.TheVariants as sense
use Rattle.iio_device.specs.declared.membership.Member.{Member}
use Rattle.iio_device.specs.declared.membership.Membership.{Membership}
use Rattle.iio_device.specs.declared.roster.JoinFault.{JoinFault}
use Rattle.iio_device.specs.declared.roster.JoinFault.TheVariants as fault
use Rattle.iio_device.specs.declared.roster.JoinRefused.{JoinRefused}
use Rattle.iio_device.specs.declared.roster.RemaskFault.{RemaskFault}
use Rattle.iio_device.specs.declared.roster.RemaskFault.TheVariants as remask
use Rattle.iio_device.specs.declared.roster.RemaskRefused.{RemaskRefused}
use Rattle.iio_device.specs.Active.{is_without_union}
use Rattle.iio_device.specs.Joining.{member_faults}
use Rattle.iio_device.specs.Members.{is_live, masks_of, member_of, without}
use Rattle.iio_device.specs.Plug.{driver_in}
use Rattle.iio_device.specs.Remasking.{IsRemaskRefusal, after_remask}
use Rattle.iio_device.specs.Roster.{Standing, Captures, IsRefusal, after_join, after_leave, nobody}
use Rattle.iio_device.specs.Sensing.{sensed, with_sensed}
use Rattle.iio_device.specs.Site.{Site, is_current, is_empty, first_site, attached, captured, sampled, site_written}
use Rattle.iio_device.specs.Standing.{standing_of}
use Rattle.iio_device.specs.Stored.{site_with}
use Rattle.iio_device.specs.Totals.{no_totals, with_lost}
use Rattle.iio_device.specs.declared.totals.Totals.{Totals}

-- a device: its name, its number, its members with what belongs to them, what its queues gave and lost in all, and its site
pub record DeviceView (Q : Type 0) : Type 0 where
  pub name : List ℕ
  pub number : ℕ
  pub standing : Standing Q
  pub totals : Totals
  pub site : Site ℕ

module _ {Q X : Type 0} {V : X → Type 0} {g : Ghosts Q} (driver : Plug X V → Driver) where
  -- a device's site, from what its core keeps and what is sampled
  abbrev pub site_of : Fitted (IioDev Q g) X V → Site ℕ
  site_of d = site_with (is_some d.plug) d.core.trigger d.core.attachment (driver_in driver d.plug) d.core.stored

  -- the view of a device that samples by that driver
  abbrev pub view_of : Fitted (IioDev Q g) X V → DeviceView Q
  view_of d =
      record {
        name = d.core.name;
        number = d.core.number;
        standing = standing_of d.core.roster;
        totals = d.core.totals;
        site = site_of d;
      }

-- ---- conditions of a joining

-- a mask with a bit at or above the number of channels, or without a data channel
abbrev pub is_bad_mask : ShapeRecord → ℕ → Bool
is_bad_mask shape mask = not (nat_lt mask (2 ^ count_of shape)) || not (has_data shape mask)

-- whether a trigger has no place for the device of that number
abbrev pub has_no_place : ℕ → State → Bool
has_no_place number trigger = not (holds_place number trigger.attached) && not (nat_lt (length trigger.attached) trigger.places)

module _ {Q : Type 0} where
  -- a new device is plugged, and has no member
  abbrev pub new_view : DeviceRecord → ℕ → Driver → DeviceView Q
  new_view desc number driver =
      record {
        name = desc.name;
        number = number;
        standing = nobody desc.shape;
        totals = no_totals;
        site =
            first_site desc.shape desc.trigger driver desc.attrs;
      }

  abbrev pub at_site : Site ℕ → DeviceView Q → DeviceView Q
  at_site site d = record d { site = site }

  -- whether it can be asked for a sample and be given another trigger: it is plugged and has no member
  abbrev pub is_idle : DeviceView Q → Bool
  is_idle d = d.site.plugged && is_empty d.standing.members

  -- ---- joining

  -- whether there is no place for another member: the first one needs a place at the trigger, and the numbers have an end
  abbrev pub is_full : DeviceView Q → Option State → Bool
  is_full d trigger = is_empty d.standing.members && option_map_or (has_no_place d.number) trigger false || d.standing.next == 2 ^ 64 - 1

  -- why a member can't join, in this order
  abbrev pub join_faults : DeviceView Q → ℕ → Option State → List (Bool × JoinFault)
  join_faults d mask trigger =
      (not d.site.plugged, fault.Gone)
      ∷ (is_bad_mask d.standing.shape mask, fault.BadMask)
      ∷ member_faults (is_none d.site.trigger) (is_without_union d.standing.shape (masks_of d.standing.members) mask) (is_full d trigger)

  -- the trigger after a joining: with its first member the device takes a place, under the number of its attachment
  abbrev pub trigger_joined : DeviceView Q → State → State
  trigger_joined d trigger =
      if is_empty d.standing.members then record trigger { attached = with_place d.number (d.site.attachment + 1) trigger.attached } else trigger

  abbrev pub device_joined : Mask → Q → DeviceView Q → DeviceView Q
  device_joined mask tail d = record d { standing = after_join mask tail d.standing; site = attached (is_empty d.standing.members) d.site }

  -- a join under a mask, with a queue's end. A refusal gives the end back and changes nothing
  abbrev pub JoinsDevice : Mask → Q → Result Member (JoinRefused Q) → (old new : DeviceView Q) → (trigger trigger' : State) → Type 0
  JoinsDevice mask tail (Ok member) old new trigger trigger' =
      (first_refusal (join_faults old mask.bits (Some trigger)) ≡ None)
      × (member.number ≡ old.standing.next)
      × (new ≡ device_joined mask tail old)
      × (trigger' ≡ trigger_joined old trigger)
  JoinsDevice mask tail (Err refused) old new trigger trigger' =
      IsRefusal refused.fault (first_refusal (join_faults old mask.bits (Some trigger))) × (refused.tail ≡ tail) × (new ≡ old) × (trigger' ≡ trigger)

  -- ---- leaving

  -- the trigger after a leaving: a device without a member holds no place
  abbrev pub trigger_left : DeviceView Q → State → State
  trigger_left d trigger = if is_empty d.standing.members then record trigger { attached = without_place d.number trigger.attached } else trigger

  -- the member of that number leaves and gives its queue's end back, and what its queue lost is counted; if there is no such
  -- member, nothing changes
  abbrev pub LeavesDevice : Ghosts Q → ℕ → Option Q → (old new : DeviceView Q) → (trigger trigger' : State) → Type 0
  LeavesDevice ends number None old new trigger trigger' = (member_of number old.standing.members ≡ None) × (new ≡ old) × (trigger' ≡ trigger)
  LeavesDevice ends number (Some tail) old new trigger trigger' =
      (option_map (λ (m : Membership Q). m.tail) (member_of number old.standing.members) ≡ Some tail)
      × (new ≡ record old { standing = after_leave number old.standing; totals = with_lost (ends.lost tail) old.totals })
      × (trigger' ≡ trigger_left new trigger)

  -- ---- another mask

  -- why a member can't get another mask, in this order; the others keep their masks
  abbrev pub remask_faults : DeviceView Q → (number mask : ℕ) → List (Bool × RemaskFault)
  remask_faults d number mask =
      (not d.site.plugged, remask.Gone)
      ∷ (not (is_live number d.standing.members), remask.NotLive)
      ∷ (is_bad_mask d.standing.shape mask, remask.BadMask)
      ∷ (is_without_union d.standing.shape (masks_of (without number d.standing.members)) mask, remask.NoUnion)
      ∷ []

  -- the member of that number begins anew under another mask, with another queue's end. It gives its old queue's end back, and
  -- what that lost is counted. A refusal gives the new end back and changes nothing
  abbrev pub RemasksDevice : Ghosts Q → ℕ → Mask → Q → Result Q (RemaskRefused Q) → (old new : DeviceView Q) → Type 0
  RemasksDevice ends number mask tail (Ok before) old new =
      (first_refusal (remask_faults old number mask.bits) ≡ None)
      × (option_map (λ (m : Membership Q). m.tail) (member_of number old.standing.members) ≡ Some before)
      × (new ≡ record old { standing = after_remask number mask tail old.standing; totals = with_lost (ends.lost before) old.totals })
  RemasksDevice ends number mask tail (Err refused) old new =
      IsRemaskRefusal refused.fault (first_refusal (remask_faults old number mask.bits)) × (refused.tail ≡ tail) × (new ≡ old)

  -- ---- asking the sensor

  -- whether the handling of a trigger's entry asks the sensor: the entry is the device's and current, and there may be another
  -- capture
  abbrev pub is_due : Handed → DeviceView Q → Bool
  is_due due d =
      due.dev == d.number
      && is_current due.attachment d.site.attachment d.standing.members d.site.plugged
      && not (d.standing.captures == 2 ^ 64 - 1)

  -- one ask for a capture
  abbrev pub capture_asked : ℤ → DeviceView Q → DeviceView Q
  capture_asked t d = at_site (captured t d.standing.active d.site) d

  -- the answer to a READ of `raw`: the value of element 0 of channel c
  abbrev pub raw_answer : ℕ → ℤ → DeviceView Q → Result ℤ RawFault
  raw_answer c t d = do
    plugged ← ensure d.site.plugged raw.Gone
    free ← ensure (is_empty d.standing.members) raw.Busy
    answered ← ensure (not (ask_fails d.site.driver)) raw.Fault
    Ok (value_of d.site.driver d.standing.shape t c 0)

  abbrev pub after_raw : DeviceView Q → DeviceView Q
  after_raw d = if is_idle d then at_site (sampled d.site) d else d

  -- a look at the thresholds
  abbrev pub sense_answer : ℤ → DeviceView Q → Sensed
  sense_answer t d =
      if not d.site.plugged then sense.Gone
      else if (sensed d.standing.shape t d.site).fault then sense.Fault
      else sense.Fired (sensed d.standing.shape t d.site).count

  abbrev pub after_sense : ℤ → DeviceView Q → DeviceView Q
  after_sense t d = if d.site.plugged then at_site (with_sensed (sensed d.standing.shape t d.site) d.site) d else d

  -- ---- the rest

  -- a WRITE of an attribute
  abbrev pub write_answer : DeviceView Q → Result ⊤ Errno
  write_answer d = ensure d.site.plugged ENODEV

  abbrev pub after_write : Option ℕ → Attr → Fixed → DeviceView Q → DeviceView Q
  after_write channel attribute v d = if d.site.plugged then at_site (site_written channel attribute v d.site) d else d

  -- a SETTRIG
  abbrev pub trigger_answer : DeviceView Q → Result ⊤ Errno
  trigger_answer d = do
    plugged ← ensure d.site.plugged ENODEV
    ensure (is_empty d.standing.members) EBUSY

  abbrev pub after_trigger : Option ℕ → DeviceView Q → DeviceView Q
  after_trigger trigger d = if is_idle d then at_site (record d.site { trigger = trigger }) d else d

  -- ---- a trigger's entry

  -- the handling of a trigger's entry. If it is due, the sensor is asked exactly once, at the entry's moment and under the
  -- active mask, and each member is offered its own scan of the capture, once. An ask that fails changes only the sensor
  abbrev pub Handles : Ghosts Q → Handed → Handled → (old new : DeviceView Q) → Type 0
  Handles ends due handled.Idle old new = (is_due due old ≡ false) × (new ≡ old)
  Handles ends due handled.Fault old new = (is_due due old ≡ true) × (ask_fails old.site.driver ≡ true) × (new ≡ capture_asked due.t old)
  Handles ends due (handled.Captured members) old new =
      (is_due due old ≡ true)
      × (ask_fails old.site.driver ≡ false)
      × Captures ends (values_of old.site.driver old.standing.shape due.t) due.t (Ok members) old.standing new.standing
      × (new ≡ record (capture_asked due.t old) { standing = new.standing })
