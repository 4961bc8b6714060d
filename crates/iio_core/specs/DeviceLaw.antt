-- The law that each call of an input device, over any kind of queue's end, makes of the device what the plain state says.
use Rattle.std.specs.Prelude.{◌≡◌, ℕ, ℤ, ◌-◌, ◌^◌, ◌≤◌, ◌==◌, true, false, List, [], length, slice_get, Option, Some, IfSome, option_map, Result, Ok}
use Rattle.iio_text.specs.declared.values.Fixed.{Fixed}
use Rattle.iio_attr.specs.declared.attributes.Attr.{Attr}
use Rattle.iio_attr.specs.declared.attributes.Attr.TheVariants.{Raw}
use Rattle.iio_kfifo.specs.declared.tail.Offered.{Offered}
use Rattle.iio_kfifo.specs.declared.tail.Tail.{Ghosts}
use Rattle.iio_mask.specs.declared.Mask.{Mask}
use Rattle.iio_trigger.specs.Trigger.{Handed, State, holds_place}
use Rattle.iio_event.specs.Monitor.{after_close, after_open, after_read, close_answer, open_answer, read_answer}
use Rattle.iio_device.specs.declared.handling.Handled.{Handled}
use Rattle.iio_device.specs.declared.membership.Member.{Member as MemberNumber}
use Rattle.iio_device.specs.declared.membership.Membership.{Membership}
use Rattle.iio_device.specs.declared.roster.JoinRefused.{JoinRefused}
use Rattle.iio_device.specs.declared.roster.RemaskRefused.{RemaskRefused}
use Rattle.iio_device.specs.Ends.{queue_end, writer_end}
use Rattle.iio_device.specs.Active.{active_for}
use Rattle.iio_device.specs.Device.{DeviceView, Handles, JoinsDevice, LeavesDevice, RemasksDevice, after_raw, after_sense, after_trigger, after_write, at_site, has_no_place as lacks_place, is_bad_mask, raw_answer, trigger_answer, write_answer}
use Rattle.iio_device.specs.Members.{masks_of, member_of}
use Rattle.iio_device.specs.Site.{is_empty, unplugged, with_monitor}
use Rattle.iio_device.specs.Stored.{attr_value}
use Rattle.iio_kfifo.specs.Ends.{Offers as WriterOffers, WriterEnd}
use Rattle.iio_kfifo.specs.Offers.{accepted}
use Rattle.iio_kfifo.specs.Queue.{Offers as QueueOffers, Queue}
use Rattle.iio_core.specs.Attached.{has_no_place, is_attached}
use Rattle.iio_core.specs.Calls.{machine_after_close, ev_close_of, ev_open_of, ev_read_of, is_raw, open_of, read_attr_of, remask_of, set_trigger_of, write_attr_of}
use Rattle.iio_desc.specs.Kind.{Input}
use Rattle.iio_core.specs.Faults.{held_errno, holder_errno, map_err, raw_value}
use Rattle.iio_core.specs.Front.{Front, device_name, kind_at, shape_at}
use Rattle.iio_core.specs.Machine.{attachment_of, attachments_of, Machine, MemberId, lost_by, with_site, with_station}
use Rattle.iio_core.specs.Moves.{station_after_entry, station_after_look, handled_answer}
use Rattle.iio_core.specs.Devices.{AreMet, Does, IsAt, IsJoined, IsMet, IsRemasked, queue_waited, queue_waits, station_met, station_of, writer_waited, writer_waits}

module _ {Q : Type 0} where
  -- ---- members

  -- a new end has no scans, and has lost none
  pub record IsNewEnd (ends : Ghosts Q) (waits : Q → List (List ℕ)) (tail : Q) : Type 0 where
    pub none : waits tail ≡ []
    pub unlost : ends.lost tail ≡ 0

  -- a device without a member finds a place at its trigger exactly if the plain state has one
  abbrev pub SamePlaces : Front → Machine → DeviceView Q → State → Type 0
  SamePlaces front m d trigger =
      is_empty d.standing.members ≡ true → lacks_place d.number trigger ≡ has_no_place front (attachments_of m.stations) d.site.trigger

  -- a join agrees with an OPEN: it has the same number or the same errno, and leaves the same device
  abbrev pub JoinsAgree : Ghosts Q → Type 0
  JoinsAgree ends =
      (waits : Q → List (List ℕ)) (front : Front) (m : Machine) (dev : ℕ) (mask : Mask) (tail : Q) (r : Result MemberNumber (JoinRefused Q))
      (old new : DeviceView Q) (trigger trigger' : State)
      → JoinsDevice mask tail r old new trigger trigger' → IsAt ends waits m dev old → kind_at front dev ≡ Input
      → shape_at front dev ≡ old.standing.shape
      → is_bad_mask old.standing.shape mask.bits ≡ false → SamePlaces front m old trigger → IsNewEnd ends waits tail
      → IsJoined ends waits (open_of front m dev mask.bits (ends.capacity tail) false) m r dev new

  -- a leave agrees with a CLOSE
  abbrev pub LeavesAgree : Ghosts Q → Type 0
  LeavesAgree ends =
      (waits : Q → List (List ℕ)) (front : Front) (m : Machine) (dev number : ℕ) (r : Option Q) (old new : DeviceView Q) (trigger trigger' : State)
      → LeavesDevice ends number r old new trigger trigger' → IsAt ends waits m dev old → kind_at front dev ≡ Input
      → (option_map ends.lost r ≡ lost_by number (station_of ends waits old).members)
      × IsAt ends waits (machine_after_close front m dev number) dev new

  -- a seat's mask is that of the member of its number, if there is one
  abbrev pub IsSeatAt : MemberId → DeviceView Q → Type 0
  IsSeatAt id d = IfSome (member_of id.number d.standing.members) (λ (m : Membership Q). m.mask.bits ≡ id.mask)

  -- an exchange of a mask agrees with a REMASK: it has the same number of scans that waited or the same errno, and leaves the
  -- same device
  abbrev pub RemasksAgree : Ghosts Q → Type 0
  RemasksAgree ends =
      (waits : Q → List (List ℕ)) (front : Front) (m : Machine) (dev : ℕ) (id : MemberId) (mask : Mask) (tail : Q) (r : Result Q (RemaskRefused Q))
      (old new : DeviceView Q)
      → RemasksDevice ends id.number mask tail r old new → IsAt ends waits m dev old → shape_at front dev ≡ old.standing.shape
      → is_bad_mask old.standing.shape mask.bits ≡ false → IsSeatAt id old → IsNewEnd ends waits tail
      → IsRemasked ends waits (remask_of front m dev id mask.bits (ends.capacity tail)) m r dev new

  -- a device holds a place at its trigger exactly while it is attached there in the plain state
  abbrev pub IsPlaced : Ghosts Q → (Q → List (List ℕ)) → (trigger : ℕ) → DeviceView Q → State → Type 0
  IsPlaced ends waits t d trigger = holds_place d.number trigger.attached ≡ is_attached t (attachment_of (station_of ends waits d))

  -- joins and leaves keep it so
  abbrev pub PlacesAgree : Ghosts Q → Type 0
  PlacesAgree ends =
      (waits : Q → List (List ℕ)) (t number : ℕ) (mask : Mask) (tail : Q) (r : Result MemberNumber (JoinRefused Q)) (left : Option Q) (old new : DeviceView Q)
      (trigger trigger' : State)
      → old.site.trigger ≡ Some t → IsPlaced ends waits t old trigger
      → (JoinsDevice mask tail r old new trigger trigger' → IsPlaced ends waits t new trigger')
      × (LeavesDevice ends number left old new trigger trigger' → IsPlaced ends waits t new trigger')

  -- an exchange of a mask keeps it so, and leaves the trigger alone
  abbrev pub RemasksStay : Ghosts Q → Type 0
  RemasksStay ends =
      (waits : Q → List (List ℕ)) (t number : ℕ) (mask : Mask) (tail : Q) (r : Result Q (RemaskRefused Q)) (old new : DeviceView Q) (trigger : State)
      → RemasksDevice ends number mask tail r old new → IsPlaced ends waits t old trigger → IsPlaced ends waits t new trigger

  -- ---- captures

  -- the handling of an entry of the device agrees, if there may be another capture; the plain state is that of the device as
  -- the handling met it
  abbrev pub HandlingsAgree : Ghosts Q → Type 0
  HandlingsAgree ends =
      (waits : Q → List (List ℕ)) (waited : Q → Q → List (List ℕ)) (m : Machine) (dev : ℕ) (due : Handed) (r : Handled) (old new : DeviceView Q)
      → Handles ends due r old new → due.dev ≡ old.number → (old.standing.captures == 2 ^ 64 - 1) ≡ false
      → old.standing.active ≡ active_for old.standing.shape (masks_of old.standing.members) → AreMet ends waits waited r old new
      → slice_get m.stations dev ≡ Some (station_met ends waits waited r old new)
      → (r ≡ handled_answer due (station_met ends waits waited r old new))
      × IsAt ends waits (with_station (station_after_entry Input old.standing.shape (Some due)) dev m) dev new

  -- ---- attributes, the trigger, thresholds, the end

  abbrev pub WritesAgree : Ghosts Q → Type 0
  WritesAgree ends =
      (waits : Q → List (List ℕ)) (m : Machine) (dev : ℕ) (channel : Option ℕ) (a : Attr) (v : Fixed) (d : DeviceView Q) → IsAt ends waits m dev d
      → Does ends waits (write_attr_of m dev channel a v) (write_answer d) dev (after_write channel a v d)

  abbrev pub TriggersAgree : Ghosts Q → Type 0
  TriggersAgree ends =
      (waits : Q → List (List ℕ)) (m : Machine) (dev : ℕ) (trigger : Option ℕ) (d : DeviceView Q) → IsAt ends waits m dev d
      → Does ends waits (set_trigger_of m dev trigger) (trigger_answer d) dev (after_trigger trigger d)

  -- `raw` is read at the moment that the clock shows
  abbrev pub SamplesAgree : Ghosts Q → Type 0
  SamplesAgree ends =
      (waits : Q → List (List ℕ)) (front : Front) (m : Machine) (dev c : ℕ) (d : DeviceView Q) → IsAt ends waits m dev d → kind_at front dev ≡ Input
      → shape_at front dev ≡ d.standing.shape
      → Does ends waits (read_attr_of front m dev (Some c) Raw) (raw_value (raw_answer c m.clock d)) dev (after_raw d)

  -- any other attribute is read at a plugged device
  abbrev pub ReadsAgree : Ghosts Q → Type 0
  ReadsAgree ends =
      (waits : Q → List (List ℕ)) (front : Front) (m : Machine) (dev : ℕ) (channel : Option ℕ) (a : Attr) (d : DeviceView Q) → IsAt ends waits m dev d
      → device_name front dev ≡ d.name
      → is_raw channel a ≡ false → d.site.plugged ≡ true
      → Does ends waits (read_attr_of front m dev channel a) (Ok (attr_value d.name channel a d.site)) dev d

  abbrev pub LooksAgree : Ghosts Q → Type 0
  LooksAgree ends =
      (waits : Q → List (List ℕ)) (m : Machine) (dev : ℕ) (t : ℤ) (d : DeviceView Q) → IsAt ends waits m dev d
      → IsAt ends waits (with_station (station_after_look d.standing.shape t) dev m) dev (after_sense t d)

  abbrev pub UnpluggingsAgree : Ghosts Q → Type 0
  UnpluggingsAgree ends =
      (waits : Q → List (List ℕ)) (m : Machine) (dev : ℕ) (d : DeviceView Q) → IsAt ends waits m dev d
      → IsAt ends waits (with_station (with_site unplugged) dev m) dev (at_site (unplugged d.site) d)

  -- ---- events

  -- EVOPEN at a plugged device
  abbrev pub HoldingsAgree : Ghosts Q → Type 0
  HoldingsAgree ends =
      (waits : Q → List (List ℕ)) (m : Machine) (dev who : ℕ) (d : DeviceView Q) → IsAt ends waits m dev d → d.site.plugged ≡ true
      → Does ends waits (ev_open_of m dev who) (map_err held_errno (open_answer d.site.monitor)) dev (at_site (with_monitor (after_open who) d.site) d)

  -- EVREAD at a plugged device
  abbrev pub EventsAgree : Ghosts Q → Type 0
  EventsAgree ends =
      (waits : Q → List (List ℕ)) (m : Machine) (dev who : ℕ) (d : DeviceView Q) → IsAt ends waits m dev d → d.site.plugged ≡ true
      → Does ends waits (ev_read_of m dev who) (map_err holder_errno (read_answer (λ a b. a == b) who d.site.monitor)) dev
      (at_site (with_monitor (after_read (λ a b. a == b) who) d.site) d)

  -- EVCLOSE at any device
  abbrev pub ReleasesAgree : Ghosts Q → Type 0
  ReleasesAgree ends =
      (waits : Q → List (List ℕ)) (m : Machine) (dev who : ℕ) (d : DeviceView Q) → IsAt ends waits m dev d
      → Does ends waits (ev_close_of m dev who) (map_err holder_errno (close_answer (λ a b. a == b) who d.site.monitor)) dev
      (at_site (with_monitor (after_close (λ a b. a == b) who) d.site) d)

-- ---- the kinds of ends that there are

-- a queue of one owner meets each offer with what it held
abbrev pub QueuesAreMet : Type 0
QueuesAreMet =
    (old new : Queue) (scan : List ℕ) (answer : Offered) → QueueOffers old scan answer new
    → IsMet queue_end queue_waits queue_waited scan answer old new

-- so the device that a handling met is the device before it
abbrev pub QueuesStand : Type 0
QueuesStand =
    (due : Handed) (r : Handled) (old new : DeviceView Queue)
    → Handles queue_end due r old new
    → (station_met queue_end queue_waits queue_waited r old new
    ≡ station_of queue_end queue_waits old)
    × AreMet queue_end queue_waits queue_waited r old new

-- a ring meets an offer with what the offer's own look at the reader's count left, if that shows no more scans received than
-- were accepted
abbrev pub RingsAreMet : Type 0
RingsAreMet =
    (old new : WriterEnd) (scan : List ℕ) (answer : Offered) → WriterOffers old scan answer new → new.knows.seen ≤ length (accepted old.knows.offers)
    → IsMet writer_end writer_waits writer_waited scan answer old new
