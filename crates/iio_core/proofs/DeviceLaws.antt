-- Each call of a device in both views, except the handling of an entry.
use Rattle.std.proofs.Common.{◌≡◌, ℕ, zero, suc, ◌-◌, Bool, true, false, List, [], ◌∷◌, map, filter, Option, Some, None, slice_get, option_map, unwrap_or, Result, Ok, Err, refl, sym, ap, ◌∙◌, arith, cond, rules}
use Rattle.std.specs.Prelude.{◌==◌, ◌&&◌, not, find, option_and_then, ℤ}
use Rattle.std.proofs.lemmas.Bool.Decides.{nat_tests}
use Rattle.std.proofs.lemmas.List.{map-append}
use Rattle.iio_base.specs.Refusals.{ensure, ◌>>=◌, first_refusal, unless_refused}
use Rattle.iio_text.specs.declared.errors.Errno.{Errno}
use Rattle.iio_text.specs.declared.errors.Errno.TheVariants.{EBUSY, EIO, ENODEV}
use Rattle.iio_text.specs.declared.values.Fixed.{Fixed}
use Rattle.iio_attr.specs.declared.attributes.Attr.{Attr}
use Rattle.iio_attr.specs.declared.attributes.Attr.TheVariants as attr
use Rattle.iio_attr.specs.declared.values.Value.{Value}
use Rattle.iio_attr.specs.declared.values.Value.TheVariants.{Int}
use Rattle.iio_mask.specs.declared.Mask.{Mask}
use Rattle.iio_sensor.specs.Driver.{ask_fails, value_of}
use Rattle.iio_trigger.specs.declared.rows.Place.{Place}
use Rattle.iio_trigger.specs.Trigger.{State, holds_place, with_place, without_place}
use Rattle.iio_event.specs.Monitor.{after_close, after_open, after_read, close_answer, open_answer, read_answer}
use Rattle.iio_kfifo.specs.declared.tail.Tail.{Ghosts}
use Rattle.iio_device.specs.declared.handling.RawFault.TheVariants as raw
use Rattle.iio_device.specs.declared.membership.Member.{Member as MemberNumber}
use Rattle.iio_device.specs.declared.membership.Membership.{Membership}
use Rattle.iio_device.specs.declared.roster.JoinFault.{JoinFault}
use Rattle.iio_device.specs.declared.roster.JoinFault.TheVariants as fault
use Rattle.iio_device.specs.declared.roster.JoinRefused.{JoinRefused}
use Rattle.iio_device.specs.Device.{DeviceView, JoinsDevice, LeavesDevice, after_raw, after_sense, after_trigger, after_write, at_site, device_joined, is_bad_mask, join_faults, raw_answer, trigger_answer, write_answer}
use Rattle.iio_device.specs.Joining.{member_faults}
use Rattle.iio_device.specs.Members.{masks_of, member_of as membership_of, without as without_of}
use Rattle.iio_device.specs.Roster.{IsRefusal}
use Rattle.iio_device.specs.Site.{at_place, attached, is_empty, sampled, unplugged, with_monitor}
use Rattle.iio_device.specs.Stored.{attr_value}
use Rattle.iio_device.specs.Totals.{with_left, with_lost}
use Rattle.iio_core.specs.Attached.{is_attached}
use Rattle.iio_core.specs.Calls.{CallResult, all_joined, machine_after_close, ev_close_of, ev_open_of, ev_read_of, inner_left, is_raw, station_after_join, station_after_leave, open_of, open_refusals, read_attr_of, set_trigger_of, unless_made, write_attr_of}
use Rattle.iio_desc.specs.Kind.{Input}
use Rattle.iio_core.proofs.PlaceLists.{get_first}
use Rattle.iio_core.specs.Front.{Front, device_name, kind_at, shape_at}
use Rattle.iio_core.specs.Machine.{attachment_of, Machine, Member, Station, is_seat_of, lost_by, masks_of as plain_masks, no_station, station_at, with_site, with_station, without}
use Rattle.iio_core.specs.Faults.{errno_of, held_errno, holder_errno, map_err, raw_value}
use Rattle.iio_core.specs.Opening.{join_refusals, own_host}
use Rattle.iio_core.specs.Moves.{station_after_look}
use Rattle.iio_core.specs.Devices.{Does, IsAt, IsJoined, IsRefused, member_with, station_of}
use Rattle.iio_core.specs.DeviceLaw.{IsNewEnd, IsPlaced, SamePlaces}

-- ---- a machine at a device

get_changed : {A : Type 0} (xs : List A) (k : ℕ) (x : A) (change : A → A) → slice_get xs k ≡ Some x → slice_get (at_place k change xs) k ≡ Some (change x)
get_changed [] k x change e = absurd (cc)
get_changed {A = A} (y ∷ ys) zero x change e = let same : y ≡ x = cc in ap (λ (z : A). Some (change z)) same
get_changed (y ∷ ys) (suc k) x change e = get_changed ys k x change e

pub at_changed : (m : Machine) (dev : ℕ) (st : Station) (change : Station → Station) → slice_get m.stations dev ≡ Some st
    → slice_get (with_station change dev m).stations dev ≡ Some (change st)
unfolding with_station
at_changed m dev st change e = get_changed m.stations dev st change e

pub station_here : (m : Machine) (dev : ℕ) (st : Station) → slice_get m.stations dev ≡ Some st → station_at m dev ≡ st
unfolding station_at
station_here m dev st e = ap (λ (o : Option Station). unwrap_or o no_station) e

-- a machine in which each device changes by its number
pub at_joined : (front : Front) (m : Machine) (dev : ℕ) (st : Station) (change : Station → Station) → slice_get m.stations dev ≡ Some st
    → slice_get (all_joined front dev change m).stations dev ≡ Some (change st)
at_joined front m dev st change here = search (rules, get_first)

-- when a member of an input device leaves, no inner member leaves with it
at_left : (front : Front) (m : Machine) (dev : ℕ) → kind_at front dev ≡ Input → slice_get (inner_left front dev m).stations dev ≡ slice_get m.stations dev
at_left front m dev input = search (rules, get_first)

pub empty_map : {A B : Type 0} (f : A → B) (xs : List A) → is_empty (map f xs) ≡ is_empty xs
empty_map f xs = search rules

-- ---- attributes, the trigger, thresholds, the end

module _ {Q : Type 0} (ends : Ghosts Q) (waits : Q → List (List ℕ)) where
  abbrev seen : DeviceView Q → Station
  seen d = station_of ends waits d

  pub writes_agree : (m : Machine) (dev : ℕ) (channel : Option ℕ) (a : Attr) (v : Fixed) (d : DeviceView Q) → IsAt ends waits m dev d
      → Does ends waits (write_attr_of m dev channel a v) (write_answer d) dev (after_write channel a v d)
  unfolding write_attr_of
  writes_agree m dev channel a v d here = search (rules, station_here, at_changed)

  pub triggers_agree : (m : Machine) (dev : ℕ) (trigger : Option ℕ) (d : DeviceView Q) → IsAt ends waits m dev d
      → Does ends waits (set_trigger_of m dev trigger) (trigger_answer d) dev (after_trigger trigger d)
  unfolding set_trigger_of
  triggers_agree m dev trigger d here = search (rules, station_here, at_changed)

  pub samples_agree : (front : Front) (m : Machine) (dev c : ℕ) (d : DeviceView Q) → IsAt ends waits m dev d → kind_at front dev ≡ Input
      → shape_at front dev ≡ d.standing.shape
      → Does ends waits (read_attr_of front m dev (Some c) attr.Raw) (raw_value (raw_answer c m.clock d)) dev (after_raw d)
  unfolding read_attr_of
  samples_agree front m dev c d here input shaped =
      rw (station_here m dev (seen d) here, input, shaped, empty_map (λ (x : Membership Q). member_with ends (waits x.tail) x) d.standing.members)
      (by (value_of d.site.driver d.standing.shape m.clock c 0) d.site.plugged (is_empty d.standing.members) (ask_fails d.site.driver))
    where
      by : (sample : ℤ) (p e f : Bool)
          → Does ends waits
          (let o : CallResult Value =
          record {
            answer = ensure p ENODEV >>= (λ plugged. ensure e EBUSY >>= (λ free. ensure (not f) EIO >>= (λ answered. Ok (Int sample))));
            machine =
                cond (p && e && true) (with_station (with_site sampled) dev m) m;
          } in o)
          (raw_value (ensure p raw.Gone >>= (λ plugged. ensure e raw.Busy >>= (λ free. ensure (not f) raw.Fault >>= (λ answered. Ok sample))))) dev
          (cond (p && e) (at_site (sampled d.site) d) d)
      by sample p e f = search (rules, at_changed)

  pub reads_agree : (front : Front) (m : Machine) (dev : ℕ) (channel : Option ℕ) (a : Attr) (d : DeviceView Q) → IsAt ends waits m dev d
      → device_name front dev ≡ d.name
      → is_raw channel a ≡ false → d.site.plugged ≡ true
      → Does ends waits (read_attr_of front m dev channel a) (Ok (attr_value d.name channel a d.site)) dev d
  unfolding read_attr_of
  reads_agree front m dev channel a d here named kept plugged = search (rules, station_here)

  pub looks_agree : (m : Machine) (dev : ℕ) (t : ℤ) (d : DeviceView Q) → IsAt ends waits m dev d
      → IsAt ends waits (with_station (station_after_look d.standing.shape t) dev m) dev (after_sense t d)
  looks_agree m dev t d here = search (rules, at_changed)

  pub unpluggings_agree : (m : Machine) (dev : ℕ) (d : DeviceView Q) → IsAt ends waits m dev d
      → IsAt ends waits (with_station (with_site unplugged) dev m) dev (at_site (unplugged d.site) d)
  unpluggings_agree m dev d here = at_changed m dev (seen d) (with_site unplugged) here

  -- ---- events

  pub holdings_agree : (m : Machine) (dev who : ℕ) (d : DeviceView Q) → IsAt ends waits m dev d → d.site.plugged ≡ true
      → Does ends waits (ev_open_of m dev who) (map_err held_errno (open_answer d.site.monitor)) dev (at_site (with_monitor (after_open who) d.site) d)
  unfolding ev_open_of
  holdings_agree m dev who d here plugged = search (rules, station_here, at_changed)

  pub events_agree : (m : Machine) (dev who : ℕ) (d : DeviceView Q) → IsAt ends waits m dev d → d.site.plugged ≡ true
      → Does ends waits (ev_read_of m dev who) (map_err holder_errno (read_answer (λ a b. a == b) who d.site.monitor)) dev
      (at_site (with_monitor (after_read (λ a b. a == b) who) d.site) d)
  unfolding ev_read_of
  events_agree m dev who d here plugged = search (rules, station_here, at_changed)

  pub releases_agree : (m : Machine) (dev who : ℕ) (d : DeviceView Q) → IsAt ends waits m dev d
      → Does ends waits (ev_close_of m dev who) (map_err holder_errno (close_answer (λ a b. a == b) who d.site.monitor)) dev
      (at_site (with_monitor (after_close (λ a b. a == b) who) d.site) d)
  unfolding ev_close_of
  releases_agree m dev who d here = search (rules, station_here, at_changed)

-- ---- leaves

filter_map_is : {A B : Type 0} (f : A → B) (p : A → Bool) (q : B → Bool) (xs : List A) → ((x : A) → q (f x) ≡ p x) → filter q (map f xs) ≡ map f (filter p xs)
filter_map_is f p q [] same = refl
filter_map_is f p q (x ∷ xs) same = search (rules, filter_map_is f p q xs same)

filter_none : {A : Type 0} (p : A → Bool) (xs : List A) → find p xs ≡ None → filter (λ x. not (p x)) xs ≡ xs
filter_none p [] e = refl
filter_none p (x ∷ xs) e = search (rules, filter_none p xs)

-- the errno of a fault of joining, if the mask is a good one
pub agree : (gone a b c : Bool) (r : Option JoinFault) → first_refusal ((gone, fault.Gone) ∷ (false, fault.BadMask) ∷ member_faults a b c) ≡ r
    → first_refusal ((gone, ENODEV) ∷ join_refusals a b c) ≡ option_and_then errno_of r
agree gone a b c r e = search rules

module _ {Q : Type 0} (ends : Ghosts Q) (waits : Q → List (List ℕ)) where
  abbrev pub member : Membership Q → Member
  member m = member_with ends (waits m.tail) m

  abbrev pub station : DeviceView Q → Station
  station d = station_of ends waits d

  pub without_is : (n : ℕ) (ms : List (Membership Q)) → without n (map member ms) ≡ map member (without_of n ms)
  without_is n ms = filter_map_is member (λ (m : Membership Q). not (m.number == n)) (λ (x : Member). not (is_seat_of n x)) ms (λ m. refl)

  -- what the member of that number lost
  pub lost_told : (n : ℕ) (ms : List (Membership Q))
      → lost_by n (map member ms) ≡ option_map ends.lost (option_map (λ (m : Membership Q). m.tail) (membership_of n ms))
  lost_told n [] = refl
  lost_told n (m ∷ ms) = search (rules, lost_told n ms)

  lost_here : (n : ℕ) (r : Option Q) (ms : List (Membership Q)) → option_map (λ (m : Membership Q). m.tail) (membership_of n ms) ≡ r
      → option_map ends.lost r ≡ lost_by n (map member ms)
  lost_here n r ms e = ap (λ (o : Option Q). option_map ends.lost o) (sym e) ∙ sym (lost_told n ms)

  window_first : (n : ℕ) (d : DeviceView Q)
      → station_after_leave n (station d) ≡ (let st : Station =
      record (station d) { totals = with_left (lost_by n (map member d.standing.members)) d.totals; members = without n (map member d.standing.members) } in st)
  window_first n d = search rules

  pub left_is : (n : ℕ) (r : Option Q) (d d' : DeviceView Q) (s s' : State) → LeavesDevice ends n r d d' s s'
      → (option_map ends.lost r ≡ lost_by n (station d).members) × (station_after_leave n (station d) ≡ station d')
  left_is n None d d' s s' j =
      let told : option_map ends.lost None ≡ lost_by n (map member d.standing.members)
      = lost_here n None d.standing.members (ap (λ (o : Option (Membership Q)). option_map (λ (m : Membership Q). m.tail) o) j.0) in
      let same : without n (map member d.standing.members) ≡ map member d.standing.members
      =
      without_is n d.standing.members
      ∙ ap (λ (ms : List (Membership Q)). map member ms) (filter_none (λ (m : Membership Q). m.number == n) d.standing.members j.0) in (
        told,
        window_first n d
            ∙ ap (λ (o : Option ℕ). (let st : Station =
            record (station d) { totals = with_left o d.totals; members = without n (map member d.standing.members) } in st)) (sym told)
            ∙ ap (λ (ms : List Member). (let st : Station = record (station d) { members = ms } in st)) same
            ∙ ap station (sym j.1),
      )
  left_is n (Some tail) d d' s s' j =
      let told : option_map ends.lost (Some tail) ≡ lost_by n (map member d.standing.members) = lost_here n (Some tail) d.standing.members j.0 in (
        told,
        window_first n d
            ∙ ap (λ (o : Option ℕ). (let st : Station =
            record (station d) { totals = with_left o d.totals; members = without n (map member d.standing.members) } in st)) (sym told)
            ∙ ap (λ (ms : List Member). (let st : Station = record (station d) { totals = with_lost (ends.lost tail) d.totals; members = ms } in st))
            (without_is n d.standing.members)
            ∙ ap station (sym j.1),
      )

  pub leaves_agree : (front : Front) (m : Machine) (dev n : ℕ) (r : Option Q) (d d' : DeviceView Q) (s s' : State) → LeavesDevice ends n r d d' s s'
      → IsAt ends waits m dev d → kind_at front dev ≡ Input
      → (option_map ends.lost r ≡ lost_by n (station d).members) × IsAt ends waits (machine_after_close front m dev n) dev d'
  unfolding machine_after_close
  leaves_agree front m dev n r d d' s s' j here input = search (rules, left_is, at_left, at_changed)

  -- ---- joins

  pub masks_are : (ms : List (Membership Q)) → plain_masks (map member ms) ≡ masks_of ms
  masks_are [] = refl
  masks_are (m ∷ ms) = ap (λ (xs : List ℕ). m.mask.bits ∷ xs) (masks_are ms)

  refusals_are : (front : Front) (m : Machine) (d : DeviceView Q) (mask : ℕ) (s : State) (r : Option JoinFault) → is_bad_mask d.standing.shape mask ≡ false
      → SamePlaces front m d s
      → first_refusal (join_faults d mask (Some s)) ≡ r
      → first_refusal (open_refusals front m.stations Input (own_host (station d) d.standing.shape mask (plain_masks (station d).members)) (station d))
      ≡ option_and_then errno_of r
  refusals_are front m d mask s r good places e = search (rules, masks_are, agree)

  -- the device with another member
  pub joined_is : (mask : Mask) (tail : Q) (d : DeviceView Q) → IsNewEnd ends waits tail
      → station_after_join mask.bits (ends.capacity tail) false None (station d) ≡ station (device_joined mask tail d)
  joined_is mask tail d fresh = rw (map-append member d.standing.members, fresh.none, fresh.unlost, empty_map member d.standing.members) refl

  open_is : (front : Front) (m : Machine) (dev mask cap : ℕ) (d : DeviceView Q) (r : Option Errno) → IsAt ends waits m dev d
      → kind_at front dev ≡ Input → shape_at front dev ≡ d.standing.shape
      → first_refusal (open_refusals front m.stations Input (own_host (station d) d.standing.shape mask (plain_masks (station d).members)) (station d))
      ≡ r
      → open_of front m dev mask cap false ≡ unless_made (all_joined front dev (station_after_join mask cap false None)) m (unless_refused d.standing.next r)
  unfolding open_of
  open_is front m dev mask cap d r here input shaped e = rw (station_here m dev (station d) here, input, shaped, e) refl

  stated : (f : JoinFault) (o : Option JoinFault) → IsRefusal f o → option_and_then errno_of o ≡ errno_of f
  stated f o e = search rules

  refused_is : (o : CallResult ℕ) (m : Machine) (dev next : ℕ) (change : Machine → Machine) (d d' : DeviceView Q) (r : Option Errno)
      → IsAt ends waits m dev d → d' ≡ d
      → o ≡ unless_made change m (unless_refused next r) → IsRefused ends waits o m r dev d'
  refused_is o m dev next change d d' r here same e = search rules

  pub joins_agree : (front : Front) (m : Machine) (dev : ℕ) (mask : Mask) (tail : Q) (r : Result MemberNumber (JoinRefused Q)) (d d' : DeviceView Q)
      (s s' : State)
      → JoinsDevice mask tail r d d' s s' → IsAt ends waits m dev d → kind_at front dev ≡ Input → shape_at front dev ≡ d.standing.shape
      → is_bad_mask d.standing.shape mask.bits ≡ false → SamePlaces front m d s → IsNewEnd ends waits tail
      → IsJoined ends waits (open_of front m dev mask.bits (ends.capacity tail) false) m r dev d'
  joins_agree front m dev mask tail (Ok x) d d' s s' j here input shaped good places fresh =
      let o = open_is front m dev mask.bits (ends.capacity tail) d None here input shaped (refusals_are front m d mask.bits s None good places j.0) in
      record {
        answered = ap (λ (y : CallResult ℕ). y.answer) o ∙ ap (λ (n : ℕ). (let r : Result ℕ Errno = Ok n in r)) (sym j.1);
        device = search (rules, at_joined, joined_is);
      }
  joins_agree front m dev mask tail (Err x) d d' s s' j here input shaped good places fresh =
      let refusal = first_refusal (join_faults d mask.bits (Some s)) in
      let o =
      open_is front m dev mask.bits (ends.capacity tail) d (errno_of x.fault) here input shaped
      (refusals_are front m d mask.bits s refusal good places refl ∙ stated x.fault refusal j.0) in
      refused_is (open_of front m dev mask.bits (ends.capacity tail) false) m dev d.standing.next
      (all_joined front dev (station_after_join mask.bits (ends.capacity tail) false None)) d d' (errno_of x.fault) here j.2 o

  -- ---- places

  placed_more : (n a : ℕ) (ps : List Place) → holds_place n (with_place n a ps) ≡ true
  placed_more n a [] = let own : (n == n) ≡ true = grind (arith, nat_tests) in rw own refl
  placed_more n a (p ∷ ps) = search (rules, placed_more n a ps)

  placed_none : (n : ℕ) (ps : List Place) → holds_place n (without_place n ps) ≡ false
  placed_none n [] = refl
  placed_none n (p ∷ ps) = search (rules, placed_none n ps)

  attached_is : (t : ℕ) (d : DeviceView Q) → d.site.trigger ≡ Some t → is_attached t (attachment_of (station d)) ≡ not (is_empty d.standing.members)
  attached_is t d own = let same : (t == t) ≡ true = grind (arith, nat_tests) in rw (own, same, empty_map member d.standing.members) refl

  -- if it held a place exactly while it had a member
  join_placed : (b : Bool) (n a : ℕ) (s : State) → holds_place n s.attached ≡ not b
      → holds_place n (cond b (record s { attached = with_place n a s.attached }) s).attached ≡ true
  join_placed b n a s h = search (rules, placed_more)

  leave_placed : (b c : Bool) (n : ℕ) (s : State) → holds_place n s.attached ≡ not b → (c ≡ false → b ≡ false)
      → holds_place n (cond c (record s { attached = without_place n s.attached }) s).attached ≡ not c
  leave_placed b c n s h fewer = search (rules, placed_none)

  fewer_members : (n : ℕ) (ms : List (Membership Q)) → is_empty (without_of n ms) ≡ false → is_empty ms ≡ false
  fewer_members n ms e = search rules

  join_places : (t : ℕ) (mask : Mask) (tail : Q) (r : Result MemberNumber (JoinRefused Q)) (d d' : DeviceView Q) (s s' : State) → d.site.trigger ≡ Some t
      → IsPlaced ends waits t d s
      → JoinsDevice mask tail r d d' s s' → IsPlaced ends waits t d' s'
  join_places t mask tail r d d' s s' own placed j = search (rules, join_placed)

  leave_places : (t n : ℕ) (r : Option Q) (d d' : DeviceView Q) (s s' : State) → d.site.trigger ≡ Some t → IsPlaced ends waits t d s
      → LeavesDevice ends n r d d' s s' → IsPlaced ends waits t d' s'
  leave_places t n None d d' s s' own placed j = rw (j.1, j.2) placed
  leave_places t n (Some tail) d d' s s' own placed j =
      let trigger : d'.site.trigger ≡ Some t = ap (λ (v : DeviceView Q). v.site.trigger) j.1 ∙ own in
      let number : d'.number ≡ d.number = ap (λ (v : DeviceView Q). v.number) j.1 in
      let members : d'.standing.members ≡ without_of n d.standing.members = ap (λ (v : DeviceView Q). v.standing.members) j.1 in
      ap (λ (x : State). holds_place d'.number x.attached) j.2
      ∙ leave_placed (is_empty d.standing.members) (is_empty d'.standing.members) d'.number s
      (ap (λ (k : ℕ). holds_place k s.attached) number ∙ placed ∙ attached_is t d own)
      (λ e. fewer_members n d.standing.members (ap (λ (ms : List (Membership Q)). is_empty ms) (sym members) ∙ e))
      ∙ sym (attached_is t d' trigger)

  pub places_agree : (t n : ℕ) (mask : Mask) (tail : Q) (r : Result MemberNumber (JoinRefused Q)) (given : Option Q) (d d' : DeviceView Q) (s s' : State)
      → d.site.trigger ≡ Some t → IsPlaced ends waits t d s
      → (JoinsDevice mask tail r d d' s s' → IsPlaced ends waits t d' s')
      × (LeavesDevice ends n given d d' s s' → IsPlaced ends waits t d' s')
  places_agree t n mask tail r given d d' s s' own placed = search (rules, join_places, leave_places)
