-- A member that joins a device of a bench, or is refused.
use Rattle.std.proofs.Common.{◌≡◌, ℕ, ◌-◌, ◌<◌, ◌^◌, Bool, true, false, List, ◌∷◌, map, Option, Some, None, Result, Ok, Err, sym, subst, arith, rules}
use Rattle.std.proofs.lemmas.Grind.{common_steps}
use Rattle.std.specs.Prelude.{not, is_none, option_and_then}
use Rattle.iio_base.specs.Refusals.{first_refusal}
use Rattle.iio_text.specs.declared.errors.Errno.TheVariants.{EBUSY, ENODEV}
use Rattle.iio_mask.specs.declared.Mask.{Mask}
use Rattle.iio_layout.specs.Active.{has_data}
use Rattle.iio_layout.specs.Shape.{ShapeRecord, count_of}
use Rattle.iio_desc.specs.Kind.{Input}
use Rattle.iio_kfifo.specs.Queue.{Queue}
use Rattle.iio_trigger.specs.Trigger.{State}
use Rattle.iio_device.specs.declared.membership.Membership.{Membership}
use Rattle.iio_device.specs.declared.roster.JoinFault.{JoinFault}
use Rattle.iio_device.specs.declared.roster.JoinFault.TheVariants as fault
use Rattle.iio_device.specs.Ends.{queue_end}
use Rattle.iio_device.specs.Active.{is_without_union}
use Rattle.iio_device.specs.Device.{DeviceView, has_no_place as has_no_place_for, is_bad_mask, is_full as is_full_view, join_faults}
use Rattle.iio_device.specs.Joining.{member_faults}
use Rattle.iio_device.specs.Members.{masks_of as masks_of_memberships}
use Rattle.iiod_commands.specs.declared.iio.No.{No}
use Rattle.iio_core.specs.Machine.{masks_of}
use Rattle.iio_core.specs.Faults.{errno_of}
use Rattle.iio_core.specs.Opening.{join_refusals}
use Rattle.iiod_commands.specs.No.{no_of}
use Rattle.iio_core.specs.Devices.{queue_waits}
use Rattle.iio_core.proofs.DeviceLaws.{agree, masks_are as plain_masks}
use Rattle.iio_kinds.specs.declared.seat.Seat.{Seat}
use Rattle.iio_kinds.specs.Acting.{KeepsCaptures}
use Rattle.iio_kinds.specs.Faults.{Hosts, HostsAny, JoinsAny, JoinsBy, any_refusals, faults_at, is_full as is_full_at, joining_of, lacks_place}
use Rattle.iio_kinds.specs.Station.{member_of, station_of}
use Rattle.iio_kinds.proofs.EmptyLemmas.{is_empty-map}

-- ---- the same refusals

masks_are : (ms : List (Membership Queue)) → masks_of (map member_of ms) ≡ masks_of_memberships ms
masks_are ms = plain_masks queue_end queue_waits ms

-- a mask within the shape that has a data channel
pub good_mask : (shape : ShapeRecord) (mask : ℕ) → mask < 2 ^ count_of shape → has_data shape mask ≡ true → is_bad_mask shape mask ≡ false
good_mask shape mask below channel = search rules

-- ---- an input device

module _ (states : List State) (d : DeviceView Queue) (mask : ℕ) (good : is_bad_mask d.standing.shape mask ≡ false) where
  pub input_refusals : (r : Option JoinFault) → first_refusal (faults_at states d mask) ≡ r
      → first_refusal (any_refusals (lacks_place d.number states d.site.trigger) Input d.standing.shape (station_of d) mask) ≡ option_and_then errno_of r
  input_refusals r e =
      let same : first_refusal ((not d.site.plugged, fault.Gone) ∷ (false, fault.BadMask)
      ∷ member_faults (is_none d.site.trigger) (is_without_union d.standing.shape (masks_of_memberships d.standing.members) mask) (is_full_at states d)) ≡ r
      = rw good at e in
      rw (masks_are d.standing.members, is_empty-map member_of d.standing.members)
      (agree (not d.site.plugged) (is_none d.site.trigger) (is_without_union d.standing.shape (masks_of_memberships d.standing.members) mask)
      (is_full_at states d) r same)

  refused_by : (f : JoinFault) → first_refusal (faults_at states d mask) ≡ Some f
      → HostsAny states Input d.number d.standing.shape (station_of d) mask (Err (no_of f))
  refused_by fault.Gone e = input_refusals (Some fault.Gone) e
  refused_by fault.BadMask e = input_refusals (Some fault.BadMask) e
  refused_by fault.NoTrigger e = input_refusals (Some fault.NoTrigger) e
  refused_by fault.NoUnion e = input_refusals (Some fault.NoUnion) e
  refused_by fault.NoPlace e = input_refusals (Some fault.NoPlace) e
  refused_by fault.Mem e = tt

  pub hosts_err : (f : JoinFault) (x : No) → x ≡ no_of f → Hosts states d mask (Err f)
      → HostsAny states Input d.number d.standing.shape (station_of d) mask (Err x)
  hosts_err f x is e = subst (λ (y : No). HostsAny states Input d.number d.standing.shape (station_of d) mask (Err y)) (sym is) (refused_by f e)

  pub hosts_ok : (trigger : ℕ) → Hosts states d mask (Ok trigger) → HostsAny states Input d.number d.standing.shape (station_of d) mask (Ok trigger)
  hosts_ok trigger h = (h.0, h.1, input_refusals None h.2)

-- if there is no refusal, there is no fault
none_back : (gone a b c : Bool) → first_refusal ((gone, ENODEV) ∷ (false, EBUSY) ∷ join_refusals a b c) ≡ None
    → first_refusal ((gone, fault.Gone) ∷ (false, fault.BadMask) ∷ member_faults a b c) ≡ None
none_back gone a b c e = search rules

pub may_join : (d : DeviceView Queue) (mask : ℕ) (s : State) → is_bad_mask d.standing.shape mask ≡ false
    → first_refusal (any_refusals (has_no_place_for d.number s) Input d.standing.shape (station_of d) mask) ≡ None
    → first_refusal (join_faults d mask (Some s)) ≡ None
may_join d mask s good e =
    rw good
    (none_back (not d.site.plugged) (is_none d.site.trigger) (is_without_union d.standing.shape (masks_of_memberships d.standing.members) mask)
    (is_full_view d (Some s))
    (rw (masks_are d.standing.members, is_empty-map member_of d.standing.members) at e))

pub joins_any : (mask : Mask) (capacity : ℕ) (r : Result Seat No) (d d' : DeviceView Queue) (s s' : State) → JoinsBy mask capacity r d d' s s'
    → JoinsAny (joining_of d.number d.standing.shape mask capacity false None) r (station_of d) (station_of d') s s'
joins_any mask capacity r d d' s s' j = grind (arith, common_steps)

pub joins_keep : (mask : Mask) (capacity : ℕ) (r : Result Seat No) (v v' : DeviceView Queue) (s s' : State) → JoinsBy mask capacity r v v' s s'
    → KeepsCaptures v v'
joins_keep mask capacity r v v' s s' j = search rules
