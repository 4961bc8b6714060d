-- An exchange of a mask in both views.
use Rattle.std.proofs.Common.{◌≡◌, ℕ, Bool, false, List, [], ◌∷◌, map, length, Option, Some, None, IfSome, option_map, Result, Ok, Err, refl, sym, ap, ◌∙◌, arith, rules}
use Rattle.std.proofs.lemmas.Grind.{common_steps}
use Rattle.std.specs.Prelude.{not, is_none, option_and_then}
use Rattle.std.specs.Option.{option_map_or}
use Rattle.iio_base.specs.Refusals.{first_refusal, unless_refused}
use Rattle.iio_text.specs.declared.errors.Errno.{Errno}
use Rattle.iio_text.specs.declared.errors.Errno.TheVariants.{EBADF, EINVAL, ENODEV}
use Rattle.iio_mask.specs.declared.Mask.{Mask}
use Rattle.iio_trigger.specs.Trigger.{State}
use Rattle.iio_kfifo.specs.declared.tail.Tail.{Ghosts}
use Rattle.iio_device.specs.declared.membership.Membership.{Membership}
use Rattle.iio_device.specs.declared.roster.RemaskFault.{RemaskFault}
use Rattle.iio_device.specs.declared.roster.RemaskFault.TheVariants as fault
use Rattle.iio_device.specs.declared.roster.RemaskRefused.{RemaskRefused}
use Rattle.iio_device.specs.Active.{is_without_union}
use Rattle.iio_device.specs.Device.{DeviceView, RemasksDevice, is_bad_mask, remask_faults}
use Rattle.iio_device.specs.Members.{is_live, masks_of, member_of as membership_of, without as without_of}
use Rattle.iio_device.specs.Remasking.{IsRemaskRefusal, remasked as remasked_members}
use Rattle.iio_device.specs.Totals.{with_left, with_lost}
use Rattle.iio_core.specs.Calls.{CallResult, remask_of, remask_refusals, station_after_remask, unless, with_mask}
use Rattle.iio_core.specs.Front.{Front, shape_at}
use Rattle.iio_core.specs.Machine.{Machine, Member, MemberId, Station, lost_by, masks_of as plain_masks, member_in, queue_of, scans_in, without}
use Rattle.iio_core.specs.Faults.{remask_errno}
use Rattle.iio_core.specs.Devices.{IsAt, IsRefused, IsRemasked}
use Rattle.iio_core.specs.DeviceLaw.{IsNewEnd, IsPlaced, IsSeatAt}
use Rattle.iio_core.proofs.DeviceLaws.{at_changed, empty_map, lost_told, masks_are, member, station, station_here, without_is}

-- the errno of a fault of an exchange of a mask, if the mask is a good one
agree : (gone dead without_union : Bool) (r : Option RemaskFault)
    → first_refusal ((gone, fault.Gone) ∷ (dead, fault.NotLive) ∷ (false, fault.BadMask) ∷ (without_union, fault.NoUnion) ∷ []) ≡ r
    → first_refusal ((gone, ENODEV) ∷ (dead, EBADF) ∷ (without_union, EINVAL) ∷ []) ≡ option_and_then remask_errno r
agree gone d u r e = search rules

-- a member is live if one of its number is found
live_found : {Q : Type 0} (n : ℕ) (ms : List (Membership Q)) → is_none (membership_of n ms) ≡ not (is_live n ms)
live_found n [] = refl
live_found n (m ∷ ms) = search (rules, live_found n ms)

scans_are : (id : MemberId) (xs : List Member) → scans_in id xs ≡ option_map_or (λ (x : Member). x.scans) (member_in id xs) []
scans_are id [] = refl
scans_are id (x ∷ xs) = search (rules, scans_are id xs)

module _ {Q : Type 0} (ends : Ghosts Q) (waits : Q → List (List ℕ)) where
  abbrev told : Membership Q → Member
  told m = member ends waits m

  abbrev seen : DeviceView Q → Station
  seen d = station ends waits d

  abbrev Knows : MemberId → List (Membership Q) → Type 0
  Knows id ms = IfSome (membership_of id.number ms) (λ (m : Membership Q). m.mask.bits ≡ id.mask)

  -- the member that a seat finds is that of its number
  found_is : (id : MemberId) (ms : List (Membership Q)) → Knows id ms → member_in id (map told ms) ≡ option_map told (membership_of id.number ms)
  found_is id [] knows = refl
  found_is id (m ∷ ms) knows = search (rules, found_is id ms)

  -- the members after that of the number began anew
  members_are : (n : ℕ) (mask : Mask) (captures : ℕ) (tail : Q) (ms : List (Membership Q)) → IsNewEnd ends waits tail
      → map (with_mask n mask.bits (ends.capacity tail)) (map told ms) ≡ map told (remasked_members n mask captures tail ms)
  members_are n mask captures tail [] fresh = refl
  members_are n mask captures tail (m ∷ ms) fresh = search (rules, members_are n mask captures tail ms fresh)

  -- the device after the exchange
  pub remasked_is : (id : MemberId) (mask : Mask) (tail before : Q) (d d' : DeviceView Q) → RemasksDevice ends id.number mask tail (Ok before) d d'
      → IsNewEnd ends waits tail
      → station_after_remask id.number mask.bits (ends.capacity tail) (seen d) ≡ seen d'
  remasked_is id mask tail before d d' j fresh =
      let gone : lost_by id.number (map told d.standing.members) ≡ Some (ends.lost before)
      = lost_told ends waits id.number d.standing.members ∙ ap (λ (o : Option Q). option_map ends.lost o) j.1 in
      let masked : List Member = map (with_mask id.number mask.bits (ends.capacity tail)) (map told d.standing.members) in
      ap (λ (o : Option ℕ). (let st : Station = record (seen d) { totals = with_left o d.totals; members = masked } in st)) gone
      ∙ ap (λ (ms : List Member). (let st : Station = record (seen d) { totals = with_lost (ends.lost before) d.totals; members = ms } in st))
      (members_are id.number mask d.standing.captures tail d.standing.members fresh)
      ∙ ap seen (sym j.2)

  -- how many scans waited
  pub waited_is : (id : MemberId) (before : Q) (ms : List (Membership Q)) → Knows id ms
      → option_map (λ (m : Membership Q). m.tail) (membership_of id.number ms) ≡ Some before
      → scans_in id (map told ms) ≡ waits before
  waited_is id before ms knows e = search (rules, scans_are, found_is)

  pub refusals_are : (id : MemberId) (mask : ℕ) (d : DeviceView Q) (r : Option RemaskFault) → is_bad_mask d.standing.shape mask ≡ false
      → Knows id d.standing.members
      → first_refusal (remask_faults d id.number mask) ≡ r → first_refusal (remask_refusals d.standing.shape (seen d) id mask) ≡ option_and_then remask_errno r
  refusals_are id mask d r good knows e =
      let here : first_refusal ((not d.site.plugged, fault.Gone) ∷ (not (is_live id.number d.standing.members), fault.NotLive) ∷ (false, fault.BadMask)
      ∷ (is_without_union d.standing.shape (masks_of (without_of id.number d.standing.members)) mask, fault.NoUnion) ∷ []) ≡ r
      = rw good at e in
      let dead : is_none (member_in id (map told d.standing.members)) ≡ not (is_live id.number d.standing.members)
      =
      ap (λ (o : Option Member). is_none o) (found_is id d.standing.members knows) ∙ none_map (membership_of id.number d.standing.members)
      ∙ live_found id.number d.standing.members in
      let others : plain_masks (without id.number (map told d.standing.members)) ≡ masks_of (without_of id.number d.standing.members)
      =
      ap plain_masks (without_is ends waits id.number d.standing.members)
      ∙ masks_are ends waits (without_of id.number d.standing.members) in
      rw (dead, others) (agree (not d.site.plugged) (not (is_live id.number d.standing.members))
      (is_without_union d.standing.shape (masks_of (without_of id.number d.standing.members)) mask) r here)
    where
      none_map : (o : Option (Membership Q)) → is_none (option_map told o) ≡ is_none o
      none_map o = search rules

  remask_is : (front : Front) (m : Machine) (dev : ℕ) (id : MemberId) (mask scans : ℕ) (d : DeviceView Q) (r : Option Errno) → IsAt ends waits m dev d
      → shape_at front dev ≡ d.standing.shape
      → first_refusal (remask_refusals d.standing.shape (seen d) id mask) ≡ r
      → remask_of front m dev id mask scans
      ≡ unless (station_after_remask id.number mask scans) dev m (unless_refused (length (scans_in id (map told d.standing.members))) r)
  unfolding remask_of queue_of
  remask_is front m dev id mask scans d r here shaped e = rw (station_here m dev (seen d) here, shaped, e) refl

  stated : (f : RemaskFault) (o : Option RemaskFault) → IsRemaskRefusal f o → option_and_then remask_errno o ≡ remask_errno f
  stated f o e = search rules

  refused_is : (o : CallResult ℕ) (m : Machine) (dev n : ℕ) (change : Station → Station) (d d' : DeviceView Q) (r : Option Errno)
      → IsAt ends waits m dev d → d' ≡ d
      → o ≡ unless change dev m (unless_refused n r) → IsRefused ends waits o m r dev d'
  refused_is o m dev n change d d' r here same e = search rules

  pub remasks_agree : (front : Front) (m : Machine) (dev : ℕ) (id : MemberId) (mask : Mask) (tail : Q) (r : Result Q (RemaskRefused Q)) (d d' : DeviceView Q)
      → RemasksDevice ends id.number mask tail r d d' → IsAt ends waits m dev d → shape_at front dev ≡ d.standing.shape
      → is_bad_mask d.standing.shape mask.bits ≡ false → IsSeatAt id d → IsNewEnd ends waits tail
      → IsRemasked ends waits (remask_of front m dev id mask.bits (ends.capacity tail)) m r dev d'
  remasks_agree front m dev id mask tail (Ok before) d d' j here shaped good knows fresh =
      let o = remask_is front m dev id mask.bits (ends.capacity tail) d None here shaped (refusals_are id mask.bits d None good knows j.0) in
      record {
        answered = search (rules, waited_is);
        device = grind (arith, common_steps, at_changed, remasked_is);
      }
  remasks_agree front m dev id mask tail (Err x) d d' j here shaped good knows fresh =
      let refusal = first_refusal (remask_faults d id.number mask.bits) in
      let o =
      remask_is front m dev id mask.bits (ends.capacity tail) d (remask_errno x.fault) here shaped
      (refusals_are id mask.bits d refusal good knows refl ∙ stated x.fault refusal j.0) in
      refused_is (remask_of front m dev id mask.bits (ends.capacity tail)) m dev (length (scans_in id (map told d.standing.members)))
      (station_after_remask id.number mask.bits (ends.capacity tail)) d d' (remask_errno x.fault) here j.2 o

  -- ---- places

  pub remasks_stay : (t n : ℕ) (mask : Mask) (tail : Q) (r : Result Q (RemaskRefused Q)) (d d' : DeviceView Q) (s : State)
      → RemasksDevice ends n mask tail r d d' → IsPlaced ends waits t d s → IsPlaced ends waits t d' s
  remasks_stay t n mask tail r d d' s j placed = search (rules, empty_map)
