-- A REMASK at an input device.
use Rattle.std.proofs.Common.{◌≡◌, ℕ, true, false, List, [], map, length, Option, Some, None, IfSome, Result, Ok, Err, refl, sym, ap, subst, ◌∙◌, rules}
use Rattle.std.specs.Prelude.{is_none, option_and_then}
use Rattle.std.specs.Option.{option_map_or}
use Rattle.iio_base.specs.Refusals.{first_refusal, unless_refused}
use Rattle.iio_text.specs.declared.errors.Errno.{Errno}
use Rattle.iio_text.specs.declared.errors.Errno.TheVariants.{EBADF}
use Rattle.iio_mask.specs.declared.Mask.{Mask}
use Rattle.iio_kfifo.specs.Queue.{Queue}
use Rattle.iio_device.specs.declared.membership.Membership.{Membership}
use Rattle.iio_device.specs.declared.roster.RemaskFault.{RemaskFault}
use Rattle.iio_device.specs.declared.roster.RemaskFault.TheVariants as fault
use Rattle.iio_device.specs.Ends.{queue_end}
use Rattle.iio_device.specs.Device.{DeviceView, RemasksDevice, is_bad_mask, remask_faults}
use Rattle.iio_device.specs.Members.{member_of as membership_of}
use Rattle.iiod_commands.specs.declared.iio.No.{No}
use Rattle.iiod_commands.specs.declared.iio.No.TheVariants.{Errno as NoErrno}
use Rattle.iio_core.specs.Calls.{remask_refusals, station_after_remask}
use Rattle.iio_core.specs.Machine.{Member, MemberId, member_in, scans_in}
use Rattle.iio_core.specs.Faults.{remask_errno}
use Rattle.iiod_commands.specs.No.{remask_no}
use Rattle.iio_core.specs.Devices.{queue_waits}
use Rattle.iio_core.proofs.DeviceRemasks.{refusals_are, remasked_is, waited_is}
use Rattle.iio_kinds.specs.Acting.{Acts, has_member}
use Rattle.iio_kinds.specs.Remasking.{remask_answer}
use Rattle.iio_kinds.specs.Station.{member_of, station_of}
use Rattle.iio_kinds.proofs.StandingLemmas.{standing}
use Rattle.iio_kinds.proofs.CallLemmas.{IsUnder, told_absent}

-- ---- refusals

module _ (id : MemberId) (mask : Mask) (scans : ℕ) (v v' : DeviceView Queue) where
  abbrev answer : Result ℕ Errno
  answer = remask_answer v.standing.shape (station_of v) id mask.bits

  refused_by : (e : Errno) → answer ≡ Err e → station_of v' ≡ station_of v
      → Acts (station_after_remask id.number mask.bits scans) answer (Err (NoErrno e)) (station_of v) (station_of v')
  refused_by e is same = rw is (refl, same)

  pub dead : v.site.plugged ≡ true → has_member id v.standing.members ≡ false → v' ≡ v
      → Acts (station_after_remask id.number mask.bits scans) answer (Err (NoErrno EBADF)) (station_of v) (station_of v')
  dead e none same =
      let absent : is_none (member_in id (map member_of v.standing.members)) ≡ true =
      none_by (member_in id (map member_of v.standing.members)) (told_absent (λ (x : Member). true) false id v.standing.members none) in
      refused_by EBADF (rw (e, absent) refl) (ap station_of same)
    where
      none_by : (o : Option Member) → option_map_or (λ (x : Member). true) o false ≡ false → is_none o ≡ true
      none_by o h = search rules

  abbrev Knows : Type 0
  Knows = IfSome (membership_of id.number v.standing.members) (λ (m : Membership Queue). m.mask.bits ≡ id.mask)

  pub knows_by : IsUnder id (membership_of id.number v.standing.members) → Knows
  knows_by under = search rules

  pub refusals : (r : Option RemaskFault) → is_bad_mask v.standing.shape mask.bits ≡ false → Knows → first_refusal (remask_faults v id.number mask.bits) ≡ r
      → first_refusal (remask_refusals v.standing.shape (station_of v) id mask.bits) ≡ option_and_then remask_errno r
  refusals r good knows e = refusals_are queue_end queue_waits id mask.bits v r good knows e

  pub faulty : (f : RemaskFault) (said : No) → is_bad_mask v.standing.shape mask.bits ≡ false → Knows
      → Err f ≡ unless_refused (tt {0}) (first_refusal (remask_faults v id.number mask.bits)) → said ≡ remask_no f → v' ≡ v
      → Acts (station_after_remask id.number mask.bits scans) answer (Err said) (station_of v) (station_of v')
  faulty f said good knows e is same =
      subst (λ (x : No). Acts (station_after_remask id.number mask.bits scans) answer (Err x) (station_of v) (station_of v')) (sym is)
      (by f (refusals (Some f) good knows (stated (first_refusal (remask_faults v id.number mask.bits)) f e)))
    where
      stated : (o : Option RemaskFault) (f : RemaskFault) → Err f ≡ unless_refused (tt {0}) o → o ≡ Some f
      stated o f e = search rules

      by : (f : RemaskFault) → first_refusal (remask_refusals v.standing.shape (station_of v) id mask.bits) ≡ remask_errno f
          → Acts (station_after_remask id.number mask.bits scans) answer (Err (remask_no f)) (station_of v) (station_of v')
      by f r = search rules

  -- the exchange is made
  pub done : (tail before : Queue) (n : ℕ) → is_bad_mask v.standing.shape mask.bits ≡ false → Knows → tail.scans ≡ [] → tail.lost ≡ 0 → tail.capacity ≡ scans
      → n ≡ length before.scans
      → RemasksDevice queue_end id.number mask tail (Ok before) v v'
      → Acts (station_after_remask id.number mask.bits scans) answer (Ok n) (station_of v) (station_of v')
  done tail before n good knows none unlost bounded is j =
      let passed : answer ≡ Ok (length (scans_in id (station_of v).members))
      = ap (λ (o : Option Errno). unless_refused (length (scans_in id (station_of v).members)) o) (refusals None good knows j.0) in
      let waited : scans_in id (station_of v).members ≡ before.scans = waited_is queue_end queue_waits id before v.standing.members knows j.1 in
      let after : station_after_remask id.number mask.bits tail.capacity (station_of v) ≡ station_of v'
      = remasked_is queue_end queue_waits id mask tail before v v' j (record { none = none; unlost = unlost }) in
      rw passed (
        ap (λ (q : List (List ℕ)). (let r : Result ℕ Errno = Ok (length q) in r)) waited ∙ ap (λ (k : ℕ). (let r : Result ℕ Errno = Ok k in r)) (sym is),
        sym after ∙ ap (λ (k : ℕ). station_after_remask id.number mask.bits k (station_of v)) bounded,
      )
