-- What the exchange of a member's mask makes of a device's members. (Kernel, sysfs-bus-iio: a buffer's mask can't change while
-- it is enabled; that a member exchanges it in one step is this project's own.)
use Rattle.std.specs.Prelude.{◌≡◌, ℕ, ◌==◌, not, List, [], ◌∷◌, map, Option, option_map, Some, None, Result, Ok, Err, if◌then◌else◌}
use Rattle.iio_base.specs.Refusals.{first_refusal}
use Rattle.iio_mask.specs.declared.Mask.{Mask}
use Rattle.iio_device.specs.declared.membership.Membership.{Membership}
use Rattle.iio_device.specs.declared.roster.RemaskFault.{RemaskFault}
use Rattle.iio_device.specs.declared.roster.RemaskFault.TheVariants.{Mem, NoUnion, NotLive}
use Rattle.iio_device.specs.declared.roster.RemaskRefused.{RemaskRefused}
use Rattle.iio_device.specs.Active.{active_beside, is_without_union}
use Rattle.iio_device.specs.Members.{is_live, masks_of, member_of, without}
use Rattle.iio_device.specs.Roster.{Standing}

-- a refusal is the stated one, or that memory ran out if none is stated
abbrev pub IsRemaskRefusal : RemaskFault → Option RemaskFault → Type 0
IsRemaskRefusal fault (Some stated) = fault ≡ stated
IsRemaskRefusal fault None = fault ≡ Mem

module _ {Q : Type 0} where
  -- the mask that the sensor would be asked under if the member of that number had that mask: the others keep theirs
  abbrev pub active_under : ℕ → ℕ → Standing Q → Option ℕ
  active_under number mask s = active_beside s.shape (masks_of (without number s.members)) mask

  -- why the member of that number can't get that mask, except that memory ran out
  abbrev pub remask_fault : ℕ → ℕ → Standing Q → Option RemaskFault
  remask_fault number mask s = first_refusal (
      (not (is_live number s.members), NotLive)
      ∷ (is_without_union s.shape (masks_of (without number s.members)) mask, NoUnion)
      ∷ [])

  -- a member begins anew, under another mask and with another queue's end, after `captures` captures
  abbrev pub begun_anew : Mask → ℕ → Q → Membership Q → Membership Q
  begun_anew mask captures tail m = record m { mask = mask; joined = captures; tail = tail }

  -- the member of that number begins anew, and the others stay as they are, each at its place
  abbrev pub remasked : ℕ → Mask → ℕ → Q → List (Membership Q) → List (Membership Q)
  remasked number mask captures tail members =
      map (λ (m : Membership Q). if m.number == number then begun_anew mask captures tail m else m) members

  -- the device's members after the exchange, under their active mask
  abbrev pub after_remask : ℕ → Mask → Q → Standing Q → Standing Q
  after_remask number mask tail s =
      record s { active = active_under number mask.bits s; members = remasked number mask s.captures tail s.members }

  -- the member of that number begins anew under another mask, and gives its old queue's end back; or it is refused, the new end
  -- is given back, and nothing changes
  abbrev pub Remasks : ℕ → Mask → Q → Result Q (RemaskRefused Q) → Standing Q → Standing Q → Type 0
  Remasks number mask tail (Ok before) old new =
      (remask_fault number mask.bits old ≡ None)
      × (option_map (λ (m : Membership Q). m.tail) (member_of number old.members) ≡ Some before)
      × (new ≡ after_remask number mask tail old)
  Remasks number mask tail (Err refused) old new =
      IsRemaskRefusal refused.fault (remask_fault number mask.bits old) × (refused.tail ≡ tail) × (new ≡ old)
