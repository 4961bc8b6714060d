-- What joins, leaves and captures make of a device's members. (Kernel, driver-api/iio: a device has one active mask for all
-- of its buffers. The numbers of members and of captures are this project's own.)
use Rattle.std.specs.Prelude.{◌≡◌, ℕ, ℤ, ◌+◌, ◌-◌, ◌^◌, ◌==◌, Bool, true, false, List, [], ◌∷◌, ◌++◌, length, map, is_none, Option, option_map, Some, None, Result, Ok, Err}
use Rattle.std.specs.List.{AllZip}
use Rattle.std.specs.Option.{option_map_or}
use Rattle.iio_base.specs.Refusals.{first_refusal}
use Rattle.iio_mask.specs.declared.Mask.{Mask}
use Rattle.iio_layout.specs.Layout.{scan_size}
use Rattle.iio_layout.specs.Scan.{scan_of}
use Rattle.iio_layout.specs.Shape.{ShapeRecord}
use Rattle.iio_kfifo.specs.Queue.{Queue}
use Rattle.iio_kfifo.specs.declared.tail.Tail.{Ghosts}
use Rattle.iio_sensor.specs.declared.sensor.Fault.{Fault}
use Rattle.iio_device.specs.declared.membership.Membership.{Membership}
use Rattle.iio_device.specs.declared.roster.JoinFault.{JoinFault}
use Rattle.iio_device.specs.declared.roster.JoinFault.TheVariants.{Mem}
use Rattle.iio_device.specs.declared.roster.JoinRefused.{JoinRefused}
use Rattle.iio_device.specs.Groups.{GroupRecord, remade}
use Rattle.iio_device.specs.Active.{active_for, active_beside}
use Rattle.iio_device.specs.Joining.{member_faults}
use Rattle.iio_device.specs.Members.{Drains, DrainsScans, MemberId, WasOffered, is_live_under, masks_of, member_of, without}

-- a device's members, as a caller sees them; there is no active mask if there is no member
pub record Standing (Q : Type 0) : Type 0 where
  pub shape : ShapeRecord
  pub active : Option ℕ
  pub captures : ℕ
  pub next : ℕ
  pub members : List (Membership Q)

-- a refusal is the stated one, or that memory ran out if none is stated
abbrev pub IsRefusal : JoinFault → Option JoinFault → Type 0
IsRefusal fault (Some stated) = fault ≡ stated
IsRefusal fault None = fault ≡ Mem

module _ {Q : Type 0} where
  -- no member, and no capture yet
  abbrev pub nobody : ShapeRecord → Standing Q
  nobody shape = record { shape = shape; active = None; captures = 0; next = 0; members = [] }

  -- the mask that the sensor would be asked under with another member, of that mask
  abbrev pub active_with : ℕ → Standing Q → Option ℕ
  active_with mask s = active_beside s.shape (masks_of s.members) mask

  -- why a member of that mask is refused, except that memory ran out; members know no trigger
  abbrev pub join_fault : ℕ → Standing Q → Option JoinFault
  join_fault mask s = first_refusal (member_faults false (is_none (active_with mask s)) (s.next == 2 ^ 64 - 1))

  -- the member that has just joined, which is the last one
  abbrev pub newcomer : Mask → Q → Standing Q → Membership Q
  newcomer mask tail s = record { number = s.next; mask = mask; joined = s.captures; tail = tail }

  -- the members after a joining
  abbrev pub after_join : Mask → Q → Standing Q → Standing Q
  after_join mask tail s = record s { active = active_with mask.bits s; next = s.next + 1; members = s.members ++ newcomer mask tail s ∷ [] }

  -- a member joins, with the next number; or it is refused, its queue's end is given back, and nothing changes
  abbrev pub Joins : Mask → Q → Result ℕ (JoinRefused Q) → Standing Q → Standing Q → Type 0
  Joins mask tail (Ok number) old new = (join_fault mask.bits old ≡ None) × (number ≡ old.next) × (new ≡ after_join mask tail old)
  Joins mask tail (Err refused) old new = IsRefusal refused.fault (join_fault mask.bits old) × (refused.tail ≡ tail) × (new ≡ old)

  -- after a leaving the members of other numbers stay, under their own active mask
  abbrev pub after_leave : ℕ → Standing Q → Standing Q
  after_leave number s = record s { active = active_for s.shape (masks_of (without number s.members)); members = without number s.members }

  -- the member of that number leaves, and its queue's end is given back; if there is no such member, nothing changes
  abbrev pub Leaves : ℕ → Option Q → Standing Q → Standing Q → Type 0
  Leaves number None old new = (member_of number old.members ≡ None) × (new ≡ old)
  Leaves number (Some tail) old new = (option_map (λ (m : Membership Q). m.tail) (member_of number old.members) ≡ Some tail) × (new ≡ after_leave number old)

  -- after a capture, which is counted, the members are these
  abbrev pub with_capture : List (Membership Q) → Standing Q → Standing Q
  with_capture members s = record s { captures = s.captures + 1; members = members }

  -- the member of that number changes as `R` says, and the others stay
  pub record ChangesOne (number : ℕ) (R : Membership Q → Membership Q → Type 0) (old new : List (Membership Q)) : Type 0 where
    pub before : List (Membership Q)
    pub member : Membership Q
    pub changed : Membership Q
    pub after : List (Membership Q)
    pub was : old ≡ before ++ member ∷ after
    pub is : new ≡ before ++ changed ∷ after
    pub found : member_of number old ≡ Some member
    pub moved : R member changed

  -- each member is offered its own scan of a capture, once, and the capture is counted; if the ask failed, nothing changes
  abbrev pub Captures : Ghosts Q → List ℤ → ℤ → Result ℕ Fault → Standing Q → Standing Q → Type 0
  Captures ends values moment (Err fault) old new = new ≡ old
  Captures ends values moment (Ok count) old new =
      (count ≡ length old.members)
      × (new ≡ with_capture new.members old)
      × AllZip (λ (a b : Membership Q). WasOffered ends (scan_of old.shape a.mask.bits values moment) a b) old.members new.members

-- whether the member of that number has scans of that size
abbrev pub is_size_of : ℕ → ℕ → Standing Queue → Bool
is_size_of number size s = option_map_or (λ (m : Membership Queue). size == scan_size s.shape m.mask.bits) (member_of number s.members) false

-- a scan is moved out of the queue of the member of that number; if there is no such member, or the room has another size,
-- nothing changes
abbrev pub Takes : ℕ → Option Bool → (out out' : List ℕ) → Standing Queue → Standing Queue → Type 0
Takes number None out out' old new = (is_size_of number (length out) old ≡ false) × (new ≡ old) × (out' ≡ out)
Takes number (Some given) out out' old new =
    (is_size_of number (length out) old ≡ true)
    × (new ≡ record old { members = new.members })
    × ChangesOne number (Drains given out out') old.members new.members

-- the oldest scans, at most `most`, are moved out of the queue of that member; if it isn't there, nothing changes
abbrev pub TakesScans : MemberId → (most : ℕ) → Option ℕ → (before after : List ℕ) → Standing Queue → Standing Queue → Type 0
TakesScans id most None before after old new = (is_live_under id.number id.mask old.members ≡ false) × (new ≡ old) × (after ≡ before)
TakesScans id most (Some count) before after old new =
    (is_live_under id.number id.mask old.members ≡ true)
    × (new ≡ record old { members = new.members })
    × ChangesOne id.number (DrainsScans most count before after) old.members new.members

-- the groups, with another one at the end if there is one to add
abbrev pub with_group : Option GroupRecord → List GroupRecord → List GroupRecord
with_group None groups = groups
with_group (Some g) groups = groups ++ g ∷ []

-- the tables are made again if there is an active mask
abbrev pub remade_for : ShapeRecord → Option Mask → List GroupRecord → List GroupRecord
remade_for shape None groups = groups
remade_for shape (Some active) groups = map (remade shape active.bits) groups
