-- What holds of a device's members after every call.
use Rattle.std.specs.Prelude.{◌≡◌, IfSome, ℕ, ◌+◌, ◌*◌, ◌^◌, ◌<◌, ◌≤◌, ◌==◌, Bool, true, false, All, List, [], ◌∷◌, length, map, is_none, Option, option_map, unwrap_or}
use Rattle.std.specs.List.{IsDistinct}
use Rattle.iio_mask.specs.declared.Mask.{Mask}
use Rattle.iio_scan_type.specs.declared.TheConstants.{MAX_CHANNEL_SIZE}
use Rattle.iio_layout.specs.Active.{has_data}
use Rattle.iio_layout.specs.Layout.{scan_size}
use Rattle.iio_layout.specs.Shape.{ShapeRecord, count_of}
use Rattle.iio_kfifo.specs.declared.tail.Tail.{Ghosts}
use Rattle.iio_device.specs.declared.membership.Membership.{Membership}
use Rattle.iio_device.specs.Active.{active_for}
use Rattle.iio_device.specs.Members.{is_wanted, masks_of}
use Rattle.iio_device.specs.Groups.{GroupRecord, IsGroup, has_group}

abbrev pub is_nil : {A : Type 0} → List A → Bool
is_nil [] = true
is_nil (x ∷ xs) = false

abbrev pub bits_of : Option Mask → Option ℕ
bits_of mask = option_map (λ m. m.bits) mask

-- the size in bytes of a scan under the mask that the sensor is asked under, or under the empty mask if there is no member
pub record IsSize (shape : ShapeRecord) (active : Option Mask) (size : ℕ) : Type 0 where
  pub is : size ≡ scan_size shape (unwrap_or (bits_of active) 0)
  pub few : size ≤ MAX_CHANNEL_SIZE * count_of shape

-- room for the scan under any mask of the shape
abbrev pub HasRoom : ShapeRecord → List ℕ → Type 0
HasRoom shape room = MAX_CHANNEL_SIZE * count_of shape ≤ length room

-- each mask of a member has one group, each group has a member, and each table copies from the scan under the active mask
pub record AreGroups {Q : Type 0} (shape : ShapeRecord) (active : ℕ) (members : List (Membership Q)) (groups : List GroupRecord) : Type 0 where
  pub each : All (IsGroup shape active) groups
  pub there : All (λ (m : Membership Q). has_group groups m.mask.bits ≡ true) members
  pub used : All (λ (g : GroupRecord). is_wanted members g.mask ≡ true) groups
  pub apart : IsDistinct (λ a b. a == b) (map (λ (g : GroupRecord). g.mask) groups)

-- over any kind of queue's end; `ends` is what such an end tells, the ghost members of `Tail`
module _ {Q : Type 0} (ends : Ghosts Q) where
  -- a member: its number was given out, its mask is one of the shape and has a data channel, the number of captures since it
  -- joined or last got another mask is that of the scans taken in and lost, and its queue has the scan size of its mask
  pub record IsMember (shape : ShapeRecord) (captures next : ℕ) (m : Membership Q) : Type 0 where
    pub numbered : m.number < next
    pub below : m.mask.bits < 2 ^ count_of shape
    pub channel : has_data shape m.mask.bits ≡ true
    pub counted : m.joined + (ends.taken m.tail + ends.lost m.tail) ≡ captures
    pub sized : ends.size m.tail ≡ scan_size shape m.mask.bits

  pub record IsSound (shape : ShapeRecord) (active : Option Mask) (captures next : ℕ) (members : List (Membership Q)) (groups : List GroupRecord) : Type 0 where
    -- the active mask is the one for the members by the rule, and is one of the shape
    pub ruled : bits_of active ≡ active_for shape (masks_of members)
    pub below : IfSome active (λ mask. mask.bits < 2 ^ count_of shape)
    -- there is an active mask exactly if there is a member
    pub asked : is_none active ≡ is_nil members
    -- the members are counted in 32 bits
    pub few : length members < 2 ^ 32
    -- no two members have the same number
    pub numbers : IsDistinct (λ a b. a == b) (map (λ (m : Membership Q). m.number) members)
    pub each : All (IsMember shape captures next) members
    pub grouped : AreGroups shape (unwrap_or (bits_of active) 0) members groups
