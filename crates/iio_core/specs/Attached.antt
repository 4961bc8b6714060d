-- What triggers know of the devices. (Kernel, driver-api/iio: a device is attached to its trigger while its buffer is enabled,
-- and a poll calls each attached device once. Places are this project's own.)
use Rattle.std.specs.Prelude.{ℕ, ℤ, suc, ◌==◌, ◌&&◌, not, nat_lt, Bool, false, List, [], ◌∷◌, Option, Some, None, if◌then◌else◌}
use Rattle.std.specs.Option.{option_map_or}
use Rattle.iio_trigger.specs.Trigger.{Handed}
use Rattle.iio_device.specs.Site.{Site, is_empty}
use Rattle.iio_core.specs.Front.{Front, place_count}

-- a device as triggers know it: its trigger, whether it has a member, and the number of its attachment
pub record Attachment : Type 0 where
  pub trigger : Option ℕ
  pub is_used : Bool
  pub number : ℕ

abbrev pub attachment_by : {W M : Type 0} → Site W → List M → Attachment
attachment_by site members = record { trigger = site.trigger; is_used = not (is_empty members); number = site.attachment }

-- whether a device is attached to the trigger: it is as long as it has a member
abbrev pub is_attached : ℕ → Attachment → Bool
is_attached trigger a = option_map_or (λ t. t == trigger) a.trigger false && a.is_used

-- the number of devices that are attached to the trigger
abbrev pub attached_count : ℕ → List Attachment → ℕ
attached_count trigger [] = 0
attached_count trigger (a ∷ rest) = if is_attached trigger a then suc (attached_count trigger rest) else attached_count trigger rest

-- whether a device's trigger has no place for another device
abbrev pub has_no_place : Front → List Attachment → Option ℕ → Bool
has_no_place front devices None = false
has_no_place front devices (Some trigger) = not (nat_lt (attached_count trigger devices) (place_count front trigger))

-- an entry for each device that is attached, in the order of devices; `device` is the first one's number
abbrev pub entries_from : (device trigger : ℕ) → ℤ → List Attachment → List Handed
entries_from device trigger moment [] = []
entries_from device trigger moment (a ∷ rest) =
    if is_attached trigger a
    then record { dev = device; attachment = a.number; t = moment } ∷ entries_from (suc device) trigger moment rest
    else entries_from (suc device) trigger moment rest
