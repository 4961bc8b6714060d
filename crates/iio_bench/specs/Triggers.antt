-- The triggers and the devices that are attached to them. (Kernel, driver-api/iio: a device is attached to its trigger while
-- its buffer is enabled, and a poll calls each attached device once. Places and the count of missed polls are this project's
-- own.)
use Rattle.std.specs.Prelude.{◌≡◌, ℕ, suc, ◌≤◌, false, List, [], ◌∷◌, map, length, slice_get, Some, if◌then◌else◌}
use Rattle.iio_trigger.specs.declared.rows.Place.{Place}
use Rattle.iio_trigger.specs.Trigger.{State}
use Rattle.iio_desc.specs.declared.description.TriggerDesc.{TriggerDesc}
use Rattle.iio_desc.specs.declared.limits.TheConstants.{MAX_TRIGGERS, MAX_DEVICES}
use Rattle.iio_core.specs.Attached.{is_attached}
use Rattle.iio_core.specs.Machine.{Station, attachment_of}
use Rattle.iio_kinds.specs.Places.{has_in_hand}

-- the places of the devices that are attached to a trigger, in their order; `dev` is the first device's number
abbrev pub places_from : ℕ → ℕ → List Station → List Place
places_from dev trigger [] = []
places_from dev trigger (st ∷ sts) =
    if is_attached trigger (attachment_of st)
    then record { dev = dev; attachment = st.site.attachment } ∷ places_from (suc dev) trigger sts
    else places_from (suc dev) trigger sts

-- ---- what holds after every call

-- the places at a trigger are those of the devices that are attached to it, and no entry is in hand
pub record IsTrigger (trigger : ℕ) (stations : List Station) (s : State) : Type 0 where
  pub attached : s.attached ≡ places_from 0 trigger stations
  pub idle : has_in_hand s.outstanding ≡ false

-- there is a trigger for each one that is described, with its places
pub record IsBench (triggers : List TriggerDesc) (states : List State) (stations : List Station) : Type 0 where
  pub few : length triggers ≤ MAX_TRIGGERS
  pub devices : length stations ≤ MAX_DEVICES
  pub places : map (λ (s : State). s.places) states ≡ map (λ (t : TriggerDesc). t.places) triggers
  pub each : (trigger : ℕ) (s : State) → slice_get states trigger ≡ Some s → IsTrigger trigger stations s

-- each device's number is its place
abbrev pub IsNumbered : {D : Type 0} → (D → ℕ) → List D → Type 0
IsNumbered {D} number devices = (dev : ℕ) (d : D) → slice_get devices dev ≡ Some d → number d ≡ dev
