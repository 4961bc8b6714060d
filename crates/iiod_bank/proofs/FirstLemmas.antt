-- A hub while it is made: one device after another.
use Rattle.std.proofs.Common.{◌≡◌, ℕ, zero, suc, ◌+◌, ◌-◌, ◌≤◌, List, [], ◌∷◌, ◌++◌, map, length, replicate, slice_get, Option, Some, refl, sym, ap, ◌∙◌, arith, rules}
use Rattle.std.proofs.lemmas.Grind.{common_steps}
use Rattle.std.specs.Prelude.{Result, Ok, Err, IfOk}
use Rattle.std.specs.Option.{option_map_or}
use Rattle.iio_sensor.specs.Driver.{Driver}
use Rattle.iio_desc.specs.Description.{DeviceHead, DeviceRecord, input_head, no_shape}
use Rattle.iio_desc.specs.declared.limits.TheConstants.{MAX_TRIGGERS}
use Rattle.iio_kfifo.specs.declared.tail.Tail.{Ghosts}
use Rattle.iio_trigger.specs.Trigger.{State}
use Rattle.iio_device.specs.Device.{DeviceView, new_view, view_of}
use Rattle.iio_desc.specs.Description.{Description}
use Rattle.iio_desc.specs.WellFormed.{IsWellFormed}
use Rattle.iio_desc.specs.declared.description.TriggerDesc.{TriggerDesc}
use Rattle.iio_device.specs.declared.device.Fitted.{Fitted}
use Rattle.iio_device.specs.declared.iio_dev.IioDev.{IioDev}
use Rattle.iio_device.specs.declared.plug.Plug.{Plug}
use Rattle.iio_core.specs.Front.{shape_at}
use Rattle.iio_kfifo.specs.Ends.{WriterEnd}
use Rattle.iio_base.specs.declared.Mem.{Mem}
use Rattle.iiod_bank.specs.declared.first.Parts.{Parts}
use Rattle.iiod_bank.specs.declared.front.HubFront.{HubFront}
use Rattle.iiod_bank.specs.FrontOf.{front_of, served_front}
use Rattle.iiod_bank.specs.Own.{Fits, FitsAt}
use Rattle.iiod_bank.proofs.OwnLaws.{map_at}
use Rattle.iio_probe.specs.Devices.{first_devices, first_driver}
use Rattle.iiod_bank.specs.First.{first_triggers}

-- ---- what holds of it

-- the device at a place
pub record FirstAt (drivers : List Driver) (n i : ℕ) (descs : List DeviceRecord) (v : DeviceView WriterEnd) : Type 0 where
  pub desc : DeviceRecord
  pub at : slice_get descs i ≡ Some desc
  pub number : v.number ≡ n + i
  pub shape : v.standing.shape ≡ desc.shape

first_at : (drivers : List Driver) (n i : ℕ) (descs : List DeviceRecord) (v : DeviceView WriterEnd) → slice_get (first_devices drivers n descs) i ≡ Some v
    → FirstAt drivers n i descs v
first_at drivers n i [] v e = absurd (cc)
first_at drivers n zero (d ∷ ds) v e =
    let same : v ≡ new_view d n (first_driver drivers d) = cc in
    record {
      desc = d;
      at = refl;
      number = ap (λ (x : DeviceView WriterEnd). x.number) same ∙ (let z : n ≡ n + 0 = omega arith in z);
      shape = ap (λ (x : DeviceView WriterEnd). x.standing.shape) same;
    }
first_at drivers n (suc i) (d ∷ ds) v e = search (rules, first_at drivers (suc n) i ds v e)

length_first : (drivers : List Driver) (n : ℕ) (descs : List DeviceRecord) → length (first_devices {Q = WriterEnd} drivers n descs) ≡ length descs
length_first drivers n [] = refl
length_first drivers n (d ∷ ds) = ap (λ (k : ℕ). suc k) (length_first drivers (suc n) ds)

length_map_is : {A B : Type 0} (f : A → B) (xs : List A) → length (map f xs) ≡ length xs
length_map_is f [] = refl
length_map_is f (x ∷ xs) = ap (λ (n : ℕ). suc n) (length_map_is f xs)

shape_first : (desc : Description) (i : ℕ) (x : DeviceRecord) → slice_get desc.devices i ≡ Some x → x.shape ≡ shape_at (served_front desc) i
unfolding shape_at
shape_first desc i x e = ap (λ (o : Option DeviceHead). option_map_or (λ (d : DeviceHead). d.shape) o no_shape) (sym (map_at input_head desc.devices i x e))

module _ {X : Type 0} {V : X → Type 0} {g : Ghosts WriterEnd} where
  pub first_fits : (drv : Plug X V → Driver) (front : HubFront) (devices : List (Fitted (IioDev WriterEnd g) X V)) (drivers : List Driver) (desc : Description)
      (many : ℕ)
      → map (λ d. view_of drv d) devices ≡ first_devices drivers 0 desc.devices → front_of front ≡ served_front desc → many ≡ MAX_TRIGGERS
      → Fits front devices many
  first_fits drv front devices drivers desc many views fronts sixteen = record {
    many = search (rules, length_map_is, length_first);
    each =
        λ i d at. by i d (first_at drivers 0 i desc.devices (view_of drv d)
        (ap (λ (vs : List (DeviceView WriterEnd)). slice_get vs i) (sym views) ∙ map_at (λ d. view_of drv d) devices i d at));
    sixteen = sixteen;
  }
    where
      by : (i : ℕ) (d : Fitted (IioDev WriterEnd g) X V) → FirstAt drivers 0 i desc.devices (view_of drv d) → FitsAt front i d
      by i d r = search (rules, shape_first)

-- one more trigger, after that many
pub trigger_more : (made : List State) (n k : ℕ) (x : State) (states states' : List State) → n ≤ k → states ≡ made ++ replicate (k - n) x
    → states' ≡ states ++ x ∷ [] → states' ≡ made ++ replicate (k + 1 - n) x
trigger_more made n k x states states' low is pushed = grind (arith, common_steps)

-- sixteen triggers, if no more are described
pub sixteen_first : (described : List TriggerDesc) (states : List State) → length described ≤ MAX_TRIGGERS → states ≡ first_triggers described
    → length states ≡ MAX_TRIGGERS
sixteen_first described states few is = grind (arith, common_steps)

-- if the parts were made
module _ {X : Type 0} {V : X → Type 0} where
  pub parts_fit : (drv : Plug X V → Driver) (drivers : List Driver) (desc : Description) (n : ℕ) (r : Result (Parts X V) Mem) → IsWellFormed n desc
      → IfOk r (λ p. front_of p.front ≡ served_front desc) → IfOk r (λ p. map (λ d. view_of drv d) p.devices.items ≡ first_devices drivers 0 desc.devices)
      → IfOk r (λ p. p.triggers.items ≡ first_triggers desc.triggers)
      → IfOk r (λ p. Fits p.front p.devices.items (length p.triggers.items))
  parts_fit drv drivers desc n (Err e) sound fronts views triggers = tt
  parts_fit drv drivers desc n (Ok p) sound fronts views triggers =
      first_fits drv p.front p.devices.items drivers desc (length p.triggers.items) views fronts
      (sixteen_first desc.triggers p.triggers.items sound.triggers triggers)
