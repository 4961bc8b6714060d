-- Devices of a bench of any kind; what a call at one that isn't an averaging device changes.
use Rattle.std.proofs.Common.{◌≡◌, ℕ, suc, Bool, false, List, [], ◌∷◌, Option, None, Result, refl, sym, ap, ◌∙◌, arith, cond, rules}
use Rattle.std.specs.Prelude.{◌==◌, ◌&&◌, not}
use Rattle.iio_base.specs.Refusals.{first_refusal, unless_refused}
use Rattle.iio_text.specs.declared.errors.Errno.{Errno}
use Rattle.iio_layout.specs.Shape.{ShapeRecord}
use Rattle.iio_desc.specs.Kind.{Kind, is_average, is_input, is_output, is_over}
use Rattle.iio_sensor.specs.Driver.{Driver}
use Rattle.iio_device.specs.declared.plug.Plug.{Plug}
use Rattle.iio_device.specs.Site.{at_place, is_empty}
use Rattle.iio_core.specs.Opening.{own_host}
use Rattle.iio_core.specs.Attached.{is_attached}
use Rattle.iio_core.specs.Lists.{map_from}
use Rattle.iio_core.specs.Calls.{all_joined, machine_after_close, inner_left, station_after_join, station_after_leave, open_of, open_refusals, trigger_by, trigger_of, unless, unless_made, host_of}
use Rattle.iio_core.specs.Front.{Front, kind_at, shape_at}
use Rattle.iio_core.specs.Machine.{Machine, Station, station_at, with_station, attachment_of, masks_of}
use Rattle.iio_core.proofs.PlaceLists.{placed_from}
use Rattle.iio_kinds.specs.declared.any_device.AnyDevice.{AnyDevice}
use Rattle.iio_kinds.specs.declared.any_device.AnyDevice.TheVariants as any
use Rattle.iio_kinds.specs.Places.{is_hosted}
use Rattle.iio_kinds.specs.Inner.{has_inner}
use Rattle.iio_kinds.specs.Station.{any_station}

-- ---- maps over places

as_from : {A : Type 0} (f g : ℕ → A → A) (i : ℕ) (xs : List A) → ((j : ℕ) (x : A) → f j x ≡ g j x) → map_from f i xs ≡ map_from g i xs
as_from f g i [] same = refl
as_from {A = A} f g i (x ∷ xs) same = ap (λ (y : A). y ∷ map_from f (suc i) xs) (same i x) ∙ ap (λ (ys : List A). g i x ∷ ys) (as_from f g (suc i) xs same)

pub kept_from : {A : Type 0} (f : ℕ → A → A) (i : ℕ) (xs : List A) → ((j : ℕ) (x : A) → f j x ≡ x) → map_from f i xs ≡ xs
kept_from f i [] same = refl
kept_from {A = A} f i (x ∷ xs) same = ap (λ (y : A). y ∷ map_from f (suc i) xs) (same i x) ∙ ap (λ (ys : List A). x ∷ ys) (kept_from f (suc i) xs same)

-- a change at one place only
pub placed : {A : Type 0} (f : ℕ → A → A) (g : A → A) (k : ℕ) (xs : List A) → ((j : ℕ) (x : A) → f j x ≡ cond (k == j) (g x) x)
    → map_from f 0 xs ≡ at_place k g xs
placed f g k xs same = as_from f (λ n x. cond (k == n) (g x) x) 0 xs same ∙ sym (placed_from g k k 0 xs (omega arith))

-- ---- kinds except averaging devices

pub over_none : (kind : Kind) (k : ℕ) → is_average kind ≡ false → is_over kind k ≡ false
over_none kind k plain = search rules

pub input_is : (kind : Kind) → (not (is_output kind) && not (is_average kind)) ≡ is_input kind
input_is kind = search rules

trigger_plain : (kind : Kind) (m : Machine) (dev : ℕ) → is_average kind ≡ false → trigger_by kind m dev ≡ (station_at m dev).site.trigger
trigger_plain kind m dev plain = search rules

pub trigger_told : (front : Front) (m : Machine) (dev : ℕ) → is_average (kind_at front dev) ≡ false → trigger_of front m dev ≡ (station_at m dev).site.trigger
unfolding trigger_of
trigger_told front m dev plain = trigger_plain (kind_at front dev) m dev plain

module _ (front : Front) (dev : ℕ) (plain : is_average (kind_at front dev) ≡ false) where
  -- a joining changes only the device
  pub joined_alone : (change : Station → Station) (m : Machine) → all_joined front dev change m ≡ with_station change dev m
  unfolding with_station
  joined_alone change m = search (rules, placed, over_none)

  -- a leaving changes only the device
  left_alone : (m : Machine) → inner_left front dev m ≡ m
  left_alone m = simp (kept_from, over_none)

  pub closed_alone : (m : Machine) (number : ℕ) → machine_after_close front m dev number ≡ with_station (station_after_leave number) dev m
  unfolding machine_after_close
  closed_alone m number = left_alone (with_station (station_after_leave number) dev m)

  made_alone : (change : Station → Station) (m : Machine) (x : Result ℕ Errno) → unless_made (all_joined front dev change) m x ≡ unless change dev m x
  made_alone change m x = search (rules, joined_alone)

  module _ (m : Machine) (mask capacity : ℕ) (cyclic : Bool) (st : Station) (shape : ShapeRecord) (here : station_at m dev ≡ st)
      (shaped : shape_at front dev ≡ shape) where
    numbered_by : (kind : Kind) (r : Option Errno) → is_average kind ≡ false → kind_at front dev ≡ kind
        → first_refusal (open_refusals front m.stations kind (own_host st shape mask (masks_of st.members)) st) ≡ r
        → unless_refused (station_at m dev).next
        (first_refusal (open_refusals front m.stations (kind_at front dev)
        (host_of front m.stations (kind_at front dev) (station_at m dev) (shape_at front dev) mask) (station_at m dev)))
        ≡ unless_refused st.next r
    numbered_by kind r own is e = search rules

    -- an OPEN by the refusals of the device itself
    pub open_alone : (kind : Kind) (r : Option Errno) → kind_at front dev ≡ kind
        → first_refusal (open_refusals front m.stations kind (own_host st shape mask (masks_of st.members)) st) ≡ r
        → open_of front m dev mask capacity cyclic ≡ unless (station_after_join mask capacity cyclic None) dev m (unless_refused st.next r)
    unfolding open_of
    open_alone kind r is e = search (rules, numbered_by, made_alone)

-- ---- devices

module _ {X : Type 0} {V : X → Type 0} where
  -- what holds of a device's place holds whichever driver it samples by
  module _ (p q : Plug X V → Driver) where
    pub attached_as : (t : ℕ) (d : AnyDevice X V) → is_attached t (attachment_of (any_station p d)) ≡ is_attached t (attachment_of (any_station q d))
    attached_as t d = search rules

    pub attachment_as : (d : AnyDevice X V) → (any_station p d).site.attachment ≡ (any_station q d).site.attachment
    attachment_as d = search rules

    pub members_as : (d : AnyDevice X V) → is_empty (any_station p d).members ≡ is_empty (any_station q d).members
    members_as d = search rules

    pub hosted_as : (n : ℕ) (d : AnyDevice X V) → is_hosted n (any_station p d) ≡ is_hosted n (any_station q d)
    hosted_as n d = search rules

    pub plugged_as : (d : AnyDevice X V) → (any_station p d).site.plugged ≡ (any_station q d).site.plugged
    plugged_as d = search rules

    pub inner_as : (j : ℕ) (d : AnyDevice X V) → has_inner j (any_station p d) ≡ has_inner j (any_station q d)
    inner_as j d = search rules

    pub made_as : (d : AnyDevice X V) → (any_station p d).captures ≡ (any_station q d).captures
    made_as d = search rules
