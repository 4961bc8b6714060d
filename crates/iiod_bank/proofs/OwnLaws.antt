-- A bank without locks: one device changed.
use Rattle.std.proofs.Common.{◌≡◌, ◌⊎◌, ℕ, zero, suc, ◌<◌, ℤ, List, [], ◌∷◌, map, length, set, slice_get, get_or, Option, Some, None, inl, inr, refl, sym, ap, ◌∙◌, arith, rules}
use Rattle.iio_kfifo.specs.declared.tail.Tail.{Ghosts}
use Rattle.iio_layout.specs.Shape.{ShapeRecord}
use Rattle.iio_trigger.specs.Trigger.{State}
use Rattle.iio_sensor.specs.Driver.{Driver}
use Rattle.iio_device.specs.declared.device.Fitted.{Fitted}
use Rattle.iio_device.specs.declared.iio_dev.IioDev.{IioDev}
use Rattle.iio_device.specs.declared.plug.Plug.{Plug}
use Rattle.iio_device.specs.Device.{DeviceView, view_of}
use Rattle.iio_core.specs.Front.{shape_at}
use Rattle.iio_kfifo.specs.Ends.{WriterEnd}
use Rattle.iiod_bank.specs.declared.front.HubFront.{HubFront}
use Rattle.iiod_bank.specs.FrontOf.{front_of, face_of}
use Rattle.iiod_bank.specs.Kept.{Kept}
use Rattle.iiod_bank.specs.Own.{Fits}
use Rattle.iiod_bank.specs.Told.{Told, Ran, RanAt, with_trigger}

module _ {A : Type 0} where
  pub reads : (xs : List A) (i : ℕ) (x : A) → i < length xs → x ≡ get_or xs i x → slice_get xs i ≡ Some x
  reads [] i x h e = absurd (omega arith)
  reads (y ∷ ys) zero x h e = ap (λ (z : A). Some z) (sym e)
  reads (y ∷ ys) (suc i) x h e = reads ys i x (omega arith) e

  after_set : (xs : List A) (i j : ℕ) (x y : A) → slice_get (set xs i x) j ≡ Some y → ((j ≡ i) × (y ≡ x)) ⊎ (slice_get xs j ≡ Some y)
  after_set [] i j x y e = absurd (cc)
  after_set (z ∷ zs) zero zero x y e = inl (refl, cc)
  after_set (z ∷ zs) zero (suc j) x y e = inr e
  after_set (z ∷ zs) (suc i) zero x y e = inr e
  after_set (z ∷ zs) (suc i) (suc j) x y e = search (rules, after_set zs i j x y e)

  length_after : (xs : List A) (i : ℕ) (x : A) → length (set xs i x) ≡ length xs
  length_after [] i x = refl
  length_after (z ∷ zs) zero x = refl
  length_after (z ∷ zs) (suc i) x = ap (λ (n : ℕ). suc n) (length_after zs i x)

  map_after : {B : Type 0} (f : A → B) (xs : List A) (i : ℕ) (x : A) → map f (set xs i x) ≡ set (map f xs) i (f x)
  map_after f [] i x = refl
  map_after f (z ∷ zs) zero x = refl
  map_after {B} f (z ∷ zs) (suc i) x = ap (λ (bs : List B). f z ∷ bs) (map_after f zs i x)

  pub map_at : {B : Type 0} (f : A → B) (xs : List A) (i : ℕ) (x : A) → slice_get xs i ≡ Some x → slice_get (map f xs) i ≡ Some (f x)
  map_at f [] i x e = absurd (cc)
  map_at {B} f (z ∷ zs) zero x e = cc
  map_at f (z ∷ zs) (suc i) x e = map_at f zs i x e

length_map_is : {A B : Type 0} (f : A → B) (xs : List A) → length (map f xs) ≡ length xs
length_map_is f [] = refl
length_map_is f (x ∷ xs) = ap (λ (n : ℕ). suc n) (length_map_is f xs)

module _ {X : Type 0} {V : X → Type 0} {g : Ghosts WriterEnd} where
  pub within : (f : HubFront) (devices : List (Fitted (IioDev WriterEnd g) X V)) (n dev : ℕ) → Fits f devices n → dev < length (front_of f).devices
      → dev < length devices
  within f devices n dev fits h = rw (fits.many ∙ sym (length_map_is face_of f.devices.items)) h

  pub same_device : (devices : List (Fitted (IioDev WriterEnd g) X V)) (i : ℕ) (s t : (Fitted (IioDev WriterEnd g) X V)) → slice_get devices i ≡ Some s
      → slice_get devices i ≡ Some t → s ≡ t
  same_device devices i s t e d = cc

  pub below : (f : HubFront) (devices : List (Fitted (IioDev WriterEnd g) X V)) (n i k : ℕ) (s : (Fitted (IioDev WriterEnd g) X V)) → Fits f devices n
      → slice_get devices i ≡ Some s → s.core.trigger ≡ Some k → k < n
  below f devices n i k s fits at e = search rules

  pub fits_after : (drv : Plug X V → Driver) (f : HubFront) (devices : List (Fitted (IioDev WriterEnd g) X V)) (n n' i : ℕ)
      (s t : (Fitted (IioDev WriterEnd g) X V)) → Fits f devices n → n' ≡ n → slice_get devices i ≡ Some s
      → Kept (view_of drv s) (view_of drv t) → Fits f (set devices i t) n'
  fits_after drv f devices n n' i s t fits e at kept = search (rules, length_after, after_set)

  -- a job's condition at a device that is there
  pub may_at : (may : ShapeRecord → Type 0) (f : HubFront) (devices : List (Fitted (IioDev WriterEnd g) X V)) (n i : ℕ) (s : (Fitted (IioDev WriterEnd g) X V))
      → Fits f devices n → slice_get devices i ≡ Some s → may (shape_at (front_of f) i) → may s.core.roster.shape
  may_at may f devices n i s fits at m = rw (fits.each i s at).shaped m

  module _ {O : Type 0} (makes : DeviceView WriterEnd → Option State → O → DeviceView WriterEnd → Option State → Type 0) where
    pub ran_alone : (drv : Plug X V → Driver) (devices : List (Fitted (IioDev WriterEnd g) X V)) (triggers : List State) (clock : ℤ) (i : ℕ)
        (s t : (Fitted (IioDev WriterEnd g) X V)) (o : O) → slice_get devices i ≡ Some s
        → s.core.trigger ≡ None → makes (view_of drv s) None o (view_of drv t) None
        → (c : Told) × (Some (record { devices = map (λ x. view_of drv x) (set devices i t); triggers = triggers; clock = clock }) ≡ Some c)
        × Ran makes i (record { devices = map (λ x. view_of drv x) devices; triggers = triggers; clock = clock }) o c
    ran_alone drv devices triggers clock i s t o at none m = (
      _,
      refl,
      record {
        old = view_of drv s;
        at = map_at (λ x. view_of drv x) devices i s at;
        new = view_of drv t;
        t = None;
        made = search rules;
        after = rw (ap (λ (z : Option ℕ). with_trigger triggers z None) none, map_after (λ x. view_of drv x) devices i t) refl;
      },
    )

    pub ran_paired : (drv : Plug X V → Driver) (devices : List (Fitted (IioDev WriterEnd g) X V)) (triggers : List State) (clock : ℤ) (i n : ℕ)
        (s t : (Fitted (IioDev WriterEnd g) X V)) (u v : State) (o : O) → slice_get devices i ≡ Some s
        → s.core.trigger ≡ Some n → slice_get triggers n ≡ Some u → makes (view_of drv s) (Some u) o (view_of drv t) (Some v)
        → (c : Told) × (Some (record { devices = map (λ x. view_of drv x) (set devices i t); triggers = set triggers n v; clock = clock }) ≡ Some c)
        × Ran makes i (record { devices = map (λ x. view_of drv x) devices; triggers = triggers; clock = clock }) o c
    ran_paired drv devices triggers clock i n s t u v o at some there m = (
      _,
      refl,
      record {
        old = view_of drv s;
        at = map_at (λ x. view_of drv x) devices i s at;
        new = view_of drv t;
        t = Some v;
        made = search rules;
        after = rw (ap (λ (z : Option ℕ). with_trigger triggers z (Some v)) some, map_after (λ x. view_of drv x) devices i t) refl;
      },
    )

pub ran_at : {O : Type 0} (makes : State → O → State → Type 0) (devices : List (DeviceView WriterEnd)) (triggers : List State) (clock : ℤ) (n : ℕ) (u v : State)
    (o : O) → slice_get triggers n ≡ Some u → makes u o v
    → (c : Told) × (Some (record { devices = devices; triggers = set triggers n v; clock = clock }) ≡ Some c)
    × RanAt makes n (record { devices = devices; triggers = triggers; clock = clock }) o c
ran_at makes devices triggers clock n u v o at m = (_, refl, record { old = u; at = at; new = v; made = m; after = refl })
