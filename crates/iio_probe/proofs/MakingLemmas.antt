-- Devices that are made one after another.
use Rattle.std.proofs.Common.{◌≡◌, ℕ, zero, suc, ◌+◌, ◌<◌, Bool, true, false, List, [], ◌∷◌, ◌++◌, map, length, set, slice_get, slice_index_or, Option, Some, None, IfSome, refl, sym, ap, subst, ◌∙◌, arith}
use Rattle.std.specs.Prelude.{◌==◌, ◌||◌, All, AllPairs, unwrap_or}
use Rattle.std.specs.List.{list_any}
use Rattle.std.specs.Option.{option_map_or}
use Rattle.std.proofs.lemmas.Bool.Decides.{nat_tests}
use Rattle.iio_sensor.specs.Driver.{Driver}
use Rattle.iio_desc.specs.Description.{DeviceRecord}
use Rattle.iio_desc.specs.DeviceLines.{drives}
use Rattle.iio_desc.specs.WellFormed.{share_driver}
use Rattle.iio_device.specs.Device.{DeviceView, new_view}
use Rattle.iio_device.specs.Site.{no_driver}
use Rattle.iio_probe.specs.Devices.{IsFit, driver_from, first_devices, first_driver, recorded, slot_in, slots_left}

module _ {A : Type 0} where
  get_other : (xs : List A) (i j : ℕ) (x : A) → (i ≡ j → ⊥) → slice_get (set xs i x) j ≡ slice_get xs j
  get_other [] i j x ne = refl
  get_other (y ∷ ys) zero zero x ne = absurd (ne refl)
  get_other (y ∷ ys) zero (suc j) x ne = refl
  get_other (y ∷ ys) (suc i) zero x ne = refl
  get_other (y ∷ ys) (suc i) (suc j) x ne = get_other ys i j x (λ e. ne (ap (λ (n : ℕ). suc n) e))

  there_is : (xs : List A) (k : ℕ) → k < length xs → (x : A) × (slice_get xs k ≡ Some x)
  there_is [] k h = absurd (omega arith)
  there_is (x ∷ xs) zero h = (x, refl)
  there_is (x ∷ xs) (suc k) h = there_is xs k (omega arith)

  read_map : {B : Type 0} (f : A → B) (xs : List A) (k : ℕ) (x : A) (d : B) → slice_get xs k ≡ Some x → slice_index_or (map f xs) k d ≡ f x
  read_map f [] k x d e = absurd (cc)
  read_map f (y ∷ ys) zero x d e = let same : y ≡ x = cc in ap f same
  read_map f (y ∷ ys) (suc k) x d e = read_map f ys k x d e

  read_at : (xs ys : List A) (x d : A) → slice_index_or (xs ++ x ∷ ys) (length xs) d ≡ x
  read_at [] ys x d = refl
  read_at (z ∷ zs) ys x d = read_at zs ys x d

  inside : (xs ys : List A) (x : A) → length xs < length (xs ++ x ∷ ys)
  inside [] ys x = omega arith
  inside (z ∷ zs) ys x = let h = inside zs ys x in omega arith

any_append : (p : DeviceRecord → Bool) (xs : List DeviceRecord) (x : DeviceRecord) → list_any p (xs ++ x ∷ []) ≡ false → (list_any p xs ≡ false) × (p x ≡ false)
any_append p [] x e = (refl, left (p x) e)
  where
    left : (b : Bool) → (b || false) ≡ false → b ≡ false
    left true e = absurd (cc)
    left false e = refl
any_append p (y ∷ ys) x e = by (p y) e (any_append p ys x)
  where
    by : (b : Bool) → (b || list_any p (ys ++ x ∷ [])) ≡ false → (list_any p (ys ++ x ∷ []) ≡ false → (list_any p ys ≡ false) × (p x ≡ false))
        → ((b || list_any p ys) ≡ false) × (p x ≡ false)
    by true e h = absurd (cc)
    by false e h = h e

-- no device above has the driver of one
none_above : (k : ℕ) (xs ys : List DeviceRecord) (x : DeviceRecord) → AllPairs (λ a b. share_driver a b ≡ false) (xs ++ x ∷ ys) → x.driver ≡ Some k
    → list_any (drives k) xs ≡ false
none_above k [] ys x apart own = refl
none_above k (z ∷ zs) ys x apart own =
    let pair : share_driver z (slice_index_or (zs ++ x ∷ ys) (length zs) x) ≡ false =
    apart 0 (suc (length zs)) x (omega arith) (let h = inside zs ys x in omega arith) in
    let two : share_driver z x ≡ false = subst (λ (b : DeviceRecord). share_driver z b ≡ false) (read_at zs ys x x) pair in
    let other : drives k z ≡ false = sym (ap (λ (o : Option ℕ). option_map_or (λ k. drives k z) o false) own) ∙ two in
    rw (other, none_above k zs ys x (λ i j d less within. apart (suc i) (suc j) d (omega (arith, less)) (omega (arith, within))) own) refl

map_append : {A B : Type 0} (f : A → B) (xs ys : List A) → map f (xs ++ ys) ≡ map f xs ++ map f ys
map_append f [] ys = refl
map_append {A} {B} f (x ∷ xs) ys = ap (λ (zs : List B). f x ∷ zs) (map_append f xs ys)

length_after : {A : Type 0} (xs : List A) (i : ℕ) (x : A) → length (set xs i x) ≡ length xs
length_after [] i x = refl
length_after (z ∷ zs) zero x = refl
length_after (z ∷ zs) (suc i) x = ap (λ (n : ℕ). suc n) (length_after zs i x)

longer : {A : Type 0} (xs : List A) (x : A) → length (xs ++ x ∷ []) ≡ suc (length xs)
longer [] x = refl
longer (z ∷ zs) x = ap (λ (n : ℕ). suc n) (longer zs x)

append_one : {A : Type 0} (xs ys : List A) (x : A) → (xs ++ x ∷ []) ++ ys ≡ xs ++ x ∷ ys
append_one [] ys x = refl
append_one {A} (z ∷ zs) ys x = ap (λ (ws : List A). z ∷ ws) (append_one zs ys x)

devices_append : {Q : Type 0} (drivers : List Driver) (n m : ℕ) (xs : List DeviceRecord) (x : DeviceRecord) → m ≡ n + length xs
    → first_devices {Q = Q} drivers n (xs ++ x ∷ []) ≡ first_devices {Q = Q} drivers n xs ++ new_view x m (first_driver drivers x) ∷ []
devices_append drivers n m [] x e = let same : n ≡ m = omega (arith, e) in rw same refl
devices_append {Q} drivers n m (y ∷ ys) x e =
    ap (λ (vs : List (DeviceView Q)). new_view y n (first_driver drivers y) ∷ vs) (devices_append drivers (suc n) m ys x (omega (arith, e)))

module _ {B D Q : Type 0} (given : B → Driver) (view : D → DeviceView Q) (descs : List DeviceRecord) (drivers : List B) where
  -- that many devices are made, and the drivers of the others are still in their slots
  pub record Making (done left : List DeviceRecord) (devices : List D) (slots : List (Option B)) : Type 0 where
    pub whole : done ++ left ≡ descs
    pub views : map view devices ≡ first_devices (map given drivers) 0 done
    pub many : length devices ≡ length done
    pub waiting : (k : ℕ) (d : B) → slice_get drivers k ≡ Some d → list_any (drives k) done ≡ false → slice_get slots k ≡ Some (Some d)
    pub slots_are : length slots ≡ length drivers

  -- the same, by another name of the devices or of what is left
  pub pushed : (done left : List DeviceRecord) (devices devices' : List D) (slots : List (Option B)) → devices' ≡ devices → Making done left devices slots
      → Making done left devices' slots
  pushed done left devices devices' slots e making = subst (λ (ds : List D). Making done left ds slots) (sym e) making

  pub before_next : (done rest left : List DeviceRecord) (devices : List D) (slots : List (Option B)) (x : DeviceRecord) → rest ≡ x ∷ left
      → Making done rest devices slots → Making done (x ∷ left) devices slots
  before_next done rest left devices slots x e making = subst (λ (ds : List DeviceRecord). Making done ds devices slots) e making

  pub fit_next : (done left : List DeviceRecord) (devices : List D) (slots : List (Option B)) (x : DeviceRecord) → Making done (x ∷ left) devices slots
      → All (IsFit (length drivers)) descs → IsFit (length drivers) x
  fit_next done left devices slots x making fit =
      let all : All (IsFit (length drivers)) (done ++ x ∷ left) = subst (λ (ds : List DeviceRecord). All (IsFit (length drivers)) ds) (sym making.whole) fit in
      subst (λ (y : DeviceRecord). IsFit (length drivers) y) (read_at done left x x) (all (length done) x (inside done left x))

  module _ (done left : List DeviceRecord) (devices : List D) (slots slots' : List (Option B)) (x : DeviceRecord) (d : D)
      (making : Making done (x ∷ left) devices slots) (apart : AllPairs (λ a b. share_driver a b ≡ false) descs) where
    driver_is : (o : Option ℕ) → x.driver ≡ o → IfSome o (λ k. k < length drivers)
        → driver_from given (slot_in o slots) x.rows ≡ option_map_or (λ k. slice_index_or (map given drivers) k no_driver) o (recorded x.rows)
    driver_is None own fit = refl
    driver_is (Some k) own fit =
        let there = there_is drivers k fit in
        let lies : slice_get slots k ≡ Some (Some there.0) =
        making.waiting k there.0 there.1
        (none_above k done left x (subst (λ (ds : List DeviceRecord). AllPairs (λ a b. share_driver a b ≡ false) ds) (sym making.whole) apart) own) in
        ap (λ (o : Option (Option B)). driver_from given (unwrap_or o None) x.rows) lies ∙ sym (read_map given drivers k there.0 no_driver there.1)

    waiting_after : (o : Option ℕ) → x.driver ≡ o → slots' ≡ slots_left o slots → (k : ℕ) (b : B) → slice_get drivers k ≡ Some b
        → list_any (drives k) (done ++ x ∷ []) ≡ false → slice_get slots' k ≡ Some (Some b)
    waiting_after None own after k b at none = ap (λ (s : List (Option B)). slice_get s k) after ∙ making.waiting k b at (any_append (drives k) done x none).0
    waiting_after (Some j) own after k b at none =
        let free = any_append (drives k) done x none in
        let other : (j == k) ≡ false = sym (ap (λ (o : Option ℕ). option_map_or (λ (driver : ℕ). driver == k) o false) own) ∙ free.1 in
        ap (λ (s : List (Option B)). slice_get s k) after ∙ get_other slots j k None (λ e. absurd (let same : (j == k) ≡ true = grind (arith, nat_tests) in cc))
        ∙ making.waiting k b at free.0

    slots_after : (o : Option ℕ) → slots' ≡ slots_left o slots → length slots' ≡ length drivers
    slots_after None after = ap (λ (s : List (Option B)). length s) after ∙ making.slots_are
    slots_after (Some j) after = ap (λ (s : List (Option B)). length s) after ∙ length_after slots j None ∙ making.slots_are

    -- another device
    pub made_next : (n : ℕ) → n ≡ length devices → IfSome x.driver (λ k. k < length drivers)
        → view d ≡ new_view x n (driver_from given (slot_in x.driver slots) x.rows)
        → slots' ≡ slots_left x.driver slots → Making (done ++ x ∷ []) left (devices ++ d ∷ []) slots'
    made_next n own fit is after = record {
      whole = append_one done left x ∙ making.whole;
      views =
          map_append view devices (d ∷ [])
          ∙ ap (λ (vs : List (DeviceView Q)). vs ++ view d ∷ []) making.views
          ∙ ap (λ (v : DeviceView Q). first_devices (map given drivers) 0 done ++ v ∷ [])
          (is ∙ ap (λ (r : Driver). new_view {Q = Q} x n r) (driver_is x.driver refl fit))
          ∙ sym (devices_append (map given drivers) 0 n done x (omega (arith, own, making.many)));
      many = longer devices d ∙ ap (λ (n : ℕ). suc n) making.many ∙ sym (longer done x);
      waiting = waiting_after x.driver refl after;
      slots_are = slots_after x.driver after;
    }
