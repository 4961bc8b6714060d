-- Names and shapes in a front.
use Rattle.std.proofs.Common.{◌≡◌, ℕ, zero, suc, ◌<◌, ◌≤◌, List, [], ◌∷◌, map, length, slice_get, get_or, Option, Some, refl, sym, ap, ◌∙◌, rules}
use Rattle.std.specs.Prelude.{Bool, position, not}
use Rattle.std.specs.List.{prefix_len}
use Rattle.std.specs.Option.{option_map_or}
use Rattle.std.proofs.lemmas.Option.{slice_get_read, slice_get_past}
use Rattle.iio_desc.specs.Description.{DeviceHead, no_shape}
use Rattle.iio_desc.specs.Kind.{Input}
use Rattle.iio_desc.specs.declared.description.TriggerDesc.{TriggerDesc}
use Rattle.iio_core.specs.Front.{Front, kind_at, shape_at, trigger_name}
use Rattle.iiod_bank.specs.declared.front.Face.{Face}
use Rattle.iiod_bank.specs.declared.front.HubFront.{HubFront}
use Rattle.iiod_bank.specs.FrontOf.{face_of, front_of}

length_map_is : {A B : Type 0} (f : A → B) (xs : List A) → length (map f xs) ≡ length xs
length_map_is f [] = refl
length_map_is f (x ∷ xs) = ap (λ (n : ℕ). suc n) (length_map_is f xs)

map_at : {A B : Type 0} (f : A → B) (xs : List A) (i : ℕ) (x : A) → slice_get xs i ≡ Some x → slice_get (map f xs) i ≡ Some (f x)
map_at f [] i x e = absurd (cc)
map_at f (z ∷ zs) zero x e = let same : z ≡ x = cc in ap (λ y. Some (f y)) same
map_at f (z ∷ zs) (suc i) x e = map_at f zs i x e

pub within_front : (f : HubFront) (i : ℕ) → i < length (front_of f).devices → i < length f.devices.items
within_front f i h = rw (length_map_is face_of f.devices.items) at h

-- the face at the index that a call was made at
pub face_at : (f : HubFront) (i : ℕ) (x : Face) → i < length (front_of f).devices → x ≡ get_or f.devices.items i x → slice_get f.devices.items i ≡ Some x
face_at f i x h e = slice_get_read f.devices.items (length f.devices.items) i x refl (within_front f i h) e

pub shape_is : (f : HubFront) (i : ℕ) (x : Face) → slice_get f.devices.items i ≡ Some x → shape_at (front_of f) i ≡ x.shape
unfolding shape_at
shape_is f i x e = ap (λ (o : Option DeviceHead). option_map_or (λ (d : DeviceHead). d.shape) o no_shape) (map_at face_of f.devices.items i x e)

kind_among : (faces : List Face) (i : ℕ) → option_map_or (λ (d : DeviceHead). d.kind) (slice_get (map face_of faces) i) Input ≡ Input
kind_among [] i = refl
kind_among (x ∷ xs) zero = refl
kind_among (x ∷ xs) (suc i) = kind_among xs i

-- the front has only input devices
pub kind_is : (f : HubFront) (i : ℕ) → kind_at (front_of f) i ≡ Input
unfolding kind_at
kind_is f i = kind_among f.devices.items i

prefix_map : {A B : Type 0} (f : A → B) (p : B → Bool) (xs : List A) → prefix_len p (map f xs) ≡ prefix_len (λ x. p (f x)) xs
prefix_map f p [] = refl
prefix_map f p (x ∷ xs) = rw (prefix_map f p xs) refl

position_map : {A B : Type 0} (f : A → B) (p : B → Bool) (xs : List A) → position p (map f xs) ≡ position (λ x. p (f x)) xs
position_map f p xs = rw (prefix_map f (λ x. not (p x)) xs, length_map_is f xs) refl

pub position_seen : {A B : Type 0} (f : A → B) (p : B → Bool) (xs ys : List A) (r : Option ℕ) → ys ≡ xs → r ≡ position (λ x. p (f x)) ys
    → r ≡ position p (map f xs)
position_seen f p xs ys r same e = e ∙ ap (λ zs. position (λ x. p (f x)) zs) same ∙ sym (position_map f p xs)

pub name_there : (front : Front) (t : ℕ) (x : TriggerDesc) → slice_get front.triggers t ≡ Some x → x.name ≡ trigger_name front t
unfolding trigger_name
name_there front t x at = ap (λ (o : Option TriggerDesc). option_map_or (λ (y : TriggerDesc). y.name) o []) (sym at)

pub name_past : (front : Front) (t n : ℕ) → n ≡ length front.triggers → n ≤ t → [] ≡ trigger_name front t
unfolding trigger_name
name_past front t n e past = search (rules, slice_get_past)
