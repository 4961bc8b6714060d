-- The attributes that READ and WRITE find.
use Rattle.std.proofs.Common.{◌≡◌, ℕ, ◌<◌, Bool, true, false, cond, ◌&&◌, subst, List, [], ◌∷◌, length, Option, Some, None, Result, Ok, Err, refl, rules, arith}
use Rattle.std.proofs.lemmas.Grind.{common_steps}
use Rattle.std.specs.List.{position}
use Rattle.std.specs.Option.{ok_or, option_and_then}
use Rattle.std.specs.Str.{bytes_eq}
use Rattle.iio_base.specs.Refusals.{◌>>=◌, ensure}
use Rattle.iio_text.specs.declared.errors.Errno.{Errno}
use Rattle.iio_text.specs.declared.errors.Errno.TheVariants.{ENOENT}
use Rattle.iio_text.specs.declared.values.Fixed.{Fixed}
use Rattle.iio_attr.specs.declared.attributes.Attr.{Attr}
use Rattle.iio_attr.specs.declared.attributes.Attr.TheVariants as attr
use Rattle.iio_attr.specs.declared.attributes.Scope.{Scope}
use Rattle.iio_attr.specs.declared.attributes.Scope.TheVariants as scope
use Rattle.iio_attr.specs.Attributes.{attributes, check_of, find_in, find_of, row_of, same_scope}
use Rattle.iio_desc.specs.Kind as desc
use Rattle.iio_layout.specs.Id.{id_of}
use Rattle.iio_layout.specs.Shape.{ShapeRecord, channel_of, channel_with}
use Rattle.iio_layout.specs.declared.channel.Channel.{Channel}
use Rattle.iio_layout.specs.declared.channel.Kind.{Kind}
use Rattle.iio_layout.specs.declared.channel.Suffix.{Suffix}
use Rattle.iiod_grammar.specs.Command.{Place, AtDevice, AtBuffer, AtDebug, AtInput, AtOutput}
use Rattle.iiod_commands.specs.Attributes.{Assignment, Named, attribute_of, channel_word, found, has_attribute, is_of_buffer, named_at, write_found}
use Rattle.iio_core.specs.Front.{Front, kind_at, shape_at}
use Rattle.iiod_commands.specs.Target.{MayRead, MayWrite}

-- ---- the table

-- an attribute that is found is one of the scope's
find_scope : (table : List Attr) (s : Scope) (name : List ℕ) (a : Attr) → find_in table s name ≡ Some a → (row_of a).scope ≡ s
find_scope [] s name a e = absurd (cc)
find_scope (x ∷ xs) s name a e = by (same_scope (row_of x).scope s) refl (bytes_eq (row_of x).name name) e (find_scope xs s name a)
  where
    by : (b : Bool) → same_scope (row_of x).scope s ≡ b → (t : Bool) → cond (b && t) (Some x) (find_in xs s name) ≡ Some a
        → (find_in xs s name ≡ Some a → (row_of a).scope ≡ s)
        → (row_of a).scope ≡ s
    by b p t e later = search rules

-- a channel that is found is one of the device's
channel_within : (shape : ShapeRecord) (name : List ℕ) (c : ℕ) → channel_of shape name ≡ Some c → c < length shape.channels
channel_within shape name c e = by (id_of name) e
  where
    at : (channels : List Channel) (test : Channel → Bool) → position test channels ≡ Some c → c < length channels
    at channels test e = search rules

    by : (id : Option (Kind × Suffix)) → option_and_then (λ id. channel_with shape id) id ≡ Some c → c < length shape.channels
    by id e = search rules

-- ---- what is named

named_as : (kind : desc.Kind) (s : Scope) (name : List ℕ) (f : Attr → Named) (x : Named) → (attribute_of kind s name >>= (λ a. Ok (f a))) ≡ Ok x
    → (a : Attr) × (find_of s name ≡ Some a) × (has_attribute kind a ≡ true) × (f a ≡ x)
named_as kind s name f x e = by (find_of s name) refl e
  where
    had : (a : Attr) (b : Bool) → find_of s name ≡ Some a → has_attribute kind a ≡ b → ((ensure b ENOENT >>= (λ there. Ok a)) >>= (λ y. Ok (f y))) ≡ Ok x
        → (y : Attr) × (find_of s name ≡ Some y) × (has_attribute kind y ≡ true) × (f y ≡ x)
    had a b is own e = search rules

    by : (o : Option Attr) → find_of s name ≡ o
        → ((ok_or o ENOENT >>= (λ a. ensure (has_attribute kind a) ENOENT >>= (λ there. Ok a))) >>= (λ y. Ok (f y))) ≡ Ok x
        → (y : Attr) × (find_of s name ≡ Some y) × (has_attribute kind y ≡ true) × (f y ≡ x)
    by None is e = absurd (cc)
    by (Some a) is e = had a (has_attribute kind a) is refl e

-- an attribute of a channel of that ID
at_word : (front : Front) (dev : ℕ) (word : Option (List ℕ)) (name : List ℕ) (x : Named)
    → (ok_or word ENOENT >>=
    (λ channel. ok_or (channel_of (shape_at front dev) channel) ENOENT >>=
    (λ c. attribute_of (kind_at front dev) scope.Channel name >>= (λ a. Ok (record { channel = Some c; attribute = a }))))) ≡ Ok x
    → MayRead front dev x.channel x.attribute
at_word front dev None name x e = absurd (cc)
at_word front dev (Some channel) name x e = by (channel_of (shape_at front dev) channel) refl e
  where
    by : (o : Option ℕ) → channel_of (shape_at front dev) channel ≡ o
        → (ok_or o ENOENT >>= (λ c. attribute_of (kind_at front dev) scope.Channel name >>= (λ a. Ok (record { channel = Some c; attribute = a })))) ≡ Ok x
        → MayRead front dev x.channel x.attribute
    by None is e = absurd (cc)
    by (Some c) is e =
        let named = named_as (kind_at front dev) scope.Channel name (λ a. record { channel = Some c; attribute = a }) x e in
        subst (λ (y : Named). MayRead front dev y.channel y.attribute) named.3
        (channel_within (shape_at front dev) channel c is, find_scope attributes scope.Channel name named.0 named.1, named.2)

-- what is named at the device or at a channel may be read
pub may_read : (front : Front) (dev : ℕ) (place : Place) (name : Option (List ℕ)) (x : Named)
    → named_at (kind_at front dev) (shape_at front dev) place name ≡ Ok x → is_of_buffer place name ≡ false
    → MayRead front dev x.channel x.attribute
may_read front dev place None x e b = absurd (cc)
may_read front dev AtDevice (Some name) x e b = grind (arith, common_steps)
may_read front dev AtBuffer (Some name) x e b = absurd (cc)
may_read front dev AtDebug (Some name) x e b = at_word front dev (channel_word (kind_at front dev) AtDebug) name x e
may_read front dev (AtInput channel) (Some name) x e b = at_word front dev (channel_word (kind_at front dev) (AtInput channel)) name x e
may_read front dev (AtOutput channel) (Some name) x e b = at_word front dev (channel_word (kind_at front dev) (AtOutput channel)) name x e

-- what is named at the buffer stands there
of_buffer : (kind : desc.Kind) (shape : ShapeRecord) (place : Place) (name : Option (List ℕ)) (x : Named) → named_at kind shape place name ≡ Ok x
    → is_of_buffer place name ≡ true
    → (row_of x.attribute).scope ≡ scope.Buffer
of_buffer kind shape AtBuffer None x e b = absurd (cc)
of_buffer kind shape AtBuffer (Some name) x e b =
    let is = named_as kind scope.Buffer name (λ a. record { channel = None; attribute = a }) x e in
    subst (λ (y : Named). (row_of y.attribute).scope ≡ scope.Buffer) is.3 (find_scope attributes scope.Buffer name is.0 is.1)
of_buffer kind shape AtDevice name x e b = absurd (cc)
of_buffer kind shape AtDebug name x e b = absurd (cc)
of_buffer kind shape (AtInput channel) name x e b = absurd (cc)
of_buffer kind shape (AtOutput channel) name x e b = absurd (cc)

-- what is found is named
pub found_named : (kind : desc.Kind) (shape : ShapeRecord) (plugged is_open : Bool) (place : Place) (name : Option (List ℕ)) (x : Named)
    → found kind shape plugged is_open place name ≡ Ok x → named_at kind shape place name ≡ Ok x
found_named kind shape plugged is_open place name x e = search rules

-- ---- what is written

-- what an assignment is made of
record Assigns (kind : desc.Kind) (shape : ShapeRecord) (place : Place) (name : Option (List ℕ)) (payload : List ℕ) (x : Assignment) : Type 0 where
  named : named_at kind shape place name ≡ Ok x.target
  checked : check_of x.target.attribute payload ≡ Ok x.value

assigns : (kind : desc.Kind) (shape : ShapeRecord) (plugged is_open : Bool) (place : Place) (name : Option (List ℕ)) (payload : List ℕ) (x : Assignment)
    → write_found kind shape plugged is_open place name payload ≡ Ok x → Assigns kind shape place name payload x
assigns kind shape false is_open place name payload x e = absurd (cc)
assigns kind shape true is_open place name payload x e = by (found kind shape true is_open place name) refl e
  where
    last : (t : Named) (v : Result Fixed Errno) → found kind shape true is_open place name ≡ Ok t → check_of t.attribute payload ≡ v
        → (v >>= (λ value. Ok (record { target = t; value = value }))) ≡ Ok x → Assigns kind shape place name payload x
    last t v f c e = search rules

    by : (r : Result Named Errno) → found kind shape true is_open place name ≡ r
        → (r >>= (λ target. check_of target.attribute payload >>= (λ value. Ok (record { target = target; value = value })))) ≡ Ok x
        → Assigns kind shape place name payload x
    by (Err errno) f e = absurd (cc)
    by (Ok t) f e = last t (check_of t.attribute payload) f refl e

-- what a WRITE finds may be written
pub may_write : (front : Front) (dev : ℕ) (plugged is_open : Bool) (place : Place) (name : Option (List ℕ)) (payload : List ℕ) (x : Assignment)
    → write_found (kind_at front dev) (shape_at front dev) plugged is_open place name payload ≡ Ok x
    → MayWrite front dev x.target.channel x.target.attribute x.value
may_write front dev plugged is_open place name payload x e =
    by (is_of_buffer place name) refl (assigns (kind_at front dev) (shape_at front dev) plugged is_open place name payload x e)
  where
    by : (b : Bool) → is_of_buffer place name ≡ b → Assigns (kind_at front dev) (shape_at front dev) place name payload x
        → MayWrite front dev x.target.channel x.target.attribute x.value
    by b h1 is = search (rules, of_buffer, may_read)
