-- Another channel.
use Rattle.std.proofs.Common.{◌≡◌, ℕ, ◌+◌, Bool, true, false, List, [], ◌∷◌, ◌++◌, length, get_or, AllPairs, sum_by, Option, Some, None, is_none, ◌&&◌, ◌==◌, refl, ap, ◌∙◌, zero-add}
use Rattle.std.proofs.Math.Dec.{eqb-suc-zero}
use Rattle.std.proofs.lemmas.Bool.{false≢true}
use Rattle.std.proofs.lemmas.List.Sums.{sum_by-append}
use Rattle.std.proofs.lemmas.List.Quantifiers.{all_pairs_push}
use Rattle.std.specs.List.{list_any}
use Rattle.iio_scan_type.specs.declared.Endian.{Endian}
use Rattle.iio_scan_type.specs.Format.{Format}
use Rattle.iio_layout.specs.declared.channel.Kind.{Kind}
use Rattle.iio_layout.specs.declared.channel.Suffix.{Suffix}
use Rattle.iio_layout.specs.declared.channel.Direction.{Direction}
use Rattle.iio_layout.specs.declared.channel.Channel.{Channel}
use Rattle.iio_layout.specs.Id.{same_id}
use Rattle.iio_layout.specs.Shape.{id_at, same_channel}
use Rattle.iio_text.specs.Words.{two_of}
use Rattle.iio_layout.specs.Id.{id_of}
use Rattle.iio_scan_type.specs.Text.{type_of}
use Rattle.iio_desc.specs.DeviceLines.{channel_added, channel_line, has_id}
use Rattle.iio_desc.specs.PartialDevice.{PartialDevice, has_only_channels}
use Rattle.iio_desc.proofs.ListLemmas.{none_at}

-- channels of different IDs are different
other_channel : (a c : Channel) → same_id (id_at a) (id_at c) ≡ false → same_channel a c ≡ false
other_channel a c h = rw h refl

-- channels stay distinct with another one that has an ID of its own
pub distinct_push : (channels : List Channel) (id : Kind × Suffix) (direction : Direction) (ty : Format)
    → AllPairs (λ (a b : Channel). same_channel a b ≡ false) channels
    → list_any (λ c. same_id (id_at c) id) channels ≡ false
    → AllPairs (λ (a b : Channel). same_channel a b ≡ false) (channels ++ (record { kind = id.0; suffix = id.1; direction = direction; ty = ty }) ∷ [])
distinct_push channels id direction ty distinct own =
    let new : Channel = record { kind = id.0; suffix = id.1; direction = direction; ty = ty } in
    all_pairs_push (λ (a b : Channel). same_channel a b ≡ false) channels new distinct
    (λ k d lt. other_channel (get_or channels k d) new (none_at (λ c. same_id (id_at c) id) channels own k d lt))

-- the values of a row with another channel
pub width_push : (channels : List Channel) (c : Channel)
    → sum_by (λ (x : Channel). x.ty.repeat) (channels ++ c ∷ []) ≡ sum_by (λ (x : Channel). x.ty.repeat) channels + c.ty.repeat
width_push channels c =
    sum_by-append (λ (x : Channel). x.ty.repeat) channels (c ∷ []) ∙ ap (λ n. sum_by (λ (x : Channel). x.ty.repeat) channels + n) (zero-add c.ty.repeat)

-- what a device doesn't have if its only lines are channels
pub record OnlyChannels (s : PartialDevice) : Type 0 where
  pub stamp : s.stamp ≡ None
  pub listed : s.listed ≡ []
  pub moments : s.moments ≡ []
  pub attrs : s.attrs ≡ []

no_item : {A : Type 0} (xs : List A) → (length xs == 0) ≡ true → xs ≡ []
no_item [] h = refl
no_item (x ∷ xs) h = absurd (false≢true (rw (eqb-suc-zero (length xs)) at h))

both : (a b : Bool) → (a && b) ≡ true → (a ≡ true) × (b ≡ true)
both true b h = (refl, h)
both false b h = cc

no_stamp : (o : Option Endian) → is_none o ≡ true → o ≡ None
no_stamp None h = refl
no_stamp (Some endian) h = cc

pub only_channels : (s : PartialDevice) → has_only_channels s ≡ true → OnlyChannels s
only_channels s h =
    let stamp = both (is_none s.stamp) (length s.listed == 0 && length s.moments == 0 && is_none s.driver && length s.attrs == 0) h in
    let attrs = both (length s.listed == 0 && length s.moments == 0 && is_none s.driver) (length s.attrs == 0) stamp.1 in
    let driver = both (length s.listed == 0 && length s.moments == 0) (is_none s.driver) attrs.0 in
    let moments = both (length s.listed == 0) (length s.moments == 0) driver.0 in
    record { stamp = no_stamp s.stamp stamp.0; listed = no_item s.listed moments.0; moments = no_item s.moments moments.1; attrs = no_item s.attrs attrs.1 }

-- a line that names another channel
pub channel_line_is : (s : PartialDevice) (words : List (List ℕ)) (name format : List ℕ) (id : Kind × Suffix) (ty : Format) → has_only_channels s ≡ true
    → two_of words ≡ Some (name, format)
    → id_of name ≡ Some id → has_id s id ≡ false → type_of format ≡ Some ty → channel_line s words ≡ channel_added s id ty
channel_line_is s words name format id ty only two named free typed = rw (only, two, named, free, typed) refl
