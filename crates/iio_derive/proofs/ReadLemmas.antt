-- What stands in a scan of all channels.
use Rattle.std.proofs.Common.{◌≡◌, ◌≢◌, ◌⊎◌, inl, inr, ℕ, zero, suc, ◌+◌, ◌-◌, Option, Some, None, drop, add-one, ◌<◌, ◌≤◌, List, [], ◌∷◌, ◌++◌, ℤ, length, map, take, slice_index, slice_index_or, sum_by, length-append, refl, sym, ap, ◌∙◌, arith}
use Rattle.std.proofs.lemmas.Bool.{cases_eq}
use Rattle.std.proofs.lemmas.List.{get_or-set_same, get_or-set_other, get_or_append_left, length-map, take_all, take_more}
use Rattle.std.proofs.lemmas.List.Sums.{sum_by-append}
use Rattle.iio_scan_type.specs.declared.Endian.TheVariants.{Little}
use Rattle.iio_layout.specs.declared.channel.Channel.{Channel}
use Rattle.std.proofs.Math.ListN.{set}
use Rattle.iio_scan_type.specs.declared.Endian.{Endian}
use Rattle.iio_scan_type.specs.Bytes.{value_at}
use Rattle.iio_scan_type.specs.Format.{Format, size_of, stamp_format}
use Rattle.iio_layout.specs.Layout.{format_at, place_of}
use Rattle.iio_layout.specs.Scan.{elements_below, values_below, values_by}
use Rattle.iio_layout.specs.Shape.{ShapeRecord, count_of, formats_of, stamp_formats, width_of}
use Rattle.iio_derive.specs.Values.{moment_by, value_in}
use Rattle.iio_derive.specs.Window.{full_mask}
use Rattle.iio_derive.specs.View.{IsPlace}

-- another place is written, at channel c
pub places_more : (shape : ShapeRecord) (c place : ℕ) (places : List ℕ) → c < length places → IsPlace shape c place
    → ((k : ℕ) → k < c → IsPlace shape k (slice_index places k)) → (k : ℕ) → k < c + 1 → IsPlace shape k (slice_index (set places c place) k)
places_more shape c place places less own below k within = by (cases_eq k c)
  where
    by : (k ≡ c) ⊎ (k ≢ c) → IsPlace shape k (slice_index (set places c place) k)
    by (inl same) =
        let here : slice_index (set places c place) k ≡ place = ap (λ j. slice_index (set places c place) j) same ∙ get_or-set_same places c place 0 less in
        rw here (rw same own)
    by (inr other) =
        let there : slice_index (set places c place) k ≡ slice_index places k = get_or-set_other places c k place 0 other in
        rw there (below k (omega (arith, within, other)))

-- the timestamp is the channel after the data channels
pub stamp_there : (shape : ShapeRecord) (endian : Endian) → shape.stamp ≡ Some endian → length shape.channels < count_of shape
stamp_there shape endian is =
    let one : length (stamp_formats shape.stamp) ≡ 1 = ap (λ (o : Option Endian). length (stamp_formats o)) is in
    omega (
      arith,
      one,
      length-append (map (λ channel. channel.ty) shape.channels) (stamp_formats shape.stamp),
      length-map shape.channels
          (λ channel. channel.ty),
    )

-- element k of a channel, in the bytes that stand at its place
pub field_value : (shape : ShapeRecord) (scan : List ℕ) (c start size : ℕ) (ty : Format) → ty ≡ format_at (formats_of shape) c → size ≡ size_of ty
    → start ≡ place_of shape (full_mask shape) c → (k : ℕ) → value_at ty (take (start + size - start) (drop start scan)) k ≡ value_in shape scan c k
field_value shape scan c start size ty type_is size_is start_is k =
    ap (λ (n : ℕ). value_at ty (take n (drop start scan)) k) (long start size)
    ∙ ap (λ (p : ℕ). value_at ty (take size (drop p scan)) k) start_is
    ∙ ap (λ (n : ℕ). value_at ty (take n (drop (place_of shape (full_mask shape) c) scan)) k) size_is
    ∙ ap (λ (t : Format). value_at t (take (size_of t) (drop (place_of shape (full_mask shape) c) scan)) k) type_is
  where
    long : (a b : ℕ) → a + b - a ≡ b
    long a b = omega arith

-- elements that are the same, one by one
pub same_elements : (f g : ℕ → ℤ) → ((k : ℕ) → f k ≡ g k) → (n : ℕ) → elements_below f n ≡ elements_below g n
same_elements f g same zero = refl
same_elements f g same (suc n) = ap (λ (xs : List ℤ). xs ++ f n ∷ []) (same_elements f g same n) ∙ ap (λ (v : ℤ). elements_below g n ++ v ∷ []) (same n)

-- the values of another channel
pub values_more : (shape : ShapeRecord) (scan : List ℕ) (c start size : ℕ) (ty : Format) (before after : List ℤ) → ty ≡ format_at (formats_of shape) c
    → size ≡ size_of ty
    → start ≡ place_of shape (full_mask shape) c → before ≡ values_below (formats_of shape) (value_in shape scan) c
    → after ≡ before ++ elements_below (value_at ty (take (start + size - start) (drop start scan))) ty.repeat
    → after ≡ values_below (formats_of shape) (value_in shape scan) (c + 1)
values_more shape scan c start size ty before after type_is size_is start_is read more =
    more
    ∙ ap (λ (xs : List ℤ). xs ++ elements_below (value_at ty (take (start + size - start) (drop start scan))) ty.repeat) read
    ∙ ap (λ (xs : List ℤ). done ++ xs)
    (same_elements (value_at ty (take (start + size - start) (drop start scan))) (value_in shape scan c)
    (field_value shape scan c start size ty type_is size_is start_is) ty.repeat)
    ∙ ap (λ (t : Format). done ++ elements_below (value_in shape scan c) t.repeat) type_is
    ∙ rw add-one refl
  where
    done : List ℤ
    done = values_below (formats_of shape) (value_in shape scan) c

-- a moment, if there is a timestamp
pub moment_of : (o : Option Endian) (endian : Endian) (t : ℤ) → o ≡ Some endian → t ≡ moment_by o t
moment_of None endian t is = cc
moment_of (Some e) endian t is = refl

-- ---- how many values a scan has

length-elements : (f : ℕ → ℤ) (n : ℕ) → length (elements_below f n) ≡ n
length-elements f zero = refl
length-elements f (suc n) = length-append (elements_below f n) (f n ∷ []) ∙ (let before = length-elements f n in omega (arith, before))

-- the number of values of the data channels before channel c
length-below : (xs ys : List Format) (f : ℕ → ℕ → ℤ) (c : ℕ) → c ≤ length xs
    → length (values_below (xs ++ ys) f c) ≡ sum_by (λ (t : Format). t.repeat) (take c xs)
length-below xs ys f zero few = refl
length-below xs ys f (suc c) few =
    let d : Format = stamp_format Little in
    let less : c < length xs = omega (arith, few) in
    let before = length-below xs ys f c (omega (arith, few)) in
    let here : format_at (xs ++ ys) c ≡ slice_index_or xs c d = get_or_append_left xs ys d c less in
    let one : sum_by (λ (t : Format). t.repeat) (slice_index_or xs c d ∷ []) ≡ (slice_index_or xs c d).repeat = omega arith in
    length-append (values_below (xs ++ ys) f c) (elements_below (f c) (format_at (xs ++ ys) c).repeat)
    ∙ ap (λ (n : ℕ). length (values_below (xs ++ ys) f c) + n) (length-elements (f c) (format_at (xs ++ ys) c).repeat ∙ ap (λ (t : Format). t.repeat) here)
    ∙ ap (λ (n : ℕ). n + (slice_index_or xs c d).repeat) before
    ∙ ap (λ (n : ℕ). sum_by (λ (t : Format). t.repeat) (take c xs) + n) (sym one)
    ∙ sym (sum_by-append (λ (t : Format). t.repeat) (take c xs) (slice_index_or xs c d ∷ []))
    ∙ ap (λ (ts : List Format). sum_by (λ (t : Format). t.repeat) ts) (sym (take_more xs c d less) ∙ ap (λ (n : ℕ). take n xs) (add-one c))

widths : (channels : List Channel) → sum_by (λ (t : Format). t.repeat) (map (λ channel. channel.ty) channels) ≡ sum_by (λ channel. channel.ty.repeat) channels
widths [] = refl
widths (x ∷ xs) =
    sum_by-append (λ (t : Format). t.repeat) (x.ty ∷ []) (map (λ channel. channel.ty) xs)
    ∙ ap (λ (n : ℕ). sum_by (λ (t : Format). t.repeat) (x.ty ∷ []) + n) (widths xs)
    ∙ sym (sum_by-append (λ (channel : Channel). channel.ty.repeat) (x ∷ []) xs)

-- a value for each element of each data channel
pub length-values : (shape : ShapeRecord) (f : ℕ → ℕ → ℤ) → length (values_by shape f) ≡ width_of shape
length-values shape f =
    let xs : List Format = map (λ channel. channel.ty) shape.channels in
    let long : length xs ≡ length shape.channels = length-map shape.channels (λ channel. channel.ty) in
    length-below xs (stamp_formats shape.stamp) f (length shape.channels) (omega (arith, long))
    ∙ ap (λ (ts : List Format). sum_by (λ (t : Format). t.repeat) ts) (take_all (length shape.channels) xs (omega (arith, long)))
    ∙ widths shape.channels
