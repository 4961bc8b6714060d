-- What a scan of all channels was laid out of is read back.
use Rattle.std.proofs.Common.{◌≡◌, ◌==◌, inl, inr, ℕ, zero, suc, ◌+◌, ◌-◌, ◌<◌, true, ◌≤◌, Option, Some, List, [], ◌∷◌, ◌++◌, length, get_or, map, take, drop, ℤ, pos, refl, sym, ap, ◌∙◌, arith, add-one, subst, All}
use Rattle.std.proofs.lemmas.Bool.{cases_lt}
use Rattle.std.proofs.lemmas.List.{get_or_default, get_or-append_right, get_or-drop, get_or-map, get_or-take, get_or_append_left, length-append, length-drop, length-map, length-take, same_lists, take_all, take_more}
use Rattle.std.proofs.lemmas.List.Elements.{All-get_or}
use Rattle.std.proofs.lemmas.Nat.Bits.{bit_at_ones}
use Rattle.std.proofs.Math.Seq.{drop-append_seam, take-add}
use Rattle.iio_mask.specs.Mask.{has}
use Rattle.iio_scan_type.specs.declared.Endian.{Endian}
use Rattle.iio_scan_type.specs.declared.Endian.TheVariants.{Big, Little}
use Rattle.iio_scan_type.specs.Bytes.{channel_bytes, value_at}
use Rattle.iio_scan_type.specs.Format.{Format, IsInProfile, IsInRange, stamp_format}
use Rattle.iio_scan_type.proofs.Elements.{value_at-channel_bytes}
use Rattle.iio_layout.specs.declared.channel.Channel.{Channel}
use Rattle.iio_layout.specs.Laws.{data_channel, first_value_all, first_value_more, length-channel_bytes, length-scan_of, scan_of-at}
use Rattle.iio_layout.specs.Layout.{format_at, place_of, size_at}
use Rattle.iio_layout.specs.Scan.{capture_values, elements_below, field_of, first_value, scan_of, values_at, values_below}
use Rattle.iio_layout.specs.Shape.{ShapeRecord, count_of, formats_of, stamp_formats, width_of}
use Rattle.iio_layout.proofs.LayoutLemmas.{end_within}
use Rattle.iio_derive.specs.ReadBack.{IsCapture, ReadingLaw}
use Rattle.iio_derive.specs.Values.{moment_by, value_in, values_in}
use Rattle.iio_derive.specs.Window.{full_mask}
use Rattle.iio_derive.proofs.ReadLemmas.{stamp_there}

-- each channel is in the mask of all
full_has : (shape : ShapeRecord) (c : ℕ) → c < count_of shape → has (full_mask shape) c ≡ true
full_has shape c within = ap (λ n. n == 1) (bit_at_ones (count_of shape) c within)

-- a channel's bytes stand at its place
field_stands : (shape : ShapeRecord) (values : List ℤ) (t : ℤ) (c : ℕ) → length values ≡ width_of shape → c < count_of shape
    → length (values_at (formats_of shape) (capture_values values t) c) ≡ (format_at (formats_of shape) c).repeat
    → take (size_at (formats_of shape) c) (drop (place_of shape (full_mask shape) c) (scan_of shape (full_mask shape) values t)) ≡ field_of shape values t c
field_stands shape values t c width within many =
    same_lists (take n (drop place scan)) (field_of shape values t c) (cut ∙ sym own) (λ j d inside. at j d (omega (arith, inside, cut)))
  where
    full : ℕ
    full = full_mask shape

    n : ℕ
    n = size_at (formats_of shape) c

    place : ℕ
    place = place_of shape full c

    scan : List ℕ
    scan = scan_of shape full values t

    own : length (field_of shape values t c) ≡ n
    own = length-channel_bytes (format_at (formats_of shape) c) (values_at (formats_of shape) (capture_values values t) c) many

    cut : length (take n (drop place scan)) ≡ n
    cut =
        let ends = end_within shape full c within (full_has shape c within) in
        let long = length-scan_of shape full values t width in
        omega (arith, ends, long, length-take n (drop place scan), length-drop place scan)

    at : (j d : ℕ) → j < n → get_or (take n (drop place scan)) j d ≡ get_or (field_of shape values t c) j d
    at j d inside =
        get_or_default (take n (drop place scan)) j d 0 (omega (arith, inside, cut))
        ∙ get_or-take n (drop place scan) j 0 inside ∙ get_or-drop place scan j 0
        ∙ scan_of-at shape full values t c j width within (full_has shape c within) inside
        ∙ sym (get_or_default (field_of shape values t c) j d 0 (omega (arith, inside, own)))

-- elements that are those of a list, one by one
elements_are : (value : ℕ → ℤ) (xs : List ℤ) (n : ℕ) → n ≤ length xs → ((k : ℕ) → k < n → value k ≡ get_or xs k (pos 0)) → elements_below value n ≡ take n xs
elements_are value xs zero few same = refl
elements_are value xs (suc n) few same =
    ap (λ (ys : List ℤ). ys ++ value n ∷ []) (elements_are value xs n (omega (arith, few)) (λ k less. same k (omega (arith, less))))
    ∙ ap (λ (v : ℤ). take n xs ++ v ∷ []) (same n (omega arith))
    ∙ sym (take_more xs n (pos 0) (omega (arith, few))) ∙ ap (λ (m : ℕ). take m xs) (add-one n)

-- a channel's values come after those of the channels before
first_grows : (formats : List Format) (c n : ℕ) → c ≤ n → n ≤ length formats → first_value formats c ≤ first_value formats n
first_grows formats c zero within few = let same : c ≡ 0 = omega (arith, within) in rw same (omega arith)
first_grows formats c (suc n) within few =
    elim (cases_lt n c) [
      | inl last ↦ let same : c ≡ suc n = omega (arith, last, within) in rw same (omega arith)
      | inr before ↦
          let less = first_grows formats c n before (omega (arith, few)) in
          let more = first_value_more formats n (omega (arith, few)) in
          let next : first_value formats n ≤ first_value formats (n + 1) = omega (arith, more) in
          let next' : first_value formats n ≤ first_value formats (suc n) = rw (← add-one n) next in
          omega (arith, less, next')
    ]

-- ---- a data channel

-- the channel's type
data_type : (shape : ShapeRecord) (c : ℕ) (d : Channel) → c < length shape.channels → format_at (formats_of shape) c ≡ (get_or shape.channels c d).ty
data_type shape c d less =
    let types = map (λ channel. channel.ty) shape.channels in
    get_or_append_left types (stamp_formats shape.stamp) (stamp_format Little) c (omega (arith, less, length-map shape.channels (λ channel. channel.ty)))
    ∙ get_or-map (λ channel. channel.ty) shape.channels c d (stamp_format Little) less

data_profile : (shape : ShapeRecord) (c : ℕ) → c < length shape.channels → All (λ channel. IsInProfile channel.ty) shape.channels
    → IsInProfile (format_at (formats_of shape) c)
data_profile shape c less types = by shape.channels refl
  where
    by : (channels : List Channel) → shape.channels ≡ channels → IsInProfile (format_at (formats_of shape) c)
    by [] none = absurd (omega (arith, less, ap (λ (xs : List Channel). length xs) none))
    by (d ∷ rest) some =
        subst IsInProfile (sym (data_type shape c d less)) (All-get_or (λ channel. IsInProfile channel.ty) shape.channels c d less types)

-- a channel's values end within those of all data channels
data_ends : (shape : ShapeRecord) (c : ℕ) → c < length shape.channels
    → first_value (formats_of shape) c + (format_at (formats_of shape) c).repeat ≤ width_of shape
data_ends shape c less =
    let formats = formats_of shape in
    let there = data_channel shape c less in
    let count : length shape.channels ≤ length formats =
    omega (arith, length-append (map (λ channel. channel.ty) shape.channels) (stamp_formats shape.stamp), length-map shape.channels (λ channel. channel.ty)) in
    let more = first_value_more formats c there in
    let grows = first_grows formats (c + 1) (length shape.channels) (omega (arith, less)) count in
    omega (arith, more, grows, first_value_all shape)

module _ (shape : ShapeRecord) (values : List ℤ) (t : ℤ) (capture : IsCapture shape values) where
  abbrev scan : List ℕ
  scan = scan_of shape (full_mask shape) values t

  abbrev all : List ℤ
  all = capture_values values t

  -- value k of channel c, among all
  one_of : (c k : ℕ) → c < length shape.channels → k < (format_at (formats_of shape) c).repeat
      → get_or (values_at (formats_of shape) all c) k (pos 0) ≡ get_or values (first_value (formats_of shape) c + k) (pos 0)
  one_of c k less inside =
      get_or-take (format_at (formats_of shape) c).repeat (drop (first_value (formats_of shape) c) all) k (pos 0) inside
      ∙ get_or-drop (first_value (formats_of shape) c) all k (pos 0)
      ∙ get_or_append_left values (t ∷ []) (pos 0) (first_value (formats_of shape) c + k) (omega (arith, inside, data_ends shape c less, capture.width))

  own_of : (c k : ℕ) → k < (format_at (formats_of shape) c).repeat
      → get_or (values_at (formats_of shape) values c) k (pos 0) ≡ get_or values (first_value (formats_of shape) c + k) (pos 0)
  own_of c k inside =
      get_or-take (format_at (formats_of shape) c).repeat (drop (first_value (formats_of shape) c) values) k (pos 0) inside
      ∙ get_or-drop (first_value (formats_of shape) c) values k (pos 0)

  many : (xs : List ℤ) (c : ℕ) → length values ≤ length xs → c < length shape.channels
      → length (values_at (formats_of shape) xs c) ≡ (format_at (formats_of shape) c).repeat
  many xs c enough less =
      let r = (format_at (formats_of shape) c).repeat in
      let f = first_value (formats_of shape) c in
      omega (arith, length-take r (drop f xs), length-drop f xs, data_ends shape c less, capture.width, enough)

  longer : length values ≤ length all
  longer = omega (arith, length-append values (t ∷ []))

  value_back : (c k : ℕ) → c < length shape.channels → k < (format_at (formats_of shape) c).repeat
      → value_in shape scan c k ≡ get_or values (first_value (formats_of shape) c + k) (pos 0)
  value_back c k less inside =
      let ty = format_at (formats_of shape) c in
      let count = many all c longer less in
      let within : k < length (values_at (formats_of shape) values c) = omega (arith, inside, many values c (omega arith) less) in
      let range : IsInRange ty (get_or (values_at (formats_of shape) values c) k (pos 0)) =
      All-get_or (λ v. IsInRange ty v) (values_at (formats_of shape) values c) k (pos 0) within (capture.ranges c less) in
      ap (λ (bytes : List ℕ). value_at ty bytes k) (field_stands shape values t c capture.width (data_channel shape c less) count)
      ∙ value_at-channel_bytes ty (values_at (formats_of shape) all c) k (pos 0) (data_profile shape c less capture.types) (omega (arith, inside, count))
      (subst (λ v. IsInRange ty v) (own_of c k inside ∙ sym (one_of c k less inside)) range)
      ∙ one_of c k less inside

  values_back : (c : ℕ) → c ≤ length shape.channels → values_below (formats_of shape) (value_in shape scan) c ≡ take (first_value (formats_of shape) c) values
  values_back zero few = refl
  values_back (suc c) few =
      let less : c < length shape.channels = omega (arith, few) in
      let f = first_value (formats_of shape) c in
      let r = (format_at (formats_of shape) c).repeat in
      ap (λ (xs : List ℤ). xs ++ elements_below (value_in shape scan c) r) (values_back c (omega (arith, few)))
      ∙ ap (λ (xs : List ℤ). take f values ++ xs)
      (elements_are (value_in shape scan c) (drop f values) r (omega (arith, length-drop f values, data_ends shape c less, capture.width))
      (λ k inside. value_back c k less inside ∙ sym (get_or-drop f values k (pos 0))))
      ∙ sym (take-add f r values)
      ∙ ap (λ (n : ℕ). take n values)
      (sym (first_value_more (formats_of shape) c (data_channel shape c less)) ∙ ap (λ (n : ℕ). first_value (formats_of shape) n) (add-one c))

  all_back : values_in shape scan ≡ values
  all_back =
      values_back (length shape.channels) (omega arith)
      ∙ ap (λ (n : ℕ). take n values) (first_value_all shape ∙ sym capture.width) ∙ take_all (length values) values (omega arith)

  -- ---- the moment

  stamp_type : (endian : Endian) → shape.stamp ≡ Some endian → format_at (formats_of shape) (length shape.channels) ≡ stamp_format endian
  stamp_type endian is =
      let types = map (λ channel. channel.ty) shape.channels in
      let long : length types ≡ length shape.channels = length-map shape.channels (λ channel. channel.ty) in
      get_or-append_right types (stamp_formats shape.stamp) (length shape.channels) (length shape.channels) (stamp_format Little) long (omega arith)
      ∙ ap (λ (n : ℕ). get_or (stamp_formats shape.stamp) n (stamp_format Little))
      (let none : length shape.channels - length shape.channels ≡ 0 = omega arith in none)
      ∙ ap (λ (o : Option Endian). get_or (stamp_formats o) 0 (stamp_format Little)) is

  stamp_values : (endian : Endian) → shape.stamp ≡ Some endian → values_at (formats_of shape) all (length shape.channels) ≡ t ∷ []
  stamp_values endian is =
      ap (λ (ty : Format). take ty.repeat (drop (first_value (formats_of shape) (length shape.channels)) all)) (stamp_type endian is)
      ∙ ap (λ (n : ℕ). take 1 (drop n all)) (first_value_all shape ∙ sym capture.width)
      ∙ ap (λ (xs : List ℤ). take 1 xs) (drop-append_seam values (t ∷ []))

  moment_back : (endian : Endian) → shape.stamp ≡ Some endian → IsInRange (stamp_format endian) t
      → moment_by shape.stamp (value_in shape scan (length shape.channels) 0) ≡ t
  moment_back endian is range =
      let c = length shape.channels in
      let count : length (values_at (formats_of shape) all c) ≡ (format_at (formats_of shape) c).repeat =
      ap (λ (xs : List ℤ). length xs) (stamp_values endian is) ∙ sym (ap (λ (ty : Format). ty.repeat) (stamp_type endian is)) in
      ap (λ (o : Option Endian). moment_by o (value_in shape scan c 0)) is
      ∙ ap (λ (bytes : List ℕ). value_at (format_at (formats_of shape) c) bytes 0)
      (field_stands shape values t c capture.width (stamp_there shape endian is) count)
      ∙ ap (λ (ty : Format). value_at ty (channel_bytes ty (values_at (formats_of shape) all c)) 0) (stamp_type endian is)
      ∙ ap (λ (xs : List ℤ). value_at (stamp_format endian) (channel_bytes (stamp_format endian) xs) 0) (stamp_values endian is)
      ∙ value_at-channel_bytes (stamp_format endian) (t ∷ []) 0 (pos 0) (profile endian) (omega arith) range
    where
      profile : (e : Endian) → IsInProfile (stamp_format e)
      profile Little = search
      profile Big = search

pub reading_law : ReadingLaw
reading_law shape values t capture = record { values = all_back shape values t capture; moment = moment_back shape values t capture }
