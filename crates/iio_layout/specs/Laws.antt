-- Laws of masks, layouts and scans, for proofs alone: no public clause cites this file. Which channels a mask has, how many
-- values a capture has, how long a scan is, and each of its bytes.
use Rattle.std.proofs.Common.{◌≡◌, ℕ, zero, suc, ◌+◌, ◌-◌, ◌*◌, ◌^◌, ◌<◌, ◌≤◌, Bool, true, false, List, [], ◌∷◌, ◌++◌, length, get_or, map, take, drop, replicate, sum_by, fold, Option, Some, None, ℤ, refl, sym, ap, ◌∙◌, inl, inr, arith, add-one}
use Rattle.std.specs.Prelude.{◌||◌}
use Rattle.std.specs.Int.{bytes_high_first, bytes_low_first, next_multiple_of}
use Rattle.std.proofs.lemmas.Bool.{cases_Bool, cases_lt}
use Rattle.std.proofs.lemmas.List.{get_or_append_left, get_or-append_right, get_or_past, get_or-replicate, length-append, length-drop, length-map, length-replicate, length-take, take_all}
use Rattle.std.proofs.lemmas.List.Sums.{sum_by-append, sum_by_more, sum_by-take-le}
use Rattle.iio_mask.specs.Mask.{has}
use Rattle.iio_scan_type.specs.Bytes.{channel_bytes, element_bytes, low_bits, number_bytes}
use Rattle.iio_scan_type.specs.Format.{Format, element_size, size_of, stamp_format}
use Rattle.iio_scan_type.specs.declared.Endian.{Endian}
use Rattle.iio_scan_type.specs.declared.Endian.TheVariants.{Big, Little}
use Rattle.iio_layout.specs.declared.channel.Channel.{Channel}
use Rattle.iio_layout.specs.Active.{has_below, has_data}
use Rattle.iio_layout.specs.Layout.{Covers, end_after, end_below, format_at, largest_below, place_of, scan_size, size_at}
use Rattle.iio_layout.specs.Scan.{capture_values, elements_below, field_at, field_of, first_value, front_below, padded, scan_of, values_at, values_below, values_by, with_field}
use Rattle.iio_layout.specs.Shape.{ShapeRecord, count_of, formats_of, stamp_formats, width_of}

-- ---- how many bytes a channel has

length-low_first : (i k n : ℕ) → length (bytes_low_first i k n) ≡ k
length-low_first i zero n = refl
length-low_first i (suc k) n = let rest = length-low_first (suc i) k n in omega (arith, rest)

length-high_first : (k n : ℕ) → length (bytes_high_first k n) ≡ k
length-high_first zero n = refl
length-high_first (suc k) n = let rest = length-high_first k n in omega (arith, rest)

pub length-number_bytes : (endian : Endian) (size n : ℕ) → length (number_bytes endian size n) ≡ size
length-number_bytes Little size n = length-low_first 0 size n
length-number_bytes Big size n = length-high_first size n

length-elements : (ty : Format) (values : List ℤ) → length (channel_bytes ty values) ≡ element_size ty * length values
length-elements ty [] = omega arith
length-elements ty (v ∷ vs) =
    let one = length-number_bytes ty.endian (element_size ty) (low_bits ty.realbits v * 2 ^ ty.shift) in
    let rest = length-elements ty vs in
    let both = length-append (element_bytes ty v) (channel_bytes ty vs) in
    omega (arith, one, rest, both)

-- a channel has as many bytes as its type says
pub length-channel_bytes : (ty : Format) (values : List ℤ) → length values ≡ ty.repeat → length (channel_bytes ty values) ≡ size_of ty
length-channel_bytes ty values many = length-elements ty values ∙ ap (λ n. element_size ty * n) many

-- ---- how many values there are

-- the values before a channel, by the types and by the channels
repeats_before : (xs : List Channel) (rest : List Format) (c n : ℕ) → c ≤ length xs
    → fold (λ a f. a + f.repeat) n (take c (map (λ channel. channel.ty) xs ++ rest)) ≡ fold (λ a channel. a + channel.ty.repeat) n (take c xs)
repeats_before xs rest zero n within = refl
repeats_before [] rest (suc c) n within = absurd (omega arith)
repeats_before (x ∷ xs) rest (suc c) n within = repeats_before xs rest c (n + x.ty.repeat) (omega arith)

pub first_value_is : (xs : List Channel) (rest : List Format) (c : ℕ) → c ≤ length xs
    → sum_by (λ f. f.repeat) (take c (map (λ channel. channel.ty) xs ++ rest)) ≡ sum_by (λ channel. channel.ty.repeat) (take c xs)
first_value_is xs rest c within = repeats_before xs rest c 0 within

-- how many types there are
pub count_is : (shape : ShapeRecord) → count_of shape ≡ length shape.channels + length (stamp_formats shape.stamp)
count_is shape =
    length-append (map (λ channel. channel.ty) shape.channels) (stamp_formats shape.stamp)
    ∙ ap (λ n. n + length (stamp_formats shape.stamp)) (length-map shape.channels (λ channel. channel.ty))

-- ---- the channels of a mask

-- a mask that has a channel below a number names one
pub some_below : (mask n : ℕ) → has_below mask n ≡ true → (c : ℕ) × (c < n) × (has mask c ≡ true)
some_below mask zero h = absurd (cc)
some_below mask (suc n) h = by (has mask n) refl h (some_below mask n)
  where
    by : (b : Bool) → has mask n ≡ b → (b || has_below mask n) ≡ true
        → (has_below mask n ≡ true → (c : ℕ) × (c < n) × (has mask c ≡ true)) → (c : ℕ) × (c < suc n) × (has mask c ≡ true)
    by true e h below = (n, omega arith, e)
    by false e h below = let s = below h in (s.0, omega (arith, s.1), s.2)

-- a mask that names a channel below a number has one
pub has_below_at : (mask c n : ℕ) → c < n → has mask c ≡ true → has_below mask n ≡ true
has_below_at mask c zero below here = absurd (omega arith)
has_below_at mask c (suc n) below here = by (has mask n) refl (has_below_at mask c n)
  where
    by : (b : Bool) → has mask n ≡ b → (c < n → has mask c ≡ true → has_below mask n ≡ true) → (b || has_below mask n) ≡ true
    by true e earlier = refl
    by false e earlier = elim (cases_lt c n) [
      | inl under ↦ earlier under here
      | inr over ↦ let same : c ≡ n = omega arith in absurd (cc (sym e ∙ ap (λ (k : ℕ). has mask k) (sym same) ∙ here))
    ]

-- a data channel is a channel
pub data_channel : (shape : ShapeRecord) (c : ℕ) → c < length shape.channels → c < count_of shape
data_channel shape c less = omega (arith, less, count_is shape)

-- a mask with a data channel has a channel
pub data_below : (shape : ShapeRecord) (mask : ℕ) → has_data shape mask ≡ true → has_below mask (count_of shape) ≡ true
data_below shape mask h =
    let s = some_below mask (length shape.channels) h in
    has_below_at mask s.0 (count_of shape) (data_channel shape s.0 s.1) s.2

-- as many elements as were asked for
pub length-elements_below : (value : ℕ → ℤ) (n : ℕ) → length (elements_below value n) ≡ n
length-elements_below value zero = refl
length-elements_below value (suc n) =
    let before = length-elements_below value n in
    let both = length-append (elements_below value n) (value n ∷ []) in
    omega (arith, before, both)

-- the values before the next channel are those before this one and its own
pub first_value_more : (formats : List Format) (c : ℕ) → c < length formats → first_value formats (c + 1) ≡ first_value formats c + (format_at formats c).repeat
first_value_more formats c h = sum_by_more (λ f. f.repeat) formats c (stamp_format Little) h

-- all data channels have as many values as the shape's width
pub first_value_all : (shape : ShapeRecord) → first_value (formats_of shape) (length shape.channels) ≡ width_of shape
first_value_all shape =
    first_value_is shape.channels (stamp_formats shape.stamp) (length shape.channels) (omega arith)
    ∙ ap (λ xs. sum_by (λ channel. channel.ty.repeat) xs) (take_all (length shape.channels) shape.channels (omega arith))

pub length-values_below : (formats : List Format) (value : ℕ → ℕ → ℤ) (c : ℕ) → c ≤ length formats
    → length (values_below formats value c) ≡ first_value formats c
length-values_below formats value zero within = refl
length-values_below formats value (suc c) within =
    let before = length-values_below formats value c (omega arith) in
    let own = length-elements_below (value c) (format_at formats c).repeat in
    let more = first_value_more formats c (omega arith) in
    let both = length-append (values_below formats value c) (elements_below (value c) (format_at formats c).repeat) in
    both ∙ rw (← add-one c) (omega (arith, before, own, more))

-- the number of elements of all data channels is the shape's width
pub length-values_by : (shape : ShapeRecord) (value : ℕ → ℕ → ℤ) → length (values_by shape value) ≡ width_of shape
length-values_by shape value =
    let count = count_is shape in
    length-values_below (formats_of shape) value (length shape.channels) (omega arith) ∙ first_value_all shape

repeats_all : (xs : List Channel) (n : ℕ)
    → fold (λ a f. a + f.repeat) n (map (λ channel. channel.ty) xs) ≡ fold (λ a channel. a + channel.ty.repeat) n xs
repeats_all [] n = refl
repeats_all (x ∷ xs) n = repeats_all xs (n + x.ty.repeat)

stamp_repeats : (stamp : Option Endian) → sum_by (λ f. f.repeat) (stamp_formats stamp) ≤ 1
stamp_repeats None = omega arith
stamp_repeats (Some endian) = omega arith

-- with the moment, there are values for all channels
values_enough : (shape : ShapeRecord) → sum_by (λ f. f.repeat) (formats_of shape) ≤ width_of shape + 1
values_enough shape =
    let types = map (λ channel. channel.ty) shape.channels in
    let both = sum_by-append (λ f. f.repeat) types (stamp_formats shape.stamp) in
    let all = repeats_all shape.channels 0 in
    let one = stamp_repeats shape.stamp in
    omega (arith, both, all, one)

values_at_many : (shape : ShapeRecord) (values : List ℤ) (t : ℤ) (c : ℕ) → length values ≡ width_of shape → c < count_of shape
    → length (values_at (formats_of shape) (capture_values values t) c) ≡ (format_at (formats_of shape) c).repeat
values_at_many shape values t c wide within =
    let formats = formats_of shape in
    let all = capture_values values t in
    let enough = values_enough shape in
    let more = sum_by_more (λ f. f.repeat) formats c (stamp_format Little) within in
    let below = sum_by-take-le (λ f. f.repeat) formats (c + 1) in
    let long = length-append values (t ∷ []) in
    omega (arith, length-take (format_at formats c).repeat (drop (first_value formats c) all), length-drop (first_value formats c) all)

-- a channel has as many bytes as its size
field_size : (shape : ShapeRecord) (values : List ℤ) (t : ℤ) (c : ℕ) → length values ≡ width_of shape → c < count_of shape
    → length (field_of shape values t c) ≡ size_at (formats_of shape) c
field_size shape values t c wide within =
    length-channel_bytes (format_at (formats_of shape) c) (values_at (formats_of shape) (capture_values values t) c)
    (values_at_many shape values t c wide within)

-- ---- where the channels end

end_after-ge : (selected : Bool) (end size : ℕ) → end ≤ end_after selected end size
end_after-ge true end size = omega arith
end_after-ge false end size = omega arith

pub end_grows : (formats : List Format) (mask c n : ℕ) → c ≤ n → end_below formats mask c ≤ end_below formats mask n
end_grows formats mask c zero within = let same : c ≡ 0 = omega arith in rw same (omega arith)
end_grows formats mask c (suc n) within =
    elim (cases_lt n c) [
      | inl last ↦ let same : c ≡ suc n = omega arith in rw same (omega arith)
      | inr before ↦
          let more = end_grows formats mask c n before in
          let next = end_after-ge (has mask n) (end_below formats mask n) (size_at formats n) in
          omega (arith, more, next)
    ]

-- every channel before channel n has the bytes of its size
abbrev AreSized : List Format → List ℤ → ℕ → Type 0
AreSized formats values n = (c : ℕ) → c < n → length (field_at formats values c) ≡ size_at formats c

length-padded : (bytes : List ℕ) (size : ℕ) → length (padded bytes size) ≡ next_multiple_of (length bytes) size
length-padded bytes size =
    let both = length-append bytes (replicate (next_multiple_of (length bytes) size - length bytes) 0) in
    let zeros = length-replicate {A = ℕ} (next_multiple_of (length bytes) size - length bytes) 0 in
    omega (arith, both, zeros)

length-with_field : (selected : Bool) (front : List ℕ) (end size : ℕ) (field : List ℕ) → length front ≡ end → length field ≡ size
    → length (with_field selected front size field) ≡ end_after selected end size
length-with_field true front end size field is_end is_size =
    let both = length-append (padded front size) field in
    let pad = length-padded front size in
    let place = ap (λ n. next_multiple_of n size) is_end in
    omega (arith, both, pad, place)
length-with_field false front end size field is_end is_size = is_end

length-front_below : (formats : List Format) (mask : ℕ) (values : List ℤ) (n : ℕ) → AreSized formats values n
    → length (front_below formats mask values n) ≡ end_below formats mask n
length-front_below formats mask values zero sized = refl
length-front_below formats mask values (suc n) sized =
    length-with_field (has mask n) (front_below formats mask values n) (end_below formats mask n) (size_at formats n) (field_at formats values n)
    (length-front_below formats mask values n (λ c below. sized c (omega arith))) (sized n (omega arith))

all_sized : (shape : ShapeRecord) (values : List ℤ) (t : ℤ) → length values ≡ width_of shape
    → AreSized (formats_of shape) (capture_values values t) (count_of shape)
all_sized shape values t wide = λ c below. field_size shape values t c wide below

-- a scan has as many bytes as its size
pub length-scan_of : (shape : ShapeRecord) (mask : ℕ) (values : List ℤ) (t : ℤ) → length values ≡ width_of shape
    → length (scan_of shape mask values t) ≡ scan_size shape mask
length-scan_of shape mask values t wide =
    let formats = formats_of shape in
    let largest = largest_below formats mask (count_of shape) in
    length-padded (front_below formats mask (capture_values values t) (count_of shape)) largest
    ∙ ap (λ n. next_multiple_of n largest) (length-front_below formats mask (capture_values values t) (count_of shape) (all_sized shape values t wide))

-- ---- each byte

-- zero bytes after a list read like what is past its end
zeros_after : (bytes : List ℕ) (k j : ℕ) → get_or (bytes ++ replicate k 0) j 0 ≡ get_or bytes j 0
zeros_after bytes k j =
    elim (cases_lt j (length bytes)) [
      | inl inside ↦ get_or_append_left bytes (replicate k 0) 0 j inside
      | inr after ↦
          get_or-append_right bytes (replicate k 0) (length bytes) j 0 refl after
          ∙ zero_at k (j - length bytes) ∙ sym (get_or_past bytes j 0 after)
    ]
  where
    zero_at : (k i : ℕ) → get_or {A = ℕ} (replicate k 0) i 0 ≡ 0
    zero_at k i =
        elim (cases_lt i k) [
          | inl inside ↦ get_or-replicate k i 0 0 inside
          | inr past ↦ get_or_past (replicate k 0) i 0 (let count = length-replicate {A = ℕ} k 0 in omega arith)
        ]

-- what stands before a channel stays
front_stays : (selected : Bool) (front : List ℕ) (size : ℕ) (field : List ℕ) (j : ℕ) → j < length front
    → get_or (with_field selected front size field) j 0 ≡ get_or front j 0
front_stays true front size field j inside =
    get_or_append_left (padded front size) field 0 j (let pad = length-padded front size in omega (arith, pad))
    ∙ zeros_after front (next_multiple_of (length front) size - length front) j
front_stays false front size field j inside = refl

-- a channel's own bytes stand at its place
front_own : (front : List ℕ) (end size : ℕ) (field : List ℕ) (j : ℕ) → length front ≡ end
    → get_or (padded front size ++ field) (next_multiple_of end size + j) 0 ≡ get_or field j 0
front_own front end size field j is_end =
    let place = next_multiple_of end size in
    let pad : length (padded front size) ≡ place = length-padded front size ∙ ap (λ n. next_multiple_of n size) is_end in
    let after : place + j - place ≡ j = omega arith in
    get_or-append_right (padded front size) field place (place + j) 0 pad (omega arith) ∙ ap (λ i. get_or field i 0) after

front_at : (formats : List Format) (mask : ℕ) (values : List ℤ) (n c j : ℕ) → AreSized formats values n → c < n → has mask c ≡ true → j < size_at formats c
    → get_or (front_below formats mask values n) (next_multiple_of (end_below formats mask c) (size_at formats c) + j) 0
    ≡ get_or (field_at formats values c) j 0
front_at formats mask values zero c j sized within selected inside = absurd (omega arith)
front_at formats mask values (suc n) c j sized within selected inside =
    let before = λ (k : ℕ) (below : k < n). sized k (omega arith) in
    let len = length-front_below formats mask values n before in
    elim (cases_lt c n) [
      | inl earlier ↦
          let next = end_grows formats mask (suc c) n (omega arith) in
          let own : end_below formats mask (suc c) ≡ next_multiple_of (end_below formats mask c) (size_at formats c) + size_at formats c = rw selected refl in
          front_stays (has mask n) (front_below formats mask values n) (size_at formats n) (field_at formats values n)
          (next_multiple_of (end_below formats mask c) (size_at formats c) + j) (omega (arith, len, next, own))
          ∙ front_at formats mask values n c j before earlier selected inside
      | inr last ↦
          let same : c ≡ n = omega arith in
          let selected' : has mask n ≡ true = rw same at selected in
          rw (same, selected') (front_own (front_below formats mask values n) (end_below formats mask n) (size_at formats n) (field_at formats values n) j len)
    ]

-- byte j of a selected channel stands in the scan j bytes after the channel's place
pub scan_of-at : (shape : ShapeRecord) (mask : ℕ) (values : List ℤ) (t : ℤ) (c j : ℕ) → length values ≡ width_of shape → c < count_of shape → has mask c ≡ true
    → j < size_at (formats_of shape) c → get_or (scan_of shape mask values t) (place_of shape mask c + j) 0 ≡ get_or (field_of shape values t c) j 0
scan_of-at shape mask values t c j wide within selected inside =
    let formats = formats_of shape in
    let all = capture_values values t in
    let front = front_below formats mask all (count_of shape) in
    zeros_after front (next_multiple_of (length front) (largest_below formats mask (count_of shape)) - length front) (place_of shape mask c + j)
    ∙ front_at formats mask all (count_of shape) c j (all_sized shape values t wide) within selected inside

-- byte j lies in no selected channel before channel n
abbrev LiesOutside : List Format → ℕ → ℕ → ℕ → Type 0
LiesOutside formats mask n j = (c : ℕ) → c < n → has mask c ≡ true → next_multiple_of (end_below formats mask c) (size_at formats c) ≤ j
    → j < next_multiple_of (end_below formats mask c) (size_at formats c) + size_at formats c → ⊥

front_zero : (formats : List Format) (mask : ℕ) (values : List ℤ) (n j : ℕ) → AreSized formats values n → LiesOutside formats mask n j
    → get_or (front_below formats mask values n) j 0 ≡ 0
front_zero formats mask values zero j sized outside = refl
front_zero formats mask values (suc n) j sized outside =
    let front = front_below formats mask values n in
    let size = size_at formats n in
    let field = field_at formats values n in
    let before = λ (k : ℕ) (below : k < n). sized k (omega arith) in
    let rest = front_zero formats mask values n j before (λ c below. outside c (omega arith)) in
    let len = length-front_below formats mask values n before in
    let place = next_multiple_of (end_below formats mask n) size in
    let pad : length (padded front size) ≡ place = length-padded front size ∙ ap (λ m. next_multiple_of m size) len in
    elim (cases_Bool (has mask n)) [
      | inl selected ↦
          rw selected (elim (cases_lt j place) [
            | inl ahead ↦
                get_or_append_left (padded front size) field 0 j (omega arith)
                ∙ zeros_after front (next_multiple_of (length front) size - length front) j ∙ rest
            | inr after ↦
                elim (cases_lt j (place + size)) [
                  | inl own ↦ absurd (outside n (omega arith) selected after own)
                  | inr past ↦
                      get_or_past (padded front size ++ field) j 0
                      (let both = length-append (padded front size) field in let own = sized n (omega arith) in omega (arith, both, own))
                ]
          ])
      | inr other ↦ rw other rest
    ]

-- a byte that lies in no selected channel is 0
pub scan_of-outside : (shape : ShapeRecord) (mask : ℕ) (values : List ℤ) (t : ℤ) (j : ℕ) → length values ≡ width_of shape
    → ((c : ℕ) → ¬ Covers shape mask c j) → get_or (scan_of shape mask values t) j 0 ≡ 0
scan_of-outside shape mask values t j wide outside =
    let formats = formats_of shape in
    let all = capture_values values t in
    let front = front_below formats mask all (count_of shape) in
    zeros_after front (next_multiple_of (length front) (largest_below formats mask (count_of shape)) - length front) j
    ∙ front_zero formats mask all (count_of shape) j (all_sized shape values t wide)
    (λ c below selected after inside. outside c (below, selected, after, inside))
