-- A scan at another moment: only the timestamp's bytes change.
use Rattle.std.proofs.Common.{◌≡◌, ℕ, zero, suc, ◌+◌, ◌-◌, ◌*◌, ◌^◌, ◌≤◌, true, false, List, [], ◌∷◌, ◌++◌, length, take, drop, replicate, Some, None, ℤ, refl, sym, ap, ◌∙◌, inl, inr, arith, add-one, append_assoc, append-nil}
use Rattle.std.specs.Int.{next_multiple_of}
use Rattle.std.proofs.lemmas.Bool.{cases_Bool}
use Rattle.std.proofs.lemmas.List.{drop_at, length-append, length-replicate, take_at}
use Rattle.iio_mask.specs.Mask.{has}
use Rattle.iio_scan_type.specs.Bytes.{channel_bytes, element_bytes, low_bits}
use Rattle.iio_scan_type.specs.Format.{Format, size_of, stamp_format}
use Rattle.iio_scan_type.specs.declared.Endian.{Endian}
use Rattle.iio_layout.specs.Laws.{count_is, length-channel_bytes, length-elements_below, length-number_bytes, length-scan_of, length-values_by}
use Rattle.iio_layout.specs.Layout.{end_below, format_at, largest_below, place_of, size_at}
use Rattle.iio_layout.specs.Scan.{capture_values, elements_below, field_at, field_of, front_below, padded, scan_of, values_by, with_field}
use Rattle.iio_layout.specs.Shape.{ShapeRecord, count_of, formats_of, stamp_formats}
use Rattle.iio_layout.proofs.LayoutLemmas.{end_within, stamp_type_of, stamp_values, stamped_count}
use Rattle.iio_layout.proofs.ValueLemmas.{data_field}

-- ---- what comes before the timestamp

-- the data channels' bytes are the same at each moment
front_same : (shape : ShapeRecord) (mask : ℕ) (value : ℕ → ℕ → ℤ) (t t' : ℤ) (c : ℕ) → c ≤ length shape.channels
    → front_below (formats_of shape) mask (capture_values (values_by shape value) t') c
    ≡ front_below (formats_of shape) mask (capture_values (values_by shape value) t) c
front_same shape mask value t t' zero within = refl
front_same shape mask value t t' (suc c) within =
    let formats = formats_of shape in
    let size : ℕ = size_at formats c in
    let before = front_same shape mask value t t' c (omega arith) in
    let now = data_field shape value t c (omega arith) in
    let then = data_field shape value t' c (omega arith) in
    ap (λ front. with_field (has mask c) front size (field_of shape (values_by shape value) t' c)) before
    ∙ ap (λ field. with_field (has mask c) (front_below formats mask (capture_values (values_by shape value) t) c) size field) (sym then ∙ now)

length-padded : (bytes : List ℕ) (size : ℕ) → length (padded bytes size) ≡ next_multiple_of (length bytes) size
length-padded bytes size =
    let both = length-append bytes (replicate (next_multiple_of (length bytes) size - length bytes) 0) in
    let zeros = length-replicate {A = ℕ} (next_multiple_of (length bytes) size - length bytes) 0 in
    omega (arith, both, zeros)

-- they end where the layout says
length-front : (shape : ShapeRecord) (mask : ℕ) (value : ℕ → ℕ → ℤ) (t : ℤ) (c : ℕ) → c ≤ length shape.channels
    → length (front_below (formats_of shape) mask (capture_values (values_by shape value) t) c) ≡ end_below (formats_of shape) mask c
length-front shape mask value t zero within = refl
length-front shape mask value t (suc c) within =
    let formats = formats_of shape in
    let size : ℕ = size_at formats c in
    let front : List ℕ = front_below formats mask (capture_values (values_by shape value) t) c in
    let field : List ℕ = field_of shape (values_by shape value) t c in
    let before = length-front shape mask value t c (omega arith) in
    let many = length-elements_below (value c) (format_at formats c).repeat in
    let own : length field ≡ size =
    ap length (sym (data_field shape value t c (omega arith)))
    ∙ length-channel_bytes (format_at formats c) (elements_below (value c) (format_at formats c).repeat) many in
    elim (cases_Bool (has mask c)) [
      | inl selected ↦
          rw selected (length-append (padded front size) field ∙ ap (λ n. n + length field) (length-padded front size)
          ∙ ap (λ n. next_multiple_of n size + length field) before
          ∙ ap (λ n. next_multiple_of (end_below formats mask c) size + n) own)
      | inr other ↦ rw other before
    ]

-- ---- if the moment has no bytes

-- without a timestamp
pub same_without : (shape : ShapeRecord) (mask : ℕ) (value : ℕ → ℕ → ℤ) (t t' : ℤ) → shape.stamp ≡ None
    → scan_of shape mask (values_by shape value) t' ≡ scan_of shape mask (values_by shape value) t
same_without shape mask value t t' none =
    let count = count_is shape in
    let no_stamp = ap (λ stamp. length (stamp_formats stamp)) none in
    ap (λ front. padded front (largest_below (formats_of shape) mask (count_of shape)))
    (front_same shape mask value t t' (count_of shape) (omega (arith, count, no_stamp)))

-- the timestamp comes after the data channels
last_front : (shape : ShapeRecord) (mask : ℕ) (values : List ℤ) (endian : Endian) (t : ℤ) → shape.stamp ≡ Some endian
    → front_below (formats_of shape) mask (capture_values values t) (count_of shape)
    ≡ with_field (has mask (length shape.channels)) (front_below (formats_of shape) mask (capture_values values t) (length shape.channels))
    (size_at (formats_of shape) (length shape.channels)) (field_of shape values t (length shape.channels))
last_front shape mask values endian t stamped =
    ap (front_below (formats_of shape) mask (capture_values values t)) (sym (stamped_count shape endian stamped) ∙ add-one (length shape.channels))

-- under a mask without the timestamp
pub same_unselected : (shape : ShapeRecord) (mask : ℕ) (value : ℕ → ℕ → ℤ) (endian : Endian) (t t' : ℤ) → shape.stamp ≡ Some endian
    → has mask (length shape.channels) ≡ false
    → scan_of shape mask (values_by shape value) t' ≡ scan_of shape mask (values_by shape value) t
same_unselected shape mask value endian t t' stamped other =
    ap (λ front. padded front (largest_below (formats_of shape) mask (count_of shape)))
    (front_at t' ∙ front_same shape mask value t t' (length shape.channels) (omega arith) ∙ sym (front_at t))
  where
    front_at : (m : ℤ) → front_below (formats_of shape) mask (capture_values (values_by shape value) m) (count_of shape)
        ≡ front_below (formats_of shape) mask (capture_values (values_by shape value) m) (length shape.channels)
    front_at m =
        let formats = formats_of shape in
        let all = capture_values (values_by shape value) m in
        last_front shape mask (values_by shape value) endian m stamped
        ∙ ap (λ selected. with_field selected (front_below formats mask all (length shape.channels)) (size_at formats (length shape.channels))
        (field_at formats all (length shape.channels))) other

-- ---- if it has

stamp_size : (shape : ShapeRecord) (endian : Endian) → shape.stamp ≡ Some endian → size_at (formats_of shape) (length shape.channels) ≡ 8
stamp_size shape endian stamped = ap size_of (stamp_type_of shape endian stamped)

stamp_bytes : (shape : ShapeRecord) (value : ℕ → ℕ → ℤ) (endian : Endian) (t : ℤ) → shape.stamp ≡ Some endian
    → field_of shape (values_by shape value) t (length shape.channels) ≡ element_bytes (stamp_format endian) t
stamp_bytes shape value endian t stamped =
    let ty : Format = format_at (formats_of shape) (length shape.channels) in
    ap (channel_bytes ty) (sym (stamp_values shape endian (values_by shape value) t stamped (length-values_by shape value)))
    ∙ ap (λ f. channel_bytes f (t ∷ [])) (stamp_type_of shape endian stamped)
    ∙ append-nil (element_bytes (stamp_format endian) t)

length-stamp : (endian : Endian) (t : ℤ) → length (element_bytes (stamp_format endian) t) ≡ 8
length-stamp endian t = length-number_bytes endian 8 (low_bits 64 t * 2 ^ 0)

-- the data channels' bytes at any moment, then the bytes of this moment
stamped_front : (shape : ShapeRecord) (mask : ℕ) (value : ℕ → ℕ → ℤ) (endian : Endian) (t t' : ℤ) → shape.stamp ≡ Some endian
    → has mask (length shape.channels) ≡ true
    → front_below (formats_of shape) mask (capture_values (values_by shape value) t') (count_of shape)
    ≡ padded (front_below (formats_of shape) mask (capture_values (values_by shape value) t) (length shape.channels)) 8
    ++ element_bytes (stamp_format endian) t'
stamped_front shape mask value endian t t' stamped selected =
    let formats = formats_of shape in
    let last : ℕ = length shape.channels in
    let all = capture_values (values_by shape value) t' in
    let bytes : List ℕ = element_bytes (stamp_format endian) t' in
    last_front shape mask (values_by shape value) endian t' stamped
    ∙ ap (λ there. with_field there (front_below formats mask all last) (size_at formats last) (field_at formats all last)) selected
    ∙ ap (λ field. padded (front_below formats mask all last) (size_at formats last) ++ field) (stamp_bytes shape value endian t' stamped)
    ∙ ap (λ size. padded (front_below formats mask all last) size ++ bytes) (stamp_size shape endian stamped)
    ∙ ap (λ front. padded front 8 ++ bytes) (front_same shape mask value t t' last (omega arith))

-- the eight bytes at a place are replaced by others
replaced : (before old new after : List ℕ) (place : ℕ) → length before ≡ place → length old ≡ 8
    → (before ++ new) ++ after ≡ take place ((before ++ old) ++ after) ++ (new ++ drop (place + 8) ((before ++ old) ++ after))
replaced before old new after place is long =
    let both : length (before ++ old) ≡ place + 8 = length-append before old ∙ omega (arith, is, long) in
    let front : take place ((before ++ old) ++ after) ≡ before = ap (take place) (append_assoc before old after) ∙ take_at before (old ++ after) place is in
    let rest : drop (place + 8) ((before ++ old) ++ after) ≡ after = drop_at (before ++ old) after (place + 8) both in
    append_assoc before new after ∙ ap (λ xs. xs ++ (new ++ after)) (sym front)
    ∙ ap (λ xs. take place ((before ++ old) ++ after) ++ (new ++ xs)) (sym rest)

repadded : (before old new : List ℕ) (place size : ℕ) → length before ≡ place → length old ≡ 8 → length new ≡ 8
    → padded (before ++ new) size ≡ take place (padded (before ++ old) size) ++ (new ++ drop (place + 8) (padded (before ++ old) size))
repadded before old new place size is long long' =
    let same : length (before ++ new) ≡ length (before ++ old) =
    length-append before new ∙ ap (λ n. length before + n) (long' ∙ sym long) ∙ sym (length-append before old) in
    ap (λ n. (before ++ new) ++ replicate (next_multiple_of n size - n) 0) same
    ∙ replaced before old new (replicate (next_multiple_of (length (before ++ old)) size - length (before ++ old)) 0) place is long

-- the scan at another moment is the scan with the other moment in the timestamp's place
pub restamped : (shape : ShapeRecord) (mask : ℕ) (value : ℕ → ℕ → ℤ) (endian : Endian) (t t' : ℤ) → shape.stamp ≡ Some endian
    → has mask (length shape.channels) ≡ true
    → scan_of shape mask (values_by shape value) t'
    ≡ take (place_of shape mask (length shape.channels)) (scan_of shape mask (values_by shape value) t)
    ++ (element_bytes (stamp_format endian) t' ++ drop (place_of shape mask (length shape.channels) + 8) (scan_of shape mask (values_by shape value) t))
restamped shape mask value endian t t' stamped selected =
    let formats = formats_of shape in
    let last : ℕ = length shape.channels in
    let largest : ℕ = largest_below formats mask (count_of shape) in
    let place : ℕ = place_of shape mask last in
    let front : List ℕ = front_below formats mask (capture_values (values_by shape value) t) last in
    let old : List ℕ = element_bytes (stamp_format endian) t in
    let new : List ℕ = element_bytes (stamp_format endian) t' in
    let before : length (padded front 8) ≡ place =
    length-padded front 8 ∙ ap (λ n. next_multiple_of n 8) (length-front shape mask value t last (omega arith))
    ∙ ap (next_multiple_of (end_below formats mask last)) (sym (stamp_size shape endian stamped)) in
    ap (λ xs. padded xs largest) (stamped_front shape mask value endian t t' stamped selected)
    ∙ repadded (padded front 8) old new place largest before (length-stamp endian t) (length-stamp endian t')
    ∙ ap (λ xs. take place (padded xs largest) ++ (new ++ drop (place + 8) (padded xs largest)))
    (sym (stamped_front shape mask value endian t t stamped selected))

-- the timestamp is within the scan
pub stamp_fits : (shape : ShapeRecord) (mask : ℕ) (value : ℕ → ℕ → ℤ) (endian : Endian) (t : ℤ) → shape.stamp ≡ Some endian
    → has mask (length shape.channels) ≡ true
    → place_of shape mask (length shape.channels) + 8 ≤ length (scan_of shape mask (values_by shape value) t)
stamp_fits shape mask value endian t stamped selected =
    let last : ℕ = length shape.channels in
    let count = stamped_count shape endian stamped in
    let fits = end_within shape mask last (omega (arith, count)) selected in
    let long = length-scan_of shape mask (values_by shape value) t (length-values_by shape value) in
    let size = stamp_size shape endian stamped in
    omega (arith, fits, long, size)
