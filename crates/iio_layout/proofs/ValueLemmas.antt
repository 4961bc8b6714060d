-- The values of a capture, by what each element is.
use Rattle.std.proofs.Common.{◌≡◌, ℕ, zero, suc, ◌+◌, ◌*◌, ◌^◌, ◌<◌, ◌≤◌, List, [], ◌∷◌, ◌++◌, length, get_or, take, drop, refl, sym, ap, ◌∙◌, inl, inr, arith, ℤ, pos, add-one, append_assoc, append-nil, rules}
use Rattle.std.proofs.lemmas.Grind.{common_steps}
use Rattle.std.proofs.lemmas.Bool.{cases_lt}
use Rattle.std.proofs.lemmas.List.{drop_at, take_all, take_at, take_more}
use Rattle.std.proofs.Math.Seq.{take-add}
use Rattle.iio_layout.proofs.LayoutLemmas.{take-put_front}
use borrow.Rule.Slice.PartMut.{put_mid}
use Rattle.iio_scan_type.specs.Bytes.{channel_bytes, element_bytes, low_bits}
use Rattle.iio_scan_type.specs.Format.{Format, element_size}
use Rattle.iio_layout.specs.Laws.{count_is, first_value_all, first_value_more, length-elements_below, length-number_bytes, length-values_below}
use Rattle.iio_layout.specs.Layout.{format_at}
use Rattle.iio_layout.specs.Scan.{capture_values, elements_below, field_of, first_value, values_at, values_below, values_by}
use Rattle.iio_layout.specs.Shape.{ShapeRecord, formats_of, width_of}

-- what stands before a channel's values and after them
abbrev Split : List Format → (ℕ → ℕ → ℤ) → ℕ → ℕ → Type 0
Split formats value c n = (rest : List ℤ)
    × (values_below formats value n ≡ values_below formats value c ++ (elements_below (value c) (format_at formats c).repeat ++ rest))

split_at : (formats : List Format) (value : ℕ → ℕ → ℤ) (c n : ℕ) → c < n → Split formats value c n
split_at formats value c zero below = absurd (omega arith)
split_at formats value c (suc n) below =
    let before : List ℤ = values_below formats value c in
    let own : List ℤ = elements_below (value c) (format_at formats c).repeat in
    let last : List ℤ = elements_below (value n) (format_at formats n).repeat in
    elim (cases_lt c n) [
      | inl earlier ↦
          let (rest, is) = split_at formats value c n earlier in
          (rest ++ last, ap (λ xs. xs ++ last) is ∙ append_assoc before (own ++ rest) last ∙ ap (λ xs. before ++ xs) (append_assoc own rest last))
      | inr here ↦
          let same : c ≡ n = omega arith in
          ([], rw (same, append-nil) refl)
    ]

-- the values of a data channel are its elements
pub data_field : (shape : ShapeRecord) (value : ℕ → ℕ → ℤ) (t : ℤ) (c : ℕ) → c < length shape.channels
    → channel_bytes (format_at (formats_of shape) c) (elements_below (value c) (format_at (formats_of shape) c).repeat)
    ≡ field_of shape (values_by shape value) t c
data_field shape value t c within =
    let formats = formats_of shape in
    let before : List ℤ = values_below formats value c in
    let own : List ℤ = elements_below (value c) (format_at formats c).repeat in
    let (rest, is) = split_at formats value c (length shape.channels) within in
    let count = count_is shape in
    let first = length-values_below formats value c (omega arith) in
    let whole : capture_values (values_by shape value) t ≡ before ++ (own ++ (rest ++ t ∷ [])) =
    ap (λ xs. xs ++ t ∷ []) is ∙ append_assoc before (own ++ rest) (t ∷ []) ∙ ap (λ xs. before ++ xs) (append_assoc own rest (t ∷ [])) in
    let at : values_at formats (capture_values (values_by shape value) t) c ≡ own =
    ap (λ xs. take (format_at formats c).repeat (drop (first_value formats c) xs)) whole
    ∙ ap (take (format_at formats c).repeat) (drop_at before (own ++ (rest ++ t ∷ [])) (first_value formats c) first)
    ∙ take_at own (rest ++ t ∷ []) (format_at formats c).repeat (length-elements_below (value c) (format_at formats c).repeat) in
    ap (channel_bytes (format_at formats c)) (sym at)

-- ---- values in a list

elements_in : (xs : List ℤ) (m n : ℕ) → m + n ≤ length xs → elements_below (λ k. get_or xs (m + k) (pos 0)) n ≡ take n (drop m xs)
elements_in xs m zero within = refl
elements_in xs m (suc n) within = grind (arith, common_steps, take_more, elements_in xs m n (omega arith))

values_in : (formats : List Format) (xs : List ℤ) (n : ℕ) → n ≤ length formats → first_value formats n ≤ length xs
    → values_below formats (λ c k. get_or xs (first_value formats c + k) (pos 0)) n ≡ take (first_value formats n) xs
values_in formats xs zero within many = refl
values_in formats xs (suc n) within many =
    let more = first_value_more formats n (omega arith) in
    let next : first_value formats (suc n) ≡ first_value formats n + (format_at formats n).repeat = ap (first_value formats) (sym (add-one n)) ∙ more in
    ap (λ ys. ys ++ elements_below (λ k. get_or xs (first_value formats n + k) (pos 0)) (format_at formats n).repeat)
    (values_in formats xs n (omega arith) (omega arith))
    ∙ ap (λ ys. take (first_value formats n) xs ++ ys) (elements_in xs (first_value formats n) (format_at formats n).repeat (omega arith))
    ∙ sym (take-add (first_value formats n) (format_at formats n).repeat xs) ∙ ap (λ k. take k xs) (sym next)

-- the values of all channels in a list are that list
pub values_by-list : (shape : ShapeRecord) (xs : List ℤ) → length xs ≡ width_of shape
    → values_by shape (λ c k. get_or xs (first_value (formats_of shape) c + k) (pos 0)) ≡ xs
values_by-list shape xs many =
    let all = first_value_all shape in
    let count = count_is shape in
    values_in (formats_of shape) xs (length shape.channels) (omega arith) (omega arith)
    ∙ take_all (first_value (formats_of shape) (length shape.channels)) xs (omega arith)

-- ---- the elements of a channel, as they are written

length-element_bytes : (ty : Format) (v : ℤ) → length (element_bytes ty v) ≡ element_size ty
length-element_bytes ty v = length-number_bytes ty.endian (element_size ty) (low_bits ty.realbits v * 2 ^ ty.shift)

channel_bytes-more : (ty : Format) (xs : List ℤ) (v : ℤ) → channel_bytes ty (xs ++ v ∷ []) ≡ channel_bytes ty xs ++ element_bytes ty v
channel_bytes-more ty [] v = append-nil (element_bytes ty v)
channel_bytes-more ty (x ∷ xs) v = grind (arith, common_steps, channel_bytes-more ty xs v)

pub row_within : (n k many : ℕ) → k < many → (k + 1) * n ≤ n * many
row_within n k many below = search rules

pub elements_more : (ty : Format) (value : ℕ → ℤ) (k n m : ℕ) (out part : List ℕ) → n ≡ element_size ty → take n part ≡ element_bytes ty (value k)
    → n ≤ length part → (k + 1) * n ≤ length out → take (k * n) out ≡ channel_bytes ty (elements_below value k)
    → take ((k + 1) * n) (put_mid (k * n) m out part) ≡ channel_bytes ty (elements_below value (k + 1))
elements_more ty value k n m out part size is long room so_far = search (rules, take-put_front, channel_bytes-more)
