-- The values that a driver gives are in the ranges of their channels' types.
use Rattle.std.proofs.Common.{◌≡◌, ℕ, zero, suc, ◌+◌, ◌<◌, List, [], ◌++◌, length, take, drop, refl, sym, ap, subst, ◌∙◌, inl, inr, arith, ℤ, ◌+ℤ◌, All, append_assoc, append-nil, rules}
use Rattle.std.specs.List.{AllByRecursion}
use Rattle.std.proofs.lemmas.Bool.{cases_lt}
use Rattle.std.proofs.lemmas.List.{drop_at, take_at}
use Rattle.std.proofs.lemmas.List.Elements.{All-from_recursion}
use Rattle.iio_scan_type.specs.Format.{Format, IsInProfile, IsInRange, saturated}
use Rattle.iio_layout.specs.Laws.{count_is, length-elements_below, length-values_below, length-values_by}
use Rattle.iio_layout.specs.Layout.{format_at}
use Rattle.iio_layout.specs.Scan.{elements_below, first_value, values_at, values_below, values_by}
use Rattle.iio_layout.specs.Shape.{ShapeRecord, formats_of}
use Rattle.iio_derive.specs.ReadBack.{IsCapture}
use Rattle.iio_sensor.specs.Driver.{Driver, value_of, values_of}
use Rattle.iio_kinds.proofs.SeatLemmas.{all_push}

-- a value that was set to the nearer end of a range is in it
saturated_range : (f : Format) (z : ℤ) → IsInRange f (saturated f z)
saturated_range f z = search rules

-- what comes after a channel's values
abbrev Split : List Format → (ℕ → ℕ → ℤ) → ℕ → ℕ → Type 0
Split formats value c n = (rest : List ℤ)
    × (values_below formats value n ≡ values_below formats value c ++ (elements_below (value c) (format_at formats c).repeat ++ rest))

split_at : (formats : List Format) (value : ℕ → ℕ → ℤ) (c n : ℕ) → c < n → Split formats value c n
split_at formats value c zero below = absurd (omega arith)
split_at formats value c (suc n) below =
    let before : List ℤ = values_below formats value c in
    let own : List ℤ = elements_below (value c) (format_at formats c).repeat in
    let last : List ℤ = elements_below (value n) (format_at formats n).repeat in
    elim (cases_lt c n) [
      | inl earlier ↦
          let (rest, is) = split_at formats value c n earlier in
          (rest ++ last, ap (λ xs. xs ++ last) is ∙ append_assoc before (own ++ rest) last ∙ ap (λ xs. before ++ xs) (append_assoc own rest last))
      | inr here ↦
          let same : c ≡ n = omega arith in
          ([], rw (same, append-nil) refl)
    ]

-- a data channel's values are its elements
elements_at : (shape : ShapeRecord) (value : ℕ → ℕ → ℤ) (c : ℕ) → c < length shape.channels
    → values_at (formats_of shape) (values_by shape value) c ≡ elements_below (value c) (format_at (formats_of shape) c).repeat
elements_at shape value c within =
    let formats = formats_of shape in
    let before : List ℤ = values_below formats value c in
    let own : List ℤ = elements_below (value c) (format_at formats c).repeat in
    let (rest, is) = split_at formats value c (length shape.channels) within in
    let first = length-values_below formats value c (let count = count_is shape in omega (arith, count, within)) in
    ap (λ (xs : List ℤ). take (format_at formats c).repeat (drop (first_value formats c) xs)) is
    ∙ ap (λ (xs : List ℤ). take (format_at formats c).repeat xs) (drop_at before (own ++ rest) (first_value formats c) first)
    ∙ take_at own rest (format_at formats c).repeat (length-elements_below (value c) (format_at formats c).repeat)

all_elements : (P : ℤ → Type 0) (value : ℕ → ℤ) → ((k : ℕ) → P (value k)) → (n : ℕ) → AllByRecursion P (elements_below value n)
all_elements P value each zero = tt
all_elements P value each (suc n) = all_push P (elements_below value n) (value n) (all_elements P value each n) (each n)

-- a driver's values are those of a capture
pub values_capture : (shape : ShapeRecord) (d : Driver) (t : ℤ) → All (λ channel. IsInProfile channel.ty) shape.channels → IsCapture shape (values_of d shape t)
values_capture shape d t types = record {
  types = types;
  width = length-values_by shape (value_of d shape t);
  ranges = λ c within.
      subst (λ (xs : List ℤ). All (IsInRange (format_at (formats_of shape) c)) xs) (sym (elements_at shape (value_of d shape t) c within))
      (All-from_recursion (IsInRange (format_at (formats_of shape) c)) (elements_below (value_of d shape t c) (format_at (formats_of shape) c).repeat)
      (all_elements (IsInRange (format_at (formats_of shape) c)) (value_of d shape t c)
      (λ k. saturated_range (format_at (formats_of shape) c) (d.sample shape c k t +ℤ d.bias c))
      (format_at (formats_of shape) c).repeat));
}
