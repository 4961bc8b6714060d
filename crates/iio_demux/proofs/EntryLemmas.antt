-- The entries of the channels before a channel: another channel, and where they lie.
use Rattle.std.proofs.Common.{◌≡◌, ℕ, zero, suc, ◌+◌, ◌≤◌, true, false, cond, [], ◌∷◌, ◌++◌, map, filter, refl, ap, ◌∙◌, inl, inr, arith, add-one, IsTrue, rules}
use Rattle.std.proofs.lemmas.Grind.{common_steps}
use Rattle.std.specs.Int.{next_multiple_of}
use Rattle.std.specs.List.{range_with_len}
use Rattle.std.proofs.lemmas.Bool.{cases_Bool}
use Rattle.std.proofs.lemmas.List.Elements.{filter-append}
use Rattle.iio_mask.specs.Mask.{has, channels_below}
use Rattle.iio_layout.specs.Shape.{ShapeRecord, count_of, formats_of}
use Rattle.iio_layout.specs.Layout.{end_below, place_of, scan_size, size_at}
use Rattle.iio_layout.specs.Laws.{end_grows}
use Rattle.iio_layout.proofs.SelectedLemmas.{range_more}
use Rattle.iio_demux.specs.Table.{AreInOrder, IsCopyTable, channel_entries, channel_entry, table_of}
use Rattle.iio_demux.proofs.MergeLemmas.{merged_apart, merged_in_order}

-- another channel, selected or not
pub channels_more : (mask n : ℕ) → channels_below mask (suc n) ≡ channels_below mask n ++ cond (has mask n) (n ∷ []) []
channels_more mask n =
    let last : range_with_len 0 (suc n) ≡ range_with_len 0 n ++ n ∷ [] = range_more 0 n ∙ ap (λ (k : ℕ). range_with_len 0 n ++ k ∷ []) (omega arith) in
    ap (filter (λ c. has mask c)) last ∙ filter-append (λ c. has mask c) (range_with_len 0 n) (n ∷ [])

-- a channel of the buffer's mask adds an entry
pub entries_more : (shape : ShapeRecord) (active buffer n : ℕ) → has buffer n ≡ true
    → channel_entries shape active buffer n ++ channel_entry shape active buffer n ∷ [] ≡ channel_entries shape active buffer (suc n)
entries_more shape active buffer n selected = grind (arith, common_steps, channels_more)

-- any other channel adds no entry
pub entries_same : (shape : ShapeRecord) (active buffer n : ℕ) → has buffer n ≡ false
    → channel_entries shape active buffer n ≡ channel_entries shape active buffer (suc n)
entries_same shape active buffer n other = search (rules, channels_more)

-- ---- where the channels end

-- a selected channel ends after its place
end_more : (shape : ShapeRecord) (mask n end place size : ℕ) → has mask n ≡ true → end ≡ end_below (formats_of shape) mask n
    → size ≡ size_at (formats_of shape) n → place ≡ next_multiple_of end size → place + size ≡ end_below (formats_of shape) mask (n + 1)
end_more shape mask n end place size selected is_end is_size is_place = rw (is_place, is_end, is_size, add-one, selected) refl

-- any other channel takes no room
end_same : (shape : ShapeRecord) (mask n end : ℕ) → has mask n ≡ false → end ≡ end_below (formats_of shape) mask n
    → end ≡ end_below (formats_of shape) mask (n + 1)
end_same shape mask n end other is_end = rw (is_end, add-one, other) refl

-- ---- where the entries lie

-- the entries of the channels from channel a on
lie_from : (shape : ShapeRecord) (active buffer a n active_size buffer_size : ℕ) → ((c : ℕ) → IsTrue (has buffer c) → IsTrue (has active c))
    → end_below (formats_of shape) active (a + n) ≤ active_size → end_below (formats_of shape) buffer (a + n) ≤ buffer_size
    → AreInOrder active_size buffer_size (end_below (formats_of shape) buffer a)
    (map (channel_entry shape active buffer) (filter (λ c. has buffer c) (range_with_len a n)))
lie_from shape active buffer a zero active_size buffer_size within active_end buffer_end = search rules
lie_from shape active buffer a (suc n) active_size buffer_size within active_end buffer_end =
    let formats = formats_of shape in
    let sum : a + 1 + n ≡ a + suc n = omega arith in
    let rest = lie_from shape active buffer (a + 1) n active_size buffer_size within (rw sum active_end) (rw sum buffer_end) in
    elim (cases_Bool (has buffer a)) [
      | inl selected ↦
          let ends = end_more shape buffer a (end_below formats buffer a) (place_of shape buffer a) (size_at formats a) selected refl refl refl in
          let source = end_more shape active a (end_below formats active a) (place_of shape active a) (size_at formats a) (within a selected) refl refl refl in
          let grows = end_grows formats active (a + 1) (a + suc n) (omega arith) in
          rw selected (omega arith, omega (arith, source, grows), rw ends rest)
      | inr other ↦ rw other (rw (end_same shape buffer a (end_below formats buffer a) other refl) rest)
    ]

-- the table of two masks, the buffer's within the active one, is sound
pub table_sound : (shape : ShapeRecord) (active buffer : ℕ) → ((c : ℕ) → IsTrue (has buffer c) → IsTrue (has active c))
    → IsCopyTable (table_of shape active buffer)
table_sound shape active buffer within =
    let entries = channel_entries shape active buffer (count_of shape) in
    let all : 0 + count_of shape ≡ count_of shape = omega arith in
    let active_end = ap (end_below (formats_of shape) active) all in
    let buffer_end = ap (end_below (formats_of shape) buffer) all in
    record {
      ordered = merged_in_order (scan_size shape active) (scan_size shape buffer) 0 entries
          (lie_from shape active buffer 0 (count_of shape) (scan_size shape active) (scan_size shape buffer) within (omega (arith, active_end))
          (omega (arith, buffer_end)));
      merged = merged_apart entries;
    }
