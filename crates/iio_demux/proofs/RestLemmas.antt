-- The channels that are left of the active mask while a table is made, and the entries that they add.
use Rattle.std.proofs.Common.{◌≡◌, ℕ, zero, suc, ◌+◌, ◌-◌, ◌/◌, ◌%◌, ◌^◌, ◌≤◌, Bool, true, false, cond, List, [], ◌∷◌, ◌++◌, length, get_or, filter, refl, sym, ap, ◌∙◌, inl, inr, arith, append_assoc, append-nil, IsTrue, rules}
use Rattle.std.specs.Prelude.{◌==◌}
use Rattle.std.specs.Int.{bit_at, next_multiple_of}
use Rattle.std.specs.List.{range_with_len}
use Rattle.std.proofs.lemmas.Bool.{cases_Bool}
use Rattle.std.proofs.lemmas.Bool.Decides.{nat_tests}
use Rattle.std.proofs.lemmas.Nat.{shr-shr}
use Rattle.std.proofs.Math.Nat.{zero-div}
use Rattle.std.proofs.lemmas.List.Elements.{filter-append}
use Rattle.iio_mask.specs.Mask.{channels_below, channels_of, has}
use Rattle.iio_scan_type.specs.Format.{Format}
use Rattle.iio_layout.specs.Shape.{ShapeRecord, formats_of}
use Rattle.iio_layout.specs.Layout.{end_below, size_at}
use Rattle.iio_layout.proofs.ScanLemmas.{end_over, end_over-all}
use Rattle.iio_demux.specs.declared.table.Entry.{Entry}
use Rattle.iio_demux.specs.Table.{channel_entries, merged}
use Rattle.iio_demux.proofs.EntryLemmas.{channels_more, entries_more, entries_same}

-- the entries of these channels, after others that end at these bytes of the two scans
abbrev pub entries_over : List Format → (buffer active_end buffer_end : ℕ) → List ℕ → List Entry
entries_over formats buffer active_end buffer_end [] = []
entries_over formats buffer active_end buffer_end (c ∷ cs) =
    let size = size_at formats c in
    let from = next_multiple_of active_end size in
    let to = next_multiple_of buffer_end size in
    cond (has buffer c) (record { from = from; to = to; length = size } ∷ entries_over formats buffer (from + size) (to + size) cs)
    (entries_over formats buffer (from + size) buffer_end cs)

-- those of these channels that are in this mask
abbrev pub own : ℕ → List ℕ → List ℕ
own mask cs = filter (λ c. has mask c) cs

-- merged entries, with others that are still to come
pub record Made (items coming whole : List Entry) : Type 0 where
  pub before : List Entry
  pub so_far : items ≡ merged before
  pub then : before ++ coming ≡ whole

pub made_more : {items pushed : List Entry} {entry : Entry} {coming later whole : List Entry} → coming ≡ entry ∷ later
    → ((before : List Entry) → items ≡ merged before → pushed ≡ merged (before ++ entry ∷ [])) → Made items coming whole → Made pushed later whole
made_more {entry = entry} {later = later} next push made = record {
  before = made.before ++ entry ∷ [];
  so_far = push made.before made.so_far;
  then = append_assoc made.before (entry ∷ []) later ∙ ap (λ es. made.before ++ es) (sym next) ∙ made.then;
}

pub made_whole : {items coming whole : List Entry} → coming ≡ [] → Made items coming whole → items ≡ merged whole
made_whole none made =
    made.so_far ∙ ap merged (sym (append-nil made.before) ∙ ap (λ es. made.before ++ es) (sym none) ∙ made.then)

-- ---- the first of the channels that are left

pub own-first : (buffer c : ℕ) (cs : List ℕ) → has buffer c ≡ true → own buffer (c ∷ cs) ≡ c ∷ own buffer cs
own-first buffer c cs is = rw is refl

own-other : (buffer c : ℕ) (cs : List ℕ) → has buffer c ≡ false → own buffer (c ∷ cs) ≡ own buffer cs
own-other buffer c cs other = rw other refl

-- its entry is that of the places which are computed from the ends
pub entries_over-first : (formats : List Format) (buffer active_end buffer_end c : ℕ) (cs : List ℕ) (from to size : ℕ) → has buffer c ≡ true
    → size ≡ size_at formats c → from ≡ next_multiple_of active_end size → to ≡ next_multiple_of buffer_end size
    → entries_over formats buffer active_end buffer_end (c ∷ cs)
    ≡ record { from = from; to = to; length = size } ∷ entries_over formats buffer (from + size) (to + size) cs
entries_over-first formats buffer active_end buffer_end c cs from to size is is_size is_from is_to = rw (is, is_from, is_to, is_size) refl

-- ---- all channels of the active mask

entries_over-append : (formats : List Format) (buffer active_end buffer_end : ℕ) (cs ds : List ℕ)
    → entries_over formats buffer active_end buffer_end (cs ++ ds)
    ≡ entries_over formats buffer active_end buffer_end cs
    ++ entries_over formats buffer (end_over formats active_end cs) (end_over formats buffer_end (own buffer cs)) ds
entries_over-append formats buffer active_end buffer_end [] ds = refl
entries_over-append formats buffer active_end buffer_end (c ∷ cs) ds =
    let size = size_at formats c in
    let from = next_multiple_of active_end size in
    let to = next_multiple_of buffer_end size in
    elim (cases_Bool (has buffer c)) [
      | inl is ↦ rw is (ap (λ es. record { from = from; to = to; length = size } ∷ es) (entries_over-append formats buffer (from + size) (to + size) cs ds))
      | inr other ↦ rw other (entries_over-append formats buffer (from + size) buffer_end cs ds)
    ]

-- a channel that isn't in the active mask isn't in the buffer's mask
outside : (active buffer n : ℕ) → ((c : ℕ) → IsTrue (has buffer c) → IsTrue (has active c)) → has active n ≡ false → has buffer n ≡ false
outside active buffer n within other = search rules

-- the buffer's channels are all among those of the active mask
pub own-below : (active buffer n : ℕ) → ((c : ℕ) → IsTrue (has buffer c) → IsTrue (has active c))
    → own buffer (channels_below active n) ≡ channels_below buffer n
own-below active buffer zero within = refl
own-below active buffer (suc n) within =
    ap (own buffer) (channels_more active n) ∙ filter-append (λ c. has buffer c) (channels_below active n) (cond (has active n) (n ∷ []) [])
    ∙ ap (λ cs. cs ++ own buffer (cond (has active n) (n ∷ []) [])) (own-below active buffer n within)
    ∙ elim (cases_Bool (has active n)) [
      | inl is ↦ rw is (sym (channels_more buffer n))
      | inr other ↦ let none = outside active buffer n within other in rw other (sym (channels_more buffer n ∙ rw none refl))
    ]

-- all channels of the active mask have all entries
pub entries_over-all : (shape : ShapeRecord) (active buffer n : ℕ) → ((c : ℕ) → IsTrue (has buffer c) → IsTrue (has active c))
    → entries_over (formats_of shape) buffer 0 0 (channels_below active n) ≡ channel_entries shape active buffer n
entries_over-all shape active buffer zero within = refl
entries_over-all shape active buffer (suc n) within =
    let formats = formats_of shape in
    let one = cond (has active n) (n ∷ []) [] in
    let entries = channel_entries shape active buffer n in
    let active_end = end_over formats 0 (channels_below active n) in
    let buffer_end = end_over formats 0 (own buffer (channels_below active n)) in
    let is_end : buffer_end ≡ end_below formats buffer n =
    ap (end_over formats 0) (own-below active buffer n within) ∙ end_over-all formats buffer n in
    ap (entries_over formats buffer 0 0) (channels_more active n) ∙ entries_over-append formats buffer 0 0 (channels_below active n) one
    ∙ ap (λ es. es ++ entries_over formats buffer active_end buffer_end one) (entries_over-all shape active buffer n within)
    ∙ ap (λ e. entries ++ entries_over formats buffer e buffer_end one) (end_over-all formats active n)
    ∙ ap (λ e. entries ++ entries_over formats buffer (end_below formats active n) e one) is_end
    ∙ elim (cases_Bool (has active n)) [
      | inl is ↦ elim (cases_Bool (has buffer n)) [
        | inl both ↦ rw (is, both) (entries_more shape active buffer n both)
        | inr alone ↦ rw (is, alone) (append-nil entries ∙ entries_same shape active buffer n alone)
      ]
      | inr other ↦
          rw other (append-nil entries ∙ entries_same shape active buffer n (outside active buffer n within other))
    ]

-- ---- past the last channel of the buffer's mask

-- no channel from n on is in a mask that has no bit from n on
pub ended : (mask n : ℕ) (ends : Bool) → ends ≡ (mask / 2 ^ n == 0) → ends ≡ true → (k : ℕ) → n ≤ k → has mask k ≡ false
ended mask n ends is_end is k later =
    let least : mask / 2 ^ n ≡ 0 = grind (arith, nat_tests) in
    let sum : n + (k - n) ≡ k = omega arith in
    let none : mask / 2 ^ k ≡ 0 =
    ap (λ i. mask / 2 ^ i) (sym sum) ∙ sym (shr-shr mask n (k - n)) ∙ ap (λ m. m / 2 ^ (k - n)) least ∙ zero-div (2 ^ (k - n)) in
    let bit : bit_at mask k ≡ 0 = ap (λ m. m % 2) none in
    rw bit refl

none_from : (mask buffer a n : ℕ) → ((k : ℕ) → a ≤ k → has buffer k ≡ false) → own buffer (own mask (range_with_len a n)) ≡ []
none_from mask buffer a zero none = refl
none_from mask buffer a (suc n) none =
    let rest = none_from mask buffer (a + 1) n (λ k later. none k (omega arith)) in
    let last = none a (omega arith) in
    elim (cases_Bool (has mask a)) [ inl is ↦ rw (is, last) rest | inr other ↦ rw other rest ]

-- such a mask has none of the channels that are left from n on
none_after : (mask buffer a n c : ℕ) (cs : List ℕ) → own mask (range_with_len a n) ≡ c ∷ cs → ((k : ℕ) → c ≤ k → has buffer k ≡ false)
    → own buffer (c ∷ cs) ≡ []
none_after mask buffer a zero c cs left none = absurd (omega (arith, ap length left))
none_after mask buffer a (suc n) c cs left none =
    elim (cases_Bool (has mask a)) [
      | inl is ↦
          let same : a ≡ c = ap (λ xs. get_or xs 0 0) (sym (own-first mask a (range_with_len (a + 1) n) is) ∙ left) in
          ap (own buffer) (sym left) ∙ none_from mask buffer a (suc n) (λ k later. none k (omega (arith, same)))
      | inr other ↦
          none_after mask buffer (a + 1) n c cs (sym (own-other mask a (range_with_len (a + 1) n) other) ∙ left) none
    ]

pub none_left : (mask buffer c : ℕ) (cs : List ℕ) → channels_of mask ≡ c ∷ cs → ((k : ℕ) → c ≤ k → has buffer k ≡ false) → own buffer (channels_of mask) ≡ []
unfolding channels_of
none_left mask buffer c cs left none = ap (own buffer) left ∙ none_after mask buffer 0 64 c cs left none

-- channels that aren't in the buffer's mask have no entries
pub entries_over-none : (formats : List Format) (buffer active_end buffer_end : ℕ) (cs : List ℕ) → own buffer cs ≡ []
    → entries_over formats buffer active_end buffer_end cs ≡ []
entries_over-none formats buffer active_end buffer_end [] none = refl
entries_over-none formats buffer active_end buffer_end (c ∷ cs) none =
    let from = next_multiple_of active_end (size_at formats c) in
    elim (cases_Bool (has buffer c)) [
      | inl is ↦ absurd (omega (arith, ap length (sym (own-first buffer c cs is) ∙ none)))
      | inr other ↦ rw other (entries_over-none formats buffer (from + size_at formats c) buffer_end cs (sym (own-other buffer c cs other) ∙ none))
    ]
