-- What the entries of two masks make of a scan: the scan of the same capture under the other mask.
use Rattle.std.proofs.Common.{◌≡◌, ℕ, ℤ, zero, suc, ◌+◌, ◌<◌, ◌≤◌, true, false, List, length, get_or, map, filter, sym, ◌∙◌, inl, inr, arith, IsTrue, rules}
use Rattle.std.specs.List.{range_with_len}
use Rattle.std.proofs.lemmas.Bool.{cases_Bool, cases_eq, false≢true}
use Rattle.std.proofs.lemmas.List.FromFn.{fill_by_all}
use Rattle.iio_mask.specs.Mask.{has}
use Rattle.iio_layout.specs.Shape.{ShapeRecord, count_of, width_of}
use Rattle.iio_layout.specs.Layout.{scan_size}
use Rattle.iio_layout.specs.Scan.{scan_of}
use Rattle.iio_layout.specs.Laws.{length-scan_of, scan_of-at, scan_of-outside}
use Rattle.iio_demux.specs.Table.{byte_at, channel_entries, channel_entry, copied, covers, source_of, table_of}
use Rattle.iio_demux.proofs.CopyLemmas.{covers_tells, covers_within}
use Rattle.iio_demux.proofs.MergeLemmas.{copied-merged}

-- the byte that the entries of channels from a on have, if it is the same in each entry that covers it, and if none covers it
byte_is : (shape : ShapeRecord) (active buffer a n : ℕ) (scan : List ℕ) (j byte : ℕ)
    → ((c : ℕ) → a ≤ c → c < a + n → has buffer c ≡ true → covers (channel_entry shape active buffer c) j ≡ true
    → byte ≡ source_of (channel_entry shape active buffer c) scan j)
    → (((c : ℕ) → a ≤ c → c < a + n → has buffer c ≡ true → covers (channel_entry shape active buffer c) j ≡ false) → byte ≡ 0)
    → byte ≡ byte_at (map (channel_entry shape active buffer) (filter (λ c. has buffer c) (range_with_len a n))) scan j
byte_is shape active buffer a zero scan j byte inside outside = outside (λ c above below. absurd (omega arith))
byte_is shape active buffer a (suc n) scan j byte inside outside =
    let rest = byte_is shape active buffer (a + 1) n scan j byte (λ c above below. inside c (omega arith) (omega arith)) in
    elim (cases_Bool (has buffer a)) [
      | inl own ↦
          elim (cases_Bool (covers (channel_entry shape active buffer a) j)) [
            | inl first ↦ rw (own, first) (inside a (omega arith) (omega arith) own first)
            | inr other ↦
                rw (own, other) (rest (λ none. outside (λ c above below selected.
                elim (cases_eq c a) [
                  | inl same ↦ rw same other
                  | inr later ↦ none c (omega arith) (omega arith) selected
                ])))
          ]
      | inr skipped ↦
          rw skipped (rest (λ none. outside (λ c above below selected.
          elim (cases_eq c a) [
            | inl same ↦ absurd (false≢true (sym skipped ∙ rw same at selected))
            | inr later ↦ none c (omega arith) (omega arith) selected
          ])))
    ]

-- a channel has the same bytes in both scans
same_byte : (shape : ShapeRecord) (active buffer c j : ℕ) (values : List ℤ) (t : ℤ) → length values ≡ width_of shape → c < count_of shape
    → has active c ≡ true → has buffer c ≡ true → covers (channel_entry shape active buffer c) j ≡ true
    → get_or (scan_of shape buffer values t) j 0 ≡ source_of (channel_entry shape active buffer c) (scan_of shape active values t) j
same_byte shape active buffer c j values t wide below selected own covered = search (rules, covers_tells, scan_of-at)

-- from a capture's scan under the active mask the entries of the buffer's channels make its scan under the buffer's mask
copied-scan_of : (shape : ShapeRecord) (active buffer : ℕ) (values : List ℤ) (t : ℤ) → ((c : ℕ) → IsTrue (has buffer c) → IsTrue (has active c))
    → length values ≡ width_of shape
    → copied (channel_entries shape active buffer (count_of shape)) (scan_of shape active values t) (scan_size shape buffer) ≡ scan_of shape buffer values t
copied-scan_of shape active buffer values t within wide =
    let scan = scan_of shape active values t in
    let own = scan_of shape buffer values t in
    sym (fill_by_all (byte_at (channel_entries shape active buffer (count_of shape)) scan) own (scan_size shape buffer) 0
    (length-scan_of shape buffer values t wide)
    (λ j below. byte_is shape active buffer 0 (count_of shape) scan j (get_or own j 0)
    (λ c above inside selected covered. same_byte shape active buffer c j values t wide (omega arith) (within c selected) selected covered)
    (λ none. scan_of-outside shape buffer values t j wide (λ c lies.
    absurd (false≢true (sym (none c (omega arith) (omega (arith, lies.0)) lies.1) ∙ covers_within (channel_entry shape active buffer c) j lies.2 lies.3))))))

-- the table of the two masks makes that scan too
pub table_scans : (shape : ShapeRecord) (active buffer : ℕ) (values : List ℤ) (t : ℤ) → ((c : ℕ) → IsTrue (has buffer c) → IsTrue (has active c))
    → length values ≡ width_of shape
    → copied (table_of shape active buffer).entries (scan_of shape active values t) (table_of shape active buffer).buffer_size ≡ scan_of shape buffer values t
table_scans shape active buffer values t within wide = simp (copied-merged, copied-scan_of)
