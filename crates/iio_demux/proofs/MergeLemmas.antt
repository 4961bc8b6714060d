-- Merged entries: another entry at the end, where they lie, and what they make of a scan.
use Rattle.std.proofs.Common.{◌≡◌, ℕ, zero, suc, ◌+◌, ◌≤◌, true, false, cond, List, [], ◌∷◌, ◌++◌, length, get_or, set, map, refl, ap, ◌∙◌, inl, inr, arith, rules}
use Rattle.std.proofs.lemmas.Grind.{common_steps}
use Rattle.std.specs.List.{range_with_len}
use Rattle.std.proofs.lemmas.Bool.{cases_Bool}
use Rattle.iio_demux.specs.declared.table.Entry.{Entry}
use Rattle.iio_demux.specs.Table.{AreInOrder, AreMerged, byte_at, continues, copied, covers, joined, merged, merged_before, source_of}

-- ---- where an entry continues another

-- an entry is continued by two joined entries exactly if the first of them continues it
continues_first : (entry next last : Entry) → continues entry (joined next last) ≡ continues entry next
continues_first entry next last = refl

-- ---- another entry

-- entries with another one at the end, joined with the last if it continues that
abbrev pub with_last : List Entry → Entry → List Entry
with_last [] entry = entry ∷ []
with_last (last ∷ []) entry = cond (continues last entry) (joined last entry ∷ []) (last ∷ entry ∷ [])
with_last (first ∷ next ∷ later) entry = first ∷ with_last (next ∷ later) entry

before_last : (entry : Entry) (others : List Entry) (last : Entry) → merged_before entry (with_last others last) ≡ with_last (merged_before entry others) last
before_last entry others last = search rules

pub merged-push : (entries : List Entry) (last : Entry) → merged (entries ++ last ∷ []) ≡ with_last (merged entries) last
merged-push [] last = refl
merged-push (entry ∷ others) last = ap (merged_before entry) (merged-push others last) ∙ before_last entry (merged others) last

-- by the last entry's place
pub with_last-joined : (entries : List Entry) (n : ℕ) (d entry : Entry) → n + 1 ≡ length entries → continues (get_or entries n d) entry ≡ true
    → with_last entries entry ≡ set entries n (joined (get_or entries n d) entry)
with_last-joined [] n d entry many goes_on = absurd (omega arith)
with_last-joined (e ∷ []) zero d entry many goes_on = rw goes_on refl
with_last-joined (e ∷ []) (suc n) d entry many goes_on = absurd (omega arith)
with_last-joined (e ∷ next ∷ es) zero d entry many goes_on = absurd (omega arith)
with_last-joined (e ∷ next ∷ es) (suc n) d entry many goes_on = ap (λ l. e ∷ l) (with_last-joined (next ∷ es) n d entry (omega arith) goes_on)

pub with_last-pushed : (entries : List Entry) (n : ℕ) (d entry : Entry) → n + 1 ≡ length entries → continues (get_or entries n d) entry ≡ false
    → with_last entries entry ≡ entries ++ entry ∷ []
with_last-pushed [] n d entry many parted = absurd (omega arith)
with_last-pushed (e ∷ []) zero d entry many parted = rw parted refl
with_last-pushed (e ∷ []) (suc n) d entry many parted = absurd (omega arith)
with_last-pushed (e ∷ next ∷ es) zero d entry many parted = absurd (omega arith)
with_last-pushed (e ∷ next ∷ es) (suc n) d entry many parted = ap (λ l. e ∷ l) (with_last-pushed (next ∷ es) n d entry (omega arith) parted)

-- an entry that is put after merged ones: joined with the last, after the last, and as the only one
pub pushed_joined : (before items : List Entry) (n : ℕ) (last found entry : Entry) → items ≡ merged before → n + 1 ≡ length items
    → last ≡ get_or items n last → found ≡ get_or items n found → continues last entry ≡ true
    → set items n (record { from = found.from; to = found.to; length = found.length + entry.length }) ≡ merged (before ++ entry ∷ [])
pushed_joined before items n last found entry is_merged many is_last is_found goes_on =
    grind (arith, common_steps, continues, merged-push, with_last-joined, set, joined)

pub pushed_apart : (before items : List Entry) (n : ℕ) (last entry : Entry) → items ≡ merged before → n + 1 ≡ length items → last ≡ get_or items n last
    → continues last entry ≡ false → items ++ entry ∷ [] ≡ merged (before ++ entry ∷ [])
pushed_apart before items n last entry is_merged many is_last parted = search (rules, continues, merged-push, with_last-pushed)

pub pushed_alone : (before items : List Entry) (entry : Entry) → items ≡ merged before → length items ≤ 0 → items ++ entry ∷ [] ≡ merged (before ++ entry ∷ [])
pushed_alone before items entry is_merged none = grind (arith, common_steps, merged-push)

-- ---- no two neighbours are contiguous on both sides

merged_stays : (entry : Entry) (others : List Entry) → AreMerged others → AreMerged (merged_before entry others)
merged_stays entry others h1 = grind (arith, common_steps)

pub merged_apart : (entries : List Entry) → AreMerged (merged entries)
merged_apart [] = tt
merged_apart (entry ∷ others) = merged_stays entry (merged others) (merged_apart others)

-- ---- where merged entries lie

order_stays : (active_size buffer_size low : ℕ) (entry : Entry) (others : List Entry) → AreInOrder active_size buffer_size low (entry ∷ others)
    → AreInOrder active_size buffer_size low (merged_before entry others)
order_stays active_size buffer_size low entry others order = search rules

pub merged_in_order : (active_size buffer_size low : ℕ) (entries : List Entry) → AreInOrder active_size buffer_size low entries
    → AreInOrder active_size buffer_size low (merged entries)
merged_in_order active_size buffer_size low [] order = order
merged_in_order active_size buffer_size low (entry ∷ others) order =
    search (rules, order_stays, merged_in_order active_size buffer_size (entry.to + entry.length) others order.2)

-- ---- what merged entries make of a scan

-- a byte by the first entry
pub byte_at-cons : (entry : Entry) (entries : List Entry) (scan : List ℕ) (j : ℕ)
    → byte_at (entry ∷ entries) scan j ≡ cond (covers entry j) (source_of entry scan j) (byte_at entries scan j)
byte_at-cons entry entries scan j = elim (cases_Bool (covers entry j)) [ inl own ↦ rw own refl | inr other ↦ rw other refl ]

before_byte : (entry : Entry) (others : List Entry) (scan : List ℕ) (j : ℕ) → byte_at (merged_before entry others) scan j ≡ byte_at (entry ∷ others) scan j
before_byte entry others scan j = search rules

byte_at-merged : (entries : List Entry) (scan : List ℕ) (j : ℕ) → byte_at (merged entries) scan j ≡ byte_at entries scan j
byte_at-merged [] scan j = refl
byte_at-merged (entry ∷ others) scan j = simp (before_byte, byte_at-cons, byte_at-merged others scan j)

-- merged entries make the same scan
pub copied-merged : (entries : List Entry) (scan : List ℕ) (size : ℕ) → copied (merged entries) scan size ≡ copied entries scan size
copied-merged entries scan size = λ i. map (λ j. byte_at-merged entries scan j i) (range_with_len 0 size)
