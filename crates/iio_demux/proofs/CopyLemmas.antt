-- What entries make of a scan, one entry after another.
use Rattle.std.proofs.Common.{◌≡◌, ℕ, ◌+◌, ◌<◌, ◌≤◌, true, false, cond, List, [], ◌∷◌, refl, arith, slice_index, nat_lt, rules}
use Rattle.std.proofs.lemmas.Bool.Decides.{nat_tests}
use Rattle.iio_demux.specs.declared.table.Entry.{Entry}
use Rattle.iio_demux.specs.Table.{AreInOrder, byte_at, covers, source_of}
use Rattle.iio_demux.proofs.MergeLemmas.{byte_at-cons}

-- ---- where a byte lies

-- where a byte lies that an entry covers
pub covers_tells : (entry : Entry) (j : ℕ) → covers entry j ≡ true → (entry.to ≤ j) × (j < entry.to + entry.length)
covers_tells entry j own = grind (arith, nat_tests)

-- an entry covers the bytes from its place to its end
pub covers_within : (entry : Entry) (j : ℕ) → entry.to ≤ j → j < entry.to + entry.length → covers entry j ≡ true
covers_within entry j after before = grind (arith, nat_tests)

-- an entry covers no byte before its place, and none from its end on
begins_after : (entry : Entry) (j : ℕ) → j < entry.to → covers entry j ≡ false
begins_after entry j before = grind (arith, nat_tests)

ends_before : (entry : Entry) (j : ℕ) → entry.to + entry.length ≤ j → covers entry j ≡ false
ends_before entry j past = grind (arith, nat_tests)

is_below : (j n : ℕ) → j < n → nat_lt j n ≡ true
is_below j n below = grind (arith, nat_tests)

is_above : (j n : ℕ) → n ≤ j → nat_lt j n ≡ false
is_above j n above = grind (arith, nat_tests)

-- ---- one entry after another

-- before the first entry the bytes are zero
byte_before : (active_size buffer_size low : ℕ) (entries : List Entry) (scan : List ℕ) (j : ℕ) → AreInOrder active_size buffer_size low entries → j < low
    → byte_at entries scan j ≡ 0
byte_before active_size buffer_size low [] scan j order before = refl
byte_before active_size buffer_size low (entry ∷ later) scan j order before =
    search (rules, byte_at-cons, begins_after, byte_before active_size buffer_size (entry.to + entry.length) later scan j order.2 (omega (arith, order.0)))

-- entries that stand from a byte on end no earlier
pub order_within : (active_size buffer_size low : ℕ) (entries : List Entry) → AreInOrder active_size buffer_size low entries → low ≤ buffer_size
order_within active_size buffer_size low [] order = order
order_within active_size buffer_size low (entry ∷ later) order = search (rules, order_within active_size buffer_size (entry.to + entry.length) later order.2)

-- the bytes that are written before byte `start`, and those that the entries still to come make from there on
abbrev pub so_far : (written : List ℕ) (start : ℕ) → List Entry → (scan : List ℕ) → ℕ → ℕ
so_far written start entries scan j = cond (nat_lt j start) (slice_index written j) (byte_at entries scan j)

-- another entry was copied
pub copied_more : (active_size buffer_size start end : ℕ) (entry : Entry) (later : List Entry) (scan old new : List ℕ) (j : ℕ)
    → AreInOrder active_size buffer_size start (entry ∷ later) → end ≡ entry.to + entry.length
    → (j < start → slice_index new j ≡ slice_index old j) → (start ≤ j → j < entry.to → slice_index new j ≡ 0)
    → (covers entry j ≡ true → slice_index new j ≡ source_of entry scan j)
    → so_far old start (entry ∷ later) scan j ≡ so_far new end later scan j
copied_more active_size buffer_size start end entry later scan old new j order is_end kept gap bytes =
    search (rules, is_below, is_above, byte_at-cons, begins_after, byte_before, covers_within, ends_before)

-- all entries were copied
pub copied_all : (end : ℕ) (scan written : List ℕ) (j : ℕ) → (end ≤ j → slice_index written j ≡ 0) → slice_index written j ≡ so_far written end [] scan j
copied_all end scan written j h1 = search rules
