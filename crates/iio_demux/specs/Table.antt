-- Copy tables: what a table holds, and the scan that it makes of another. (Kernel, industrialio-buffer.c:
-- `iio_buffer_update_demux` makes a table, whose neighbours that are contiguous `iio_buffer_add_demux` merges, and
-- `iio_demux` copies by it. That bytes in no entry are zero is this project's own.)
use Rattle.std.specs.Prelude.{◌≡◌, ℕ, ◌+◌, ◌-◌, ◌≤◌, ◌&&◌, ◌==◌, nat_le, nat_lt, Bool, false, if◌then◌else◌, List, [], ◌∷◌, map, find, slice_index}
use Rattle.std.specs.List.{range_with_len}
use Rattle.std.specs.Option.{option_map_or}
use Rattle.iio_mask.specs.Mask.{channels_below}
use Rattle.iio_layout.specs.Shape.{ShapeRecord, count_of, formats_of}
use Rattle.iio_layout.specs.Layout.{place_of, scan_size, size_at}
use Rattle.iio_demux.specs.declared.table.Entry.{Entry}

-- a table: its entries, the size of the active scan, which it reads, and the size of the buffer's scan, which it writes
pub record CopyTable : Type 0 where
  pub entries : List Entry
  pub active_size : ℕ
  pub buffer_size : ℕ

-- ---- which entries there are

-- the bytes of channel c: its place under the active mask, its place under the buffer's mask, and its size
abbrev pub channel_entry : ShapeRecord → (active buffer c : ℕ) → Entry
channel_entry shape active buffer c =
    record { from = place_of shape active c; to = place_of shape buffer c; length = size_at (formats_of shape) c }

-- the entries of the channels of the buffer's mask before channel n, the timestamp's too, in the order of the channels
abbrev pub channel_entries : ShapeRecord → (active buffer n : ℕ) → List Entry
channel_entries shape active buffer n = map (channel_entry shape active buffer) (channels_below buffer n)

-- whether one entry begins, in both scans, where another ends
abbrev pub continues : Entry → Entry → Bool
continues entry next = (entry.from + entry.length == next.from) && (entry.to + entry.length == next.to)

-- two such entries as one
abbrev pub joined : Entry → Entry → Entry
joined entry next = record { from = entry.from; to = entry.to; length = entry.length + next.length }

-- an entry before others, joined with the first of them if that continues it
abbrev pub merged_before : Entry → List Entry → List Entry
merged_before entry [] = entry ∷ []
merged_before entry (next ∷ others) = if continues entry next then joined entry next ∷ others else entry ∷ next ∷ others

-- the entries, each joined with those that continue it
abbrev pub merged : List Entry → List Entry
merged [] = []
merged (entry ∷ others) = merged_before entry (merged others)

-- the table from the active mask to the buffer's
abbrev pub table_of : ShapeRecord → (active buffer : ℕ) → CopyTable
table_of shape active buffer = record {
  entries = merged (channel_entries shape active buffer (count_of shape));
  active_size = scan_size shape active;
  buffer_size = scan_size shape buffer;
}

-- ---- what a table makes of a scan

-- whether byte j of the buffer's scan lies in an entry
abbrev pub covers : Entry → ℕ → Bool
covers entry j = nat_le entry.to j && nat_lt j (entry.to + entry.length)

-- the byte of the active scan that an entry has for byte j of the buffer's scan
abbrev pub source_of : Entry → List ℕ → ℕ → ℕ
source_of entry scan j = slice_index scan (entry.from + (j - entry.to))

-- byte j of the buffer's scan: that of the first entry in which it lies, and 0 if it lies in none
abbrev pub byte_at : List Entry → List ℕ → ℕ → ℕ
byte_at entries scan j = option_map_or (λ entry. source_of entry scan j) (find (λ entry. covers entry j) entries) 0

-- the buffer's scan of this size that the entries make of an active scan
abbrev pub copied : List Entry → List ℕ → ℕ → List ℕ
copied entries scan size = map (λ j. byte_at entries scan j) (range_with_len 0 size)

-- ---- which tables there are

-- the entries lie within both scans, and in the buffer's one after another from byte `low` on
abbrev pub AreInOrder : (active_size buffer_size low : ℕ) → List Entry → Type 0
AreInOrder active_size buffer_size low [] = low ≤ buffer_size
AreInOrder active_size buffer_size low (entry ∷ later) =
    (low ≤ entry.to) × (entry.from + entry.length ≤ active_size) × AreInOrder active_size buffer_size (entry.to + entry.length) later

-- no two neighbouring entries are contiguous on both sides
abbrev pub AreMerged : List Entry → Type 0
AreMerged [] = Unit {0}
AreMerged (entry ∷ []) = Unit {0}
AreMerged (entry ∷ next ∷ later) = (continues entry next ≡ false) × AreMerged (next ∷ later)

-- what holds of every table
pub record IsCopyTable (table : CopyTable) : Type 0 where
  pub ordered : AreInOrder table.active_size table.buffer_size 0 table.entries
  pub merged : AreMerged table.entries
