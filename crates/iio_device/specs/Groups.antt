-- Members of the same mask share a copy table, and the scan that it makes of a capture.
use Rattle.std.specs.Prelude.{◌≡◌, ◌==◌, ℕ, Bool, if◌then◌else◌, List, [], length, find}
use Rattle.std.specs.List.{list_any}
use Rattle.std.specs.Option.{option_map_or}
use Rattle.iio_layout.specs.Layout.{scan_size}
use Rattle.iio_layout.specs.Shape.{ShapeRecord}
use Rattle.iio_demux.specs.Table.{CopyTable, copied, table_of}

-- a mask, the table for it, and room for its scan
pub record GroupRecord : Type 0 where
  pub mask : ℕ
  pub table : CopyTable
  pub scan : List ℕ

-- whether a group is of that mask
abbrev pub has_group : List GroupRecord → ℕ → Bool
has_group groups mask = list_any (λ g. g.mask == mask) groups

-- what holds of a group: its table copies from the scan under the active mask
pub record IsGroup (shape : ShapeRecord) (active : ℕ) (g : GroupRecord) : Type 0 where
  pub table : g.table ≡ table_of shape active g.mask
  pub room : length g.scan ≡ scan_size shape g.mask

-- the table is made again for another active mask
abbrev pub remade : ShapeRecord → ℕ → GroupRecord → GroupRecord
remade shape active g = record g { table = table_of shape active g.mask }

-- the group's scan is laid out from `union`, the scan under the active mask, unless the group is of the active mask itself
abbrev pub laid_out : ℕ → List ℕ → GroupRecord → GroupRecord
laid_out active union g = if g.mask == active then g else record g { scan = copied g.table.entries union g.table.buffer_size }

-- the scan of the group of that mask
abbrev pub scan_under : List GroupRecord → ℕ → List ℕ
scan_under groups mask = option_map_or (λ g. g.scan) (find (λ g. g.mask == mask) groups) []

-- the scan under a mask: that under the active mask, or that of the mask's group
abbrev pub scan_for : ℕ → List ℕ → List GroupRecord → ℕ → List ℕ
scan_for active union groups mask = if mask == active then union else scan_under groups mask
