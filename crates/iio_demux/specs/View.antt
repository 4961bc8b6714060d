-- What contracts see of a table's fields.
use Rattle.std.specs.Prelude.{◌≤◌, vec_capacity}
use Rattle.iio_layout.specs.declared.shape.TheConstants.{MAX_CHANNELS}
use Rattle.iio_demux.specs.declared.table.Table.TheInside.{Inside}
use Rattle.iio_demux.specs.Table.{CopyTable, IsCopyTable}

abbrev pub record_of : Inside → CopyTable
record_of a = record { entries = a.entries.items; active_size = a.active_size; buffer_size = a.buffer_size }

-- there is room for an entry of each channel
abbrev pub IsSound : Inside → Type 0
IsSound a = IsCopyTable (record_of a) × (MAX_CHANNELS ≤ vec_capacity a.entries)
