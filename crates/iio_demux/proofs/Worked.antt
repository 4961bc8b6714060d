-- Worked tables: what the definitions give on two devices with a timestamp, by computation.
use Rattle.std.proofs.Common.{◌≡◌, ℕ, [], ◌∷◌, Some, refl}
use Rattle.iio_scan_type.specs.declared.Endian.TheVariants.{Little}
use Rattle.iio_scan_type.specs.declared.Sign.TheVariants.{Unsigned}
use Rattle.iio_scan_type.specs.Format.{Format}
use Rattle.iio_layout.specs.declared.Kind.TheVariants.{Voltage}
use Rattle.iio_layout.specs.declared.Suffix.TheVariants.{Number}
use Rattle.iio_layout.specs.declared.Direction.TheVariants.{Input}
use Rattle.iio_layout.specs.declared.Channel.{Channel}
use Rattle.iio_layout.specs.Shape.{ShapeRecord}
use Rattle.iio_demux.specs.declared.table.Entry.{Entry}
use Rattle.iio_demux.specs.Table.{copied, table_of}

abbrev unsigned : ℕ → Format
unsigned bits = record { sign = Unsigned; realbits = bits; storagebits = bits; shift = 0; repeat = 1; endian = Little }

abbrev voltage : ℕ → ℕ → Channel
voltage number bits = record { kind = Voltage; suffix = Number number; direction = Input; ty = unsigned bits }

abbrev entry : ℕ → ℕ → ℕ → Entry
entry from to length = record { from = from; to = to; length = length }

-- five channels of two bytes, and a timestamp
abbrev alike : ShapeRecord
alike = record {
  channels = voltage 0 16 ∷ voltage 1 16 ∷ voltage 2 16 ∷ voltage 3 16 ∷ voltage 4 16 ∷ [];
  stamp = Some Little;
  listed = [];
}

-- from all channels to voltage0 and the timestamp
alike_entries : (table_of alike 63 33).entries ≡ entry 0 0 2 ∷ entry 16 8 8 ∷ []
alike_entries = refl

-- from all channels to three neighbours, which share one entry
alike_neighbours : (table_of alike 63 14).entries ≡ entry 2 0 6 ∷ []
alike_neighbours = refl

-- from all channels to voltage0, to voltage2 and voltage3, which share one entry, and to the timestamp
alike_parts : (table_of alike 63 45).entries ≡ entry 0 0 2 ∷ entry 4 2 4 ∷ entry 16 8 8 ∷ []
alike_parts = refl

alike_scan : copied (entry 0 0 2 ∷ entry 16 8 8 ∷ [])
    (1 ∷ 0 ∷ 2 ∷ 0 ∷ 3 ∷ 0 ∷ 4 ∷ 0 ∷ 5 ∷ 0 ∷ 0 ∷ 0 ∷ 0 ∷ 0 ∷ 0 ∷ 0 ∷ 2 ∷ 1 ∷ 0 ∷ 0 ∷ 0 ∷ 0 ∷ 0 ∷ 0 ∷ []) 16
    ≡ 1 ∷ 0 ∷ 0 ∷ 0 ∷ 0 ∷ 0 ∷ 0 ∷ 0 ∷ 2 ∷ 1 ∷ 0 ∷ 0 ∷ 0 ∷ 0 ∷ 0 ∷ 0 ∷ []
alike_scan = refl

-- channels of one, four and two bytes, and a timestamp
abbrev mixed : ShapeRecord
mixed = record { channels = voltage 0 8 ∷ voltage 1 32 ∷ voltage 2 16 ∷ []; stamp = Some Little; listed = [] }

-- from all channels to the first and the last data channel, with a byte of padding between them
mixed_entries : (table_of mixed 15 5).entries ≡ entry 0 0 1 ∷ entry 8 2 2 ∷ []
mixed_entries = refl

mixed_scan : copied (entry 0 0 1 ∷ entry 8 2 2 ∷ []) (17 ∷ 9 ∷ 9 ∷ 9 ∷ 33 ∷ 34 ∷ 35 ∷ 36 ∷ 49 ∷ 50 ∷ []) 4 ≡ 17 ∷ 0 ∷ 49 ∷ 50 ∷ []
mixed_scan = refl
