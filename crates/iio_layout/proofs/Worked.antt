-- Worked scans: what the definitions give on a device of three channels and a timestamp, by computation.
use Rattle.std.proofs.Common.{◌≡◌, List, [], ◌∷◌, Some, refl, pos, negsuc, ℤ}
use Rattle.iio_scan_type.specs.declared.Endian.TheVariants.{Big, Little}
use Rattle.iio_scan_type.specs.declared.Sign.TheVariants.{Signed, Unsigned}
use Rattle.iio_scan_type.specs.Format.{Format}
use Rattle.iio_layout.specs.declared.channel.Kind.TheVariants.{Voltage, Accel}
use Rattle.iio_layout.specs.declared.channel.Suffix.TheVariants.{Number, X}
use Rattle.iio_layout.specs.declared.channel.Direction.TheVariants.{Input}
use Rattle.iio_layout.specs.Id.{id_of}
use Rattle.iio_layout.specs.Shape.{ShapeRecord}
use Rattle.iio_layout.specs.Layout.{place_of, scan_size}
use Rattle.iio_layout.specs.Scan.{scan_of}

-- `le:u12/16>>4`
abbrev volts : Format
volts = record { sign = Unsigned; realbits = 12; storagebits = 16; shift = 4; repeat = 1; endian = Little }

-- `be:s16/16>>0`
abbrev accels : Format
accels = record { sign = Signed; realbits = 16; storagebits = 16; shift = 0; repeat = 1; endian = Big }

-- voltage0, voltage1, accel_x and a timestamp
abbrev adc : ShapeRecord
adc = record {
  channels =
      record { kind = Voltage; suffix = Number 0; direction = Input; ty = volts }
      ∷ record { kind = Voltage; suffix = Number 1; direction = Input; ty = volts }
      ∷ record { kind = Accel; suffix = X; direction = Input; ty = accels } ∷ [];
  stamp = Some Little;
  listed = [];
}

abbrev values : List ℤ
values = pos 1 ∷ pos 2 ∷ negsuc 2 ∷ []

-- voltage0 and accel_x
two_channels : scan_of adc 5 values (pos 1000) ≡ 16 ∷ 0 ∷ 255 ∷ 253 ∷ []
two_channels = refl

-- voltage0 and the timestamp: six bytes of padding
padding_before_timestamp : scan_of adc 9 values (pos 1000)
    ≡ 16 ∷ 0 ∷ 0 ∷ 0 ∷ 0 ∷ 0 ∷ 0 ∷ 0 ∷ 232 ∷ 3 ∷ 0 ∷ 0 ∷ 0 ∷ 0 ∷ 0 ∷ 0 ∷ []
padding_before_timestamp = refl

place_of_timestamp : place_of adc 9 3 ≡ 8
place_of_timestamp = refl

no_channels : scan_size adc 0 ≡ 0
no_channels = refl

id_of_voltage : id_of (118 ∷ 111 ∷ 108 ∷ 116 ∷ 97 ∷ 103 ∷ 101 ∷ 49 ∷ 50 ∷ []) ≡ Some (Voltage, Number 12)
id_of_voltage = refl
