-- How a scan type is seen.
use Rattle.iio_scan_type.specs.declared.ScanType.TheInside.{Inside}
use Rattle.iio_scan_type.specs.Format.{Format, IsInProfile}

abbrev pub format_of : Inside → Format
format_of a = record {
  sign = a.sign;
  realbits = a.realbits;
  storagebits = a.storagebits;
  shift = a.shift;
  repeat = a.repeat;
  endian = a.endian;
}

abbrev pub inside_of : Format → Inside
inside_of f = record {
  sign = f.sign;
  realbits = f.realbits;
  storagebits = f.storagebits;
  shift = f.shift;
  repeat = f.repeat;
  endian = f.endian;
}

abbrev pub IsSound : Inside → Type 0
IsSound a = IsInProfile (format_of a)
