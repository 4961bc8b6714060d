use Rattle.iio_scan_type.specs.View.{format_of}
use Rattle.iio_scan_type.proofs.Numbers.{size_power}
use Rattle.iio_scan_type.proofs.ScanType.size.Goals as goal

pub returns-clause-power : goal.returns-clause-power
returns-clause-power c = size_power (format_of c.self.inside) c.self.invariant
