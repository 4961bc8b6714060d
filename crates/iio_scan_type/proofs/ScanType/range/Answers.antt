use Rattle.std.proofs.Common.{arith}
use Rattle.iio_scan_type.specs.View.{format_of}
use Rattle.iio_scan_type.proofs.Numbers.{bounds_of, least_signed, greatest_signed, greatest_unsigned}
use Rattle.iio_scan_type.proofs.ScanType.range.Goals as goal

pub returns-in-Signed-clause-least : goal.returns-in-Signed-clause-least
returns-in-Signed-clause-least c =
    let b = bounds_of (format_of c.self.inside) c.self.invariant in
    rw (← c.self.view_is, c.in-Signed.is) (least_signed c.self.inside.realbits b.some (omega arith))

pub returns-in-Signed-clause-greatest : goal.returns-in-Signed-clause-greatest
returns-in-Signed-clause-greatest c =
    let b = bounds_of (format_of c.self.inside) c.self.invariant in
    rw (← c.self.view_is, c.in-Signed.is) (greatest_signed c.self.inside.realbits b.some (omega arith))

pub returns-in-Unsigned-clause-greatest : goal.returns-in-Unsigned-clause-greatest
returns-in-Unsigned-clause-greatest c =
    let b = bounds_of (format_of c.self.inside) c.self.invariant in
    rw (← c.self.view_is, c.in-Unsigned.is) (greatest_unsigned c.self.inside.realbits (rw c.in-Unsigned.is at b.most))
