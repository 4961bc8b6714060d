use Rattle.std.proofs.Common.{◌≡◌, ◌*◌, take}
use Rattle.iio_scan_type.specs.Bytes.{channel_bytes}
use Rattle.iio_scan_type.proofs.ScanType.put.Given as goal

abbrev pub invariant-loop-k : goal.invariant-loop-k
invariant-loop-k l = take (l.k * l.size) l.out ≡ channel_bytes l.self (take l.k l.values)
