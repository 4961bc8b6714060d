use Rattle.std.proofs.Common.{◌≡◌, ◌*◌, take}
use Rattle.iio_scan_type.specs.Bytes.{channel_bytes}
use Rattle.iio_layout.specs.Scan.{elements_below}
use Rattle.iio_layout.proofs.scan.put_several.Given as goal

abbrev pub invariant-loop-k : goal.invariant-loop-k
invariant-loop-k g l = take (l.k * l.size) l.out ≡ channel_bytes l.ty (elements_below (g.V.Values.value l.values l.c) l.k)
