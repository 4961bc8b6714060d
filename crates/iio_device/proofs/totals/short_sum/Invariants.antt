use Rattle.std.proofs.Common.{◌≡◌, ◌*◌, ◌≤◌, take}
use Rattle.std.specs.List.{sum}
use Rattle.iio_device.proofs.totals.short_sum.Given as goal

abbrev pub invariant-loop-byte : goal.invariant-loop-byte
invariant-loop-byte l = record {
  is : l.total ≡ sum (take l.byte-index l.bytes);
  few : l.total ≤ 255 * l.byte-index;
}
