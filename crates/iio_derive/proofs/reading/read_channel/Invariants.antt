use Rattle.std.proofs.Common.{◌≡◌, ◌++◌, ◌+◌, ◌≤◌, length, vec_capacity}
use Rattle.iio_scan_type.specs.Bytes.{value_at}
use Rattle.iio_layout.specs.Scan.{elements_below}
use Rattle.iio_derive.proofs.reading.read_channel.Given as goal

abbrev pub invariant-loop-k : goal.invariant-loop-k
invariant-loop-k l = record {
  read : l.values.items ≡ l.fn.values.items ++ elements_below (value_at l.ty l.field) l.k;
  few : length l.values.items ≡ length l.fn.values.items + l.k;
  room : vec_capacity l.fn.values ≤ vec_capacity l.values;
}
