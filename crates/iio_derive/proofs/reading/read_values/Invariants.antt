use Rattle.std.proofs.Common.{◌≡◌, ◌*◌, ◌≤◌, length, vec_capacity}
use Rattle.iio_layout.specs.Scan.{values_below}
use Rattle.iio_layout.specs.Shape.{formats_of}
use Rattle.iio_derive.specs.Values.{value_in}
use Rattle.iio_derive.proofs.reading.read_values.Given as goal

abbrev pub invariant-loop-c : goal.invariant-loop-c
invariant-loop-c l = record {
  read : l.values.items ≡ values_below (formats_of l.shape) (value_in l.shape l.scan) l.c;
  few : length l.values.items ≤ 8 * l.c;
  room : vec_capacity l.fn.values ≤ vec_capacity l.values;
}
