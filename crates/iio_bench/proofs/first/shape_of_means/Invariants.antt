use Rattle.std.proofs.Common.{◌≡◌, take, length}
use Rattle.iio_bench.proofs.first.shape_of_means.Given as goal

abbrev pub invariant-loop-c : goal.invariant-loop-c
invariant-loop-c l = record {
  channels : l.channels.items ≡ take l.c l.shape.channels;
  all : l.c-end ≡ length l.shape.channels;
}
