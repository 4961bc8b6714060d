use Rattle.std.proofs.Common.{ℕ, ◌<◌, ◌≤◌, slice_index_or}
use Rattle.iio_scan_type.specs.Format.{size_of}
use Rattle.iio_layout.specs.declared.channel.Channel.{Channel}
use Rattle.iio_bench.proofs.inventory.look_at_channels.Given as goal

abbrev pub invariant-loop-c : goal.invariant-loop-c
invariant-loop-c l = (k : ℕ) (d : Channel) → k < l.c → 1 ≤ size_of (slice_index_or l.fn.shape.channels k d).ty
