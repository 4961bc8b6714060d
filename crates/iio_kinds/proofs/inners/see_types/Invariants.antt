use Rattle.std.proofs.Common.{ℕ, ◌<◌, slice_index_or}
use Rattle.iio_scan_type.specs.Format.{IsInProfile}
use Rattle.iio_layout.specs.declared.channel.Channel.{Channel}
use Rattle.iio_kinds.proofs.inners.see_types.Given as goal

abbrev pub invariant-loop-c : goal.invariant-loop-c
invariant-loop-c l = (k : ℕ) (d : Channel) → k < l.c → IsInProfile (slice_index_or l.fn.shape.channels k d).ty
