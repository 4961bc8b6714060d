use Rattle.std.proofs.Common.{◌≡◌, ◌++◌}
use Rattle.std.specs.List.{flat_map}
use Rattle.iio_mask.specs.Mask.{channels_below}
use Rattle.iiod_program.specs.Placing.{channel_line}
use Rattle.iiod_program.proofs.placing.push_channels.Given as goal

abbrev pub invariant-loop-c : goal.invariant-loop-c
invariant-loop-c l = l.out.items ≡ l.fn.out.items ++ flat_map (channel_line l.shape l.mask.bits) (channels_below l.mask.bits l.c)
