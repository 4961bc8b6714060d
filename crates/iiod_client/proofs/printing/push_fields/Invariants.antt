use Rattle.std.proofs.Common.{◌≡◌, ◌++◌}
use Rattle.std.specs.List.{flat_map}
use Rattle.iio_mask.specs.Mask.{channels_below}
use Rattle.iiod_client.specs.Printed.{field_text}
use Rattle.iiod_client.proofs.printing.push_fields.Given as goal

abbrev pub invariant-loop-c : goal.invariant-loop-c
invariant-loop-c l = l.out.items ≡ l.fn.out.items ++ flat_map (field_text l.shape l.mask.bits l.scan) (channels_below l.mask.bits l.c)
