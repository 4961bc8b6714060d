use Rattle.std.proofs.Common.{◌≡◌, drop}
use Rattle.iio_device.specs.Groups.{scan_under}
use Rattle.iio_device.proofs.group.scan_under.Given as goal

abbrev pub invariant-loop-group : goal.invariant-loop-group
invariant-loop-group l = scan_under (drop l.group-index l.groups) l.mask.bits ≡ scan_under l.groups l.mask.bits
