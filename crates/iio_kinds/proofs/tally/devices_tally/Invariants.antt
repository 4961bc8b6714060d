use Rattle.std.proofs.Common.{◌≡◌, take}
use Rattle.iio_kinds.specs.Tally.{devices_tally}
use Rattle.iio_kinds.proofs.tally.devices_tally.Given as goal

abbrev pub invariant-loop-device : goal.invariant-loop-device
invariant-loop-device g l = l.tally ≡ devices_tally (take l.device-index l.devices)
