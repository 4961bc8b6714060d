use Rattle.std.proofs.Common.{◌≡◌, map, Some}
use Rattle.iio_probe.proofs.devices.slots_of.Given as goal

abbrev pub invariant-loop-d : goal.invariant-loop-d
invariant-loop-d g l = l.slots.items ≡ map (λ d. Some d) l.yielded
