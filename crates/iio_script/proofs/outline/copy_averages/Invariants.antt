use Rattle.std.proofs.Common.{◌≡◌, map, take}
use Rattle.iio_script.proofs.outline.copy_averages.Given as goal

abbrev pub invariant-loop-device : goal.invariant-loop-device
invariant-loop-device l = map (λ d. d.name) l.copies.items ≡ map (λ d. d.name) (take l.device-index l.averages)
