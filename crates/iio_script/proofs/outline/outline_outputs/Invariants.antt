use Rattle.std.proofs.Common.{◌≡◌, map, take}
use Rattle.iio_script.proofs.outline.outline_outputs.Given as goal

abbrev pub invariant-loop-device : goal.invariant-loop-device
invariant-loop-device l = map (λ d. d.name) l.outlines.items ≡ map (λ d. d.name) (take l.device-index l.outputs)
