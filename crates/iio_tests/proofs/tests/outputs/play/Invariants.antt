use Rattle.std.proofs.Common.{◌≡◌, length}
use Rattle.iio_tests.proofs.tests.outputs.play.Given as goal

abbrev pub invariant-loop-step : goal.invariant-loop-step
invariant-loop-step g l = length l.device.shape.channels ≡ 2
