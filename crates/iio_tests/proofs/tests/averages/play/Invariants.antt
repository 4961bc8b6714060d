use Rattle.iio_tests.specs.Tested.{AreTested}
use Rattle.iio_tests.proofs.tests.averages.play.Given as goal

abbrev pub invariant-loop-step : goal.invariant-loop-step
invariant-loop-step g l = AreTested l.adds 4 l.device.seats
