use Rattle.std.proofs.Common.{◌≡◌, length}
use Rattle.iio_tests.proofs.tests.events.sense_all.Given as goal

abbrev pub invariant-loop-value : goal.invariant-loop-value
invariant-loop-value g l = length l.monitor.channels ≡ 2
