use Rattle.std.proofs.Common.{◌≡◌, ◌+◌}
use Rattle.iio_tests.proofs.tests.queues.offer_many.Given as goal

abbrev pub invariant-loop : goal.invariant-loop
invariant-loop l = (l.queue.size ≡ 64) × (l.queue.taken + l.queue.lost ≡ l.fn.queue.taken + l.fn.queue.lost + l.counter)
