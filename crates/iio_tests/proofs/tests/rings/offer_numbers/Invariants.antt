use Rattle.std.proofs.Common.{◌≡◌, ◌+◌, ◌≤◌, length}
use Rattle.iio_kfifo.specs.Offers.{accepted, lost_in}
use Rattle.iio_tests.proofs.tests.rings.offer_numbers.Given as goal

abbrev pub invariant-loop-number : goal.invariant-loop-number
invariant-loop-number l = record {
  below : l.number ≤ l.count;
  ring : l.writer.ring ≡ l.initial.writer.ring;
  size : l.writer.size ≡ 2;
  offers : length (accepted l.writer.knows.offers) + lost_in l.writer.knows.offers ≡ l.number;
}
