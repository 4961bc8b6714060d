use Rattle.std.proofs.Common.{◌≡◌, ◌+◌, ◌≤◌, length}
use Rattle.iio_kfifo.specs.Offers.{accepted, lost_in}
use Rattle.iio_tests.proofs.tests.rings.count_right.Given as goal

abbrev pub invariant-loop-at : goal.invariant-loop-at
invariant-loop-at l = record {
  below : l.at ≤ length l.calls;
  writer : l.writer.ring ≡ l.initial.writer.ring;
  reader : l.reader.ring ≡ l.initial.reader.ring;
  writes : l.writer.size ≡ 1;
  reads : l.reader.size ≡ 1;
  offers : length (accepted l.writer.knows.offers) + lost_in l.writer.knows.offers ≤ l.at;
}
