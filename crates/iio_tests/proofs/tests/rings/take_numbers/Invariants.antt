use Rattle.std.proofs.Common.{◌≡◌, length}
use Rattle.iio_tests.proofs.tests.rings.take_numbers.Given as goal

abbrev pub invariant-loop : goal.invariant-loop
invariant-loop l = record {
  ring : l.reader.ring ≡ l.initial.reader.ring;
  size : l.reader.size ≡ 2;
  scan : length l.scan ≡ 2;
}
