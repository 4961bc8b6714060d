use Rattle.std.proofs.Common.{◌≡◌, ℕ, ◌<◌, length, slice_index}
use Rattle.iio_derive.specs.View.{IsPlace}
use Rattle.iio_derive.proofs.reading.places_of.Given as goal

abbrev pub invariant-loop-c : goal.invariant-loop-c
invariant-loop-c l = record {
  room : length l.places ≡ 64;
  below : (k : ℕ) → k < l.c → IsPlace l.shape k (slice_index l.places k);
}
