use Rattle.std.proofs.Common.{◌≡◌, ℕ, ◌<◌, true, length, slice_index}
use Rattle.iio_mask.specs.Mask.{has}
use Rattle.iio_output.specs.View.{IsPlace}
use Rattle.iio_output.proofs.last.places_of.Given as goal

abbrev pub invariant-loop-c : goal.invariant-loop-c
invariant-loop-c l = record {
  room : length l.places ≡ 64;
  below : (k : ℕ) → k < l.c → has l.mask.bits k ≡ true → IsPlace l.shape l.mask.bits k (slice_index l.places k);
}
