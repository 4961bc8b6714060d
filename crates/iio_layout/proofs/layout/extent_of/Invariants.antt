use Rattle.std.proofs.Common.{◌≡◌, ◌≢◌, ◌⊎◌, ◌-◌, ◌*◌, ◌^◌, ◌<◌, ◌≤◌, length}
use Rattle.std.specs.Int.{IsPowerOfTwo}
use Rattle.iio_mask.specs.Mask.{channels_of}
use Rattle.iio_scan_type.specs.declared.TheConstants.{MAX_CHANNEL_SIZE}
use Rattle.iio_layout.specs.Layout.{end_below, largest_below}
use Rattle.iio_layout.specs.Shape.{count_of, formats_of}
use Rattle.iio_layout.proofs.ScanLemmas.{end_over, largest_over}
use Rattle.iio_layout.proofs.layout.extent_of.Given as goal

-- what is found, and the channels that are left after it, are the whole
abbrev pub invariant-loop-c : goal.invariant-loop-c
invariant-loop-c l = record {
  below : l.rest.bits < 2 ^ count_of l.shape;
  left : length (channels_of l.rest.bits) ≤ count_of l.shape;
  end : end_over (formats_of l.shape) l.end (channels_of l.rest.bits) ≡ end_below (formats_of l.shape) l.fn.mask.bits (count_of l.shape);
  largest : largest_over (formats_of l.shape) l.largest (channels_of l.rest.bits) ≡ largest_below (formats_of l.shape) l.fn.mask.bits (count_of l.shape);
  few : l.end ≤ MAX_CHANNEL_SIZE * (count_of l.shape - length (channels_of l.rest.bits));
  small : l.largest ≤ MAX_CHANNEL_SIZE;
  power : l.largest ≢ 0 → IsPowerOfTwo l.largest;
  fits : l.largest ≢ 0 → MAX_CHANNEL_SIZE * count_of l.shape < 2 ^ 32;
  some : (l.rest.bits ≡ l.fn.mask.bits) ⊎ (1 ≤ l.end);
}

abbrev pub decreases-loop-c : goal.decreases-loop-c
decreases-loop-c l = l.rest.bits
