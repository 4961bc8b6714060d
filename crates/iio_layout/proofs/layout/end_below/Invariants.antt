use Rattle.std.proofs.Common.{◌≡◌, ℕ, ◌*◌, ◌<◌, ◌≤◌, true}
use Rattle.iio_mask.specs.Mask.{has}
use Rattle.iio_scan_type.specs.declared.TheConstants.{MAX_CHANNEL_SIZE}
use Rattle.iio_layout.specs.Layout.{end_below}
use Rattle.iio_layout.specs.Shape.{formats_of}
use Rattle.iio_layout.proofs.layout.end_below.Given as goal

abbrev pub invariant-loop-k : goal.invariant-loop-k
invariant-loop-k l = record {
  value : l.end ≡ end_below (formats_of l.shape) l.mask.bits l.k;
  few : l.end ≤ MAX_CHANNEL_SIZE * l.k;
  some : (k : ℕ) → k < l.k → has l.mask.bits k ≡ true → 1 ≤ l.end;
}
