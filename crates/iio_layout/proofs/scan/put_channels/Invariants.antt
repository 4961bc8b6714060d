use Rattle.std.proofs.Common.{◌≡◌, ◌^◌, ◌<◌, length, take}
use Rattle.iio_mask.specs.Mask.{channels_of}
use Rattle.iio_layout.specs.Layout.{end_below, scan_size}
use Rattle.iio_layout.specs.Scan.{capture_values, front_below, values_by}
use Rattle.iio_layout.specs.Shape.{count_of, formats_of}
use Rattle.iio_layout.proofs.ScanLemmas.{end_over, front_over}
use Rattle.iio_layout.proofs.scan.put_channels.Given as goal

-- what is written, and the channels that are left after it, are the whole
abbrev pub invariant-loop-c : goal.invariant-loop-c
invariant-loop-c g l = record {
  size : length l.out ≡ scan_size l.shape l.fn.mask.bits;
  below : l.rest.bits < 2 ^ count_of l.shape;
  end : end_over (formats_of l.shape) l.end (channels_of l.rest.bits) ≡ end_below (formats_of l.shape) l.fn.mask.bits (count_of l.shape);
  front : front_over (formats_of l.shape) (capture_values (values_by l.shape (g.V.Values.value l.values)) l.t) (take l.end l.out) (channels_of l.rest.bits)
      ≡ front_below (formats_of l.shape) l.fn.mask.bits (capture_values (values_by l.shape (g.V.Values.value l.values)) l.t) (count_of l.shape);
}

abbrev pub decreases-loop-c : goal.decreases-loop-c
decreases-loop-c g l = l.rest.bits
