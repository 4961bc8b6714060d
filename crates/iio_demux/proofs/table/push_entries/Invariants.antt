use Rattle.std.proofs.Common.{◌≡◌, ◌≢◌, ◌+◌, ◌*◌, ◌^◌, ◌<◌, ◌≤◌, length, vec_capacity, vec_len}
use Rattle.std.specs.Int.{IsPowerOfTwo}
use Rattle.iio_mask.specs.Mask.{channels_of}
use Rattle.iio_scan_type.specs.declared.TheConstants.{MAX_CHANNEL_SIZE}
use Rattle.iio_layout.specs.Layout.{end_below, largest_below}
use Rattle.iio_layout.specs.Shape.{count_of, formats_of}
use Rattle.iio_layout.proofs.ScanLemmas.{end_over, largest_over}
use Rattle.iio_demux.specs.Table.{channel_entries}
use Rattle.iio_demux.proofs.RestLemmas.{Made, entries_over, own}
use Rattle.iio_demux.proofs.table.push_entries.Given as goal

-- what is found, and the channels that are left after it, are the whole; a channel takes at most 32 bytes, with the padding before it
abbrev pub invariant-loop-c : goal.invariant-loop-c
invariant-loop-c l = record {
  fits : l.rest.bits < 2 ^ 64;
  below : l.rest.bits < 2 ^ count_of l.shape;
  active_few : l.active_end + 32 * length (channels_of l.rest.bits) ≤ 2048;
  buffer_few : l.buffer_end + 32 * length (channels_of l.rest.bits) ≤ 2048;
  buffer_end :
      end_over (formats_of l.shape) l.buffer_end (own l.buffer.bits (channels_of l.rest.bits))
      ≡ end_below (formats_of l.shape) l.buffer.bits (count_of l.shape);
  buffer_largest :
      largest_over (formats_of l.shape) l.buffer_largest (own l.buffer.bits (channels_of l.rest.bits))
      ≡ largest_below (formats_of l.shape) l.buffer.bits (count_of l.shape);
  buffer_most : l.buffer_largest ≤ MAX_CHANNEL_SIZE;
  buffer_power : l.buffer_largest ≢ 0 → IsPowerOfTwo l.buffer_largest;
  entries :
      Made l.entries.items (entries_over (formats_of l.shape) l.buffer.bits l.active_end l.buffer_end (channels_of l.rest.bits))
      (channel_entries l.shape l.fn.active.bits l.buffer.bits (count_of l.shape));
  few : vec_len l.entries + length (channels_of l.rest.bits) ≤ 64;
  capacity : vec_capacity l.entries ≡ vec_capacity l.fn.entries;
}

abbrev pub decreases-loop-c : goal.decreases-loop-c
decreases-loop-c l = l.rest.bits
