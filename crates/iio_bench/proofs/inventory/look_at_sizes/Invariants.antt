use Rattle.std.proofs.Common.{ℕ, ◌<◌, ◌≤◌, All, map, slice_index_or}
use Rattle.iio_scan_type.specs.Format.{size_of}
use Rattle.iio_layout.specs.declared.channel.Channel.{Channel}
use Rattle.iio_desc.specs.Description.{DeviceHead}
use Rattle.iio_kinds.specs.Station.{any_front}
use Rattle.iio_bench.proofs.inventory.look_at_sizes.Given as goal

abbrev pub invariant-loop-device : goal.invariant-loop-device
invariant-loop-device g l =
    (k : ℕ) (d : DeviceHead) → k < l.device-index
    → All (λ (channel : Channel). 1 ≤ size_of channel.ty) (slice_index_or (map any_front l.fn.devices) k d).shape.channels
