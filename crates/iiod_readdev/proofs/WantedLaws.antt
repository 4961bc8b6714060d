-- Masks with a data channel, and what is wanted under one.
use Rattle.std.proofs.Common.{◌≡◌, ◌<◌, ◌≤◌, ◌^◌, true, length}
use Rattle.iio_layout.specs.Active.{has_data}
use Rattle.iio_layout.specs.Laws.{some_below}
use Rattle.iio_layout.specs.Shape.{count_of}
use Rattle.iiod_client.specs.Ask.{IsAsk, Wanted}

-- what is wanted under a mask with a data channel may be asked for
pub is_ask : (w : Wanted) → w.mask < 2 ^ count_of w.shape → has_data w.shape w.mask ≡ true → 1 ≤ w.samples → 1 ≤ w.scans → IsAsk w
is_ask w below some samples scans =
    let s = some_below w.mask (length w.shape.channels) some in
    record { below = below; channel = s.0; is_channel = s.1; selected = s.2; samples = samples; scans = scans }
