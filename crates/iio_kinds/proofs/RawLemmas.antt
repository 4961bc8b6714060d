-- A sample that a device refuses, as the plain state answers it.
use Rattle.std.proofs.Common.{◌≡◌, ℕ, Some, Err, rules}
use Rattle.std.specs.Prelude.{ℤ}
use Rattle.iio_attr.specs.declared.attributes.Attr.TheVariants.{Raw}
use Rattle.iio_kfifo.specs.Queue.{Queue}
use Rattle.iio_device.specs.declared.handling.RawFault.{RawFault}
use Rattle.iio_device.specs.declared.handling.RawFault.TheVariants as raw
use Rattle.iio_device.specs.Device.{DeviceView, after_raw, raw_answer}
use Rattle.iiod_commands.specs.declared.iio.No.{No}
use Rattle.iiod_commands.specs.No.{raw_no}
use Rattle.iio_kinds.specs.Acting.{ReadsInput}
use Rattle.iio_kinds.specs.Station.{station_of}

pub raw_refused : (t u : ℤ) (c : ℕ) (d d' : DeviceView Queue) (f : RawFault) (refusal : No) → u ≡ t → Err f ≡ raw_answer c u d → refusal ≡ raw_no f
    → d' ≡ after_raw d → ReadsInput t (Some c) Raw d (Err refusal) (station_of d')
raw_refused t u c d d' f refusal same is said after = search rules
