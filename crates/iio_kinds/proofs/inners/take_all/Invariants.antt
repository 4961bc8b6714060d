use Rattle.std.proofs.Common.{◌≡◌, ℕ, List, false, length, take}
use Rattle.iio_device.specs.Plug.{driver_of}
use Rattle.iio_device.specs.Site.{is_empty}
use Rattle.iio_device.specs.Device.{view_of}
use Rattle.iio_kinds.specs.Acting.{KeepsCaptures}
use Rattle.iio_kinds.specs.Station.{station_by}
use Rattle.iio_kinds.specs.Taking.{AreWaiting, all_taken}
use Rattle.iio_kinds.proofs.inners.take_all.Given as goal

abbrev pub invariant-loop-inner : goal.invariant-loop-inner
invariant-loop-inner g l = let drive = driver_of (λ b. (g.dyn-1.0.entry b.vtable).1.driver b.value) in record {
  station : station_by drive l.device ≡ all_taken (take l.inner-index l.inners) (station_by drive l.fn.device);
  keeps : KeepsCaptures (view_of drive l.fn.device) (view_of drive l.device);
  taken : (scan : List ℕ) → AreWaiting l.inners (station_by drive l.fn.device).members scan → is_empty (take l.inner-index l.inners) ≡ false → l.room ≡ scan;
  same : length l.room ≡ length l.fn.room;
}
