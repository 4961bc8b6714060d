use Rattle.std.proofs.Common.{◌≡◌, length}
use Rattle.iio_device.specs.Plug.{driver_of}
use Rattle.iio_bench.specs.Together.{IsUnplugged}
use Rattle.iio_bench.proofs.TogetherLemmas.{Partly}
use Rattle.iio_bench.proofs.together.unplug_all.Given as goal

abbrev pub invariant-loop-i : goal.invariant-loop-i
invariant-loop-i g l = record {
  partly : Partly (IsUnplugged (driver_of (λ b. (g.dyn-1.0.entry b.vtable).1.driver b.value)) l.dev) l.i l.fn.devices.items l.devices.items;
  all : l.i-end ≡ length l.fn.devices.items;
}
