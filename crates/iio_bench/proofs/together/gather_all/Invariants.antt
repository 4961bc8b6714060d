use Rattle.std.proofs.Common.{◌≡◌, length}
use Rattle.iio_device.specs.Plug.{driver_of}
use Rattle.iio_bench.specs.Together.{IsGathered}
use Rattle.iio_bench.proofs.TogetherLemmas.{Partly}
use Rattle.iio_bench.proofs.together.gather_all.Given as goal

abbrev pub invariant-loop-i : goal.invariant-loop-i
invariant-loop-i g l = record {
  partly : Partly (λ k d d'. IsGathered (driver_of (λ b. (g.dyn-1.0.entry b.vtable).1.driver b.value)) l.base l.scan d d') l.i l.fn.devices l.devices;
  all : l.i-end ≡ length l.fn.devices;
}
