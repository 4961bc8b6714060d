use Rattle.std.proofs.Common.{length, refl, sym, subst, ◌∙◌, arith}
use Rattle.std.proofs.lemmas.Option.{slice_get_read}
use Rattle.iio_device.specs.Plug.{driver_of}
use Rattle.iio_bench.specs.Together.{IsGathered, IsReady}
use Rattle.iio_bench.proofs.TogetherLemmas.{all_at, partly_all, partly_next}
use Rattle.iio_bench.proofs.together.gather_all.Goals as goal

pub gather_one-requires : goal.gather_one-requires
gather_one-requires g c =
    let at =
    slice_get_read c.loop-i.devices (length c.args.devices.now) c.loop-i.i c.index-devices-i.result (sym c.loop-i.auto.devices) c.loop-i-test.true
    c.index-devices-i.is in
    subst (IsReady (driver_of (λ b. (g.dyn-1.0.entry b.vtable).1.driver b.value)) c.args.base c.args.scan.now) c.index-devices-i.is
    (all_at (IsReady (driver_of (λ b. (g.dyn-1.0.entry b.vtable).1.driver b.value)) c.args.base c.args.scan.now) c.args.devices.now c.loop-i.i
    c.index-devices-i.result c.requires
    (sym (c.loop-i.invariant.partly.rest c.loop-i.i (omega arith)) ∙ at))

pub loop-i-preserved : goal.loop-i-preserved
loop-i-preserved g c =
    let at =
    slice_get_read c.loop-i.devices (length c.args.devices.now) c.loop-i.i c.index-devices-i.result (sym c.loop-i.auto.devices) c.loop-i-test.true
    c.index-devices-i.is in
    record {
      partly =
          partly_next (λ k d d'. IsGathered (driver_of (λ b. (g.dyn-1.0.entry b.vtable).1.driver b.value)) c.args.base c.args.scan.now d d') c.loop-i.i
          c.args.devices.now c.loop-i.devices c.index-devices-i.result
          c.gather_one.new.device at
          (subst (λ d. IsGathered (driver_of (λ b. (g.dyn-1.0.entry b.vtable).1.driver b.value)) c.args.base c.args.scan.now d c.gather_one.new.device)
          (sym c.index-devices-i.is) c.gather_one.ensures)
          c.loop-i.invariant.partly;
      all = refl;
    }

pub returns : goal.returns
returns g c =
    partly_all (λ k d d'. IsGathered (driver_of (λ b. (g.dyn-1.0.entry b.vtable).1.driver b.value)) c.args.base c.args.scan.now d d') c.loop-i.i
    c.args.devices.now c.loop-i.devices (omega (arith, c.loop-i-test.false))
    c.loop-i.invariant.partly
