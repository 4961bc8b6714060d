use Rattle.std.proofs.Common.{◌<◌, length, refl, sym, ap, ◌∙◌, arith}
use Rattle.std.proofs.lemmas.Option.{slice_get_read}
use Rattle.iio_desc.specs.Kind.{is_unplugged_by}
use Rattle.iio_device.specs.Plug.{driver_of}
use Rattle.iio_kinds.specs.Station.{any_front}
use Rattle.iio_bench.specs.Together.{IsUnplugged}
use Rattle.iio_bench.proofs.ListLemmas.{same_element}
use Rattle.iio_bench.proofs.SplitLemmas.{goes_too, stays_here}
use Rattle.iio_bench.proofs.TogetherLemmas.{partly_all, partly_next, partly_stays}
use Rattle.iio_bench.proofs.together.unplug_all.Goals as goal
use Rattle.iio_bench.proofs.together.unplug_all.Goals.{then-goes_with, else-goes_with}

pub loop-i-preserved : goal.loop-i-preserved
loop-i-preserved g c =
    let drive = driver_of (λ b. (g.dyn-1.0.entry b.vtable).1.driver b.value) in
    let within : c.loop-i.i < length c.loop-i.devices.items = omega (arith, c.loop-i-test.true, c.loop-i.invariant.all, c.loop-i.invariant.partly.same) in
    let at = slice_get_read c.loop-i.devices.items (length c.loop-i.devices.items) c.loop-i.i c.index.result.now refl within c.index.ensures in
    record {
      partly = elim c.if-goes_with.branch [
        | then-goes_with w ↦
            let there =
            slice_get_read c.loop-i.devices.items (length c.loop-i.devices.items) c.loop-i.i w.index_mut.result.now refl within w.index_mut.ensures.value in
            let one = same_element c.loop-i.devices.items c.loop-i.i c.index.result.now w.index_mut.result.now at there in
            rw w.devices-is (partly_next (IsUnplugged drive c.args.dev) c.loop-i.i c.args.devices.now.items c.loop-i.devices.items w.index_mut.result.now
            w.unplug.new.self there
            (goes_too drive c.args.dev c.loop-i.i w.index_mut.result.now w.unplug.new.self
            (sym (ap (λ d. is_unplugged_by (any_front d).kind c.args.dev c.loop-i.i) one) ∙ sym c.goes_with.ensures ∙ w.if-goes_with.true)
            w.unplug.ensures.station w.unplug.ensures.keeps) c.loop-i.invariant.partly)
        | else-goes_with w ↦
            rw w.devices-is (partly_stays (IsUnplugged drive c.args.dev) c.loop-i.i c.args.devices.now.items c.loop-i.devices.items c.index.result.now at
            (stays_here drive c.args.dev c.loop-i.i c.index.result.now (sym c.goes_with.ensures ∙ w.if-goes_with.false)) c.loop-i.invariant.partly)
      ];
      all = c.loop-i.invariant.all;
    }

pub returns : goal.returns
returns g c =
    partly_all (IsUnplugged (driver_of (λ b. (g.dyn-1.0.entry b.vtable).1.driver b.value)) c.args.dev) c.loop-i.i c.args.devices.now.items
    c.loop-i.devices.items (omega (arith, c.loop-i-test.false, c.loop-i.invariant.all)) c.loop-i.invariant.partly
