use Rattle.std.proofs.Common.{ap, sym, ◌∙◌}
use Rattle.iio_desc.specs.Kind.{is_input}
use Rattle.iio_kinds.specs.Station.{any_front}
use Rattle.iio_device.specs.Plug.{driver_of}
use Rattle.iio_bench.proofs.ListLemmas.{element_at, numbered_after}
use Rattle.iio_bench.proofs.IioLemmas.{averaged_kept, device_keeps, ev_open_kept, sound_kept}
use Rattle.iio_bench.proofs.ToldLemmas.{kind_is, told_ev_open}
use Rattle.iio_bench.proofs.iio.BenchIio.ev_open.Goals as goal

pub invariant_of-self : goal.invariant_of-self
invariant_of-self g c =
    let at = element_at any_front _ _ _ c.requires.dev c.index_mut.ensures.value in
    let drive = (driver_of (λ b. (g.dyn-1.0.entry b.vtable).1.driver b.value)) in
    let kept = ev_open_kept drive c.index_mut.result.now c.ev_open.new.self _ _ c.ev_open.ensures.acts in
    record {
      sound = sound_kept drive _ _ c.index_mut.result.now c.ev_open.new.self at _ _ c.args.self.now.sound kept;
      numbered = numbered_after _ _ _ _ _ c.args.self.now.numbered at c.ev_open.ensures.keeps.head.number;
      averaged = averaged_kept drive _ _ c.index_mut.result.now c.ev_open.new.self at _ _ c.args.self.now.averaged c.ev_open.ensures.keeps.head kept;
    }

pub returns-clause-kept : goal.returns-clause-kept
returns-clause-kept g c =
    let at = element_at any_front _ _ _ c.requires.dev c.index_mut.ensures.value in
    device_keeps _ _ _ _ _ _ at c.ev_open.ensures.keeps

pub returns-clause-told : goal.returns-clause-told
returns-clause-told g c =
    let at = element_at any_front _ _ _ c.requires.dev c.index_mut.ensures.value in
    told_ev_open _ _ _ _ _ _ _ at _ _ c.ev_open.ensures.acts

pub ev_open-requires : goal.ev_open-requires
ev_open-requires g c =
    ap is_input (sym (kind_is any_front c.args.self.now.context.items c.args.self.now.described.items c.args.self.now.devices.items c.args.dev
    c.index_mut.result.now (element_at any_front _ _ _ c.requires.dev c.index_mut.ensures.value)))
    ∙ c.requires.input
