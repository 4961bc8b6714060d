use Rattle.std.proofs.Common.{ap, length, sym, ◌∙◌}
use Rattle.iio_desc.specs.Kind.{is_average}
use Rattle.iio_device.specs.Plug.{driver_of}
use Rattle.iio_kinds.specs.Station.{any_front}
use Rattle.iio_bench.proofs.ListLemmas.{element_at, numbered_after}
use Rattle.iio_bench.proofs.IioLemmas.{device_keeps, sound_placed, trigger_kept}
use Rattle.iio_bench.proofs.OpenLemmas.{averaged_set}
use Rattle.iio_bench.proofs.ToldLemmas.{kind_is, told_trigger}
use Rattle.iio_bench.proofs.iio.BenchIio.set_trigger.Goals as goal

pub invariant_of-self : goal.invariant_of-self
invariant_of-self g c =
    let at = element_at any_front _ _ _ c.requires.dev c.index_mut.ensures.value in
    let drive = (driver_of (λ b. (g.dyn-1.0.entry b.vtable).1.driver b.value)) in
    let plain =
    ap is_average (sym (kind_is any_front c.args.self.now.context.items c.args.self.now.described.items c.args.self.now.devices.items c.args.dev
    c.index_mut.result.now at))
    ∙ c.requires.own in
    let kept = trigger_kept drive c.index_mut.result.now c.set_trigger.new.self (length c.args.self.now.described.items) _ _ c.requires.trigger
    c.set_trigger.ensures.acts in
    record {
      sound = sound_placed drive _ _ c.index_mut.result.now c.set_trigger.new.self at _ _ c.args.self.now.sound kept.place;
      numbered = numbered_after _ _ _ _ _ c.args.self.now.numbered at c.set_trigger.ensures.keeps.head.number;
      averaged =
          averaged_set drive _ _ _ _ c.index_mut.result.now c.set_trigger.new.self c.args.self.now.averaged at plain c.set_trigger.ensures.keeps.head kept;
    }

pub returns-clause-kept : goal.returns-clause-kept
returns-clause-kept g c =
    let at = element_at any_front _ _ _ c.requires.dev c.index_mut.ensures.value in
    device_keeps _ _ _ _ _ _ at c.set_trigger.ensures.keeps

pub returns-clause-told : goal.returns-clause-told
returns-clause-told g c =
    let at = element_at any_front _ _ _ c.requires.dev c.index_mut.ensures.value in
    told_trigger _ _ _ _ _ _ _ at _ _ c.set_trigger.ensures.acts

pub set_trigger-requires-clause-own : goal.set_trigger-requires-clause-own
set_trigger-requires-clause-own g c =
    ap is_average (sym (kind_is any_front c.args.self.now.context.items c.args.self.now.described.items c.args.self.now.devices.items c.args.dev
    c.index_mut.result.now (element_at any_front _ _ _ c.requires.dev c.index_mut.ensures.value)))
    ∙ c.requires.own
