use Rattle.iio_device.specs.Plug.{driver_of}
use Rattle.iio_bench.proofs.ListLemmas.{element_at, numbered_after}
use Rattle.iio_bench.proofs.IioLemmas.{averaged_kept, device_keeps, is_written, sound_kept, write_kept}
use Rattle.iio_kinds.specs.Station.{any_front}
use Rattle.iio_bench.proofs.ToldLemmas.{kind_is, shape_is, told_write}
use Rattle.iio_bench.proofs.iio.BenchIio.write_attr.Goals as goal

pub invariant_of-self : goal.invariant_of-self
invariant_of-self g c =
    let at = element_at any_front _ _ _ c.requires.dev c.index_mut.ensures.value in
    let drive = (driver_of (λ b. (g.dyn-1.0.entry b.vtable).1.driver b.value)) in
    let kept = write_kept drive c.index_mut.result.now c.write_attr.new.self _ _ _ _ c.write_attr.ensures.acts in
    record {
      sound = sound_kept drive _ _ c.index_mut.result.now c.write_attr.new.self at _ _ c.args.self.now.sound kept;
      numbered = numbered_after _ _ _ _ _ c.args.self.now.numbered at c.write_attr.ensures.keeps.head.number;
      averaged = averaged_kept drive _ _ c.index_mut.result.now c.write_attr.new.self at _ _ c.args.self.now.averaged c.write_attr.ensures.keeps.head kept;
    }

pub returns-clause-kept : goal.returns-clause-kept
returns-clause-kept g c =
    let at = element_at any_front _ _ _ c.requires.dev c.index_mut.ensures.value in
    device_keeps _ _ _ _ _ _ at c.write_attr.ensures.keeps

pub returns-clause-told : goal.returns-clause-told
returns-clause-told g c =
    let at = element_at any_front _ _ _ c.requires.dev c.index_mut.ensures.value in
    told_write _ _ _ _ _ _ _ at _ _ _ _ c.write_attr.ensures.acts

pub write_attr-requires : goal.write_attr-requires
write_attr-requires g c =
    let at = element_at any_front _ _ _ c.requires.dev c.index_mut.ensures.value in
    let kind = kind_is any_front c.args.self.now.context.items c.args.self.now.described.items _ _ _ at in
    let w =
    is_written _ c.args.dev c.args.channel c.args.attr c.args.value (any_front c.index_mut.result.now) kind
    (shape_is any_front c.args.self.now.context.items c.args.self.now.described.items _ _ _ at) c.requires.may_write in
    record { input = w.0; channel = w.1 }
