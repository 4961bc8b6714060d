use Rattle.iio_device.specs.Plug.{driver_of}
use Rattle.std.proofs.Common.{rules, ◌≡◌, ◌∙◌, of_z, to_z, w64}
use Rattle.iio_bench.proofs.ListLemmas.{element_at, numbered_after}
use Rattle.iio_bench.proofs.IioLemmas.{averaged_kept, device_keeps, may_read, read_kept, sound_kept}
use Rattle.iio_kinds.specs.Station.{any_front, any_station}
use Rattle.iio_bench.proofs.ToldLemmas.{kind_is, shape_is, told_read}
use Rattle.iio_bench.proofs.iio.BenchIio.read_attr.Goals as goal

pub invariant_of-self : goal.invariant_of-self
invariant_of-self g c =
    let at = element_at any_front _ _ _ c.requires.dev c.index_mut.ensures.value in
    let drive = (driver_of (λ b. (g.dyn-1.0.entry b.vtable).1.driver b.value)) in
    let kept = read_kept drive c.index_mut.result.now c.read_attr.new.self _ _ _ _ c.read_attr.ensures.reads in
    record {
      sound = sound_kept drive _ _ c.index_mut.result.now c.read_attr.new.self at _ _ c.args.self.now.sound kept;
      numbered = numbered_after _ _ _ _ _ c.args.self.now.numbered at c.read_attr.ensures.keeps.head.number;
      averaged = averaged_kept drive _ _ c.index_mut.result.now c.read_attr.new.self at _ _ c.args.self.now.averaged c.read_attr.ensures.keeps.head kept;
    }

pub returns-clause-kept : goal.returns-clause-kept
returns-clause-kept g c =
    let at = element_at any_front _ _ _ c.requires.dev c.index_mut.ensures.value in
    device_keeps _ _ _ _ _ _ at c.read_attr.ensures.keeps

pub returns-clause-told : goal.returns-clause-told
returns-clause-told g c =
    let whole : to_z w64 (of_z w64 c.clock-t.result) ≡ c.clock-t.result = search rules in
    let at = element_at any_front _ _ _ c.requires.dev c.index_mut.ensures.value in
    told_read any_front _ _ _ _ _ at (any_station (driver_of (λ b. (g.dyn-1.0.entry b.vtable).1.driver b.value))) c.args.self.now.clock _ c.read_attr.new.self
    c.args.channel c.args.attr (to_z w64 (of_z w64 c.clock-t.result)) _ (whole ∙ c.clock-t.ensures) c.read_attr.ensures.reads

pub read_attr-requires : goal.read_attr-requires
read_attr-requires g c =
    let at = element_at any_front _ _ _ c.requires.dev c.index_mut.ensures.value in
    may_read _ c.args.dev c.args.channel c.args.attr (any_front c.index_mut.result.now)
    (kind_is any_front c.args.self.now.context.items c.args.self.now.described.items _ _ _ at)
    (shape_is any_front c.args.self.now.context.items c.args.self.now.described.items _ _ _ at) c.requires.may_read
