use Rattle.std.proofs.Common.{◌∙◌, ap, sym}
use Rattle.iio_desc.specs.Kind.{is_output}
use Rattle.iio_device.specs.Plug.{driver_of}
use Rattle.iio_kinds.specs.Acting.{id_of}
use Rattle.iio_kinds.specs.Station.{any_front, any_station}
use Rattle.iio_bench.proofs.ListLemmas.{element_at, numbered_after}
use Rattle.iio_bench.proofs.IioLemmas.{averaged_kept, device_keeps, sound_kept, writes_kept}
use Rattle.iio_bench.proofs.ToldLemmas.{kind_is, told_written}
use Rattle.iio_bench.proofs.iio.BenchIio.write_scans.Goals as goal

pub write-requires : goal.write-requires
write-requires g c =
    ap is_output (sym (kind_is any_front c.args.self.now.context.items c.args.self.now.described.items c.args.self.now.devices.items c.args.dev
    c.index_mut.result.now (element_at any_front _ _ _ c.requires.dev c.index_mut.ensures.value)))
    ∙ c.requires.written

pub invariant_of-self : goal.invariant_of-self
invariant_of-self g c =
    let at = element_at any_front _ _ _ c.requires.dev c.index_mut.ensures.value in
    let drive = (driver_of (λ b. (g.dyn-1.0.entry b.vtable).1.driver b.value)) in
    let kept =
    writes_kept drive c.index_mut.result.now c.write.new.self _ (id_of c.args.seat.now.number c.args.seat.now.mask) c.args.bytes.now c.write.result
    c.write.ensures.acts in
    record {
      sound = sound_kept drive _ _ c.index_mut.result.now c.write.new.self at _ _ c.args.self.now.sound kept;
      numbered = numbered_after _ _ _ _ _ c.args.self.now.numbered at c.write.ensures.keeps.head.number;
      averaged = averaged_kept drive _ _ c.index_mut.result.now c.write.new.self at _ _ c.args.self.now.averaged c.write.ensures.keeps.head kept;
    }

pub returns-clause-kept : goal.returns-clause-kept
returns-clause-kept g c = device_keeps _ _ _ _ _ _ (element_at any_front _ _ _ c.requires.dev c.index_mut.ensures.value) c.write.ensures.keeps

pub returns-clause-told : goal.returns-clause-told
returns-clause-told g c =
    let at = element_at any_front _ _ _ c.requires.dev c.index_mut.ensures.value in
    told_written any_front c.args.self.now.context.items c.args.self.now.described.items c.args.self.now.devices.items c.args.dev c.index_mut.result.now at
    (any_station (driver_of (λ b. (g.dyn-1.0.entry b.vtable).1.driver b.value))) c.args.self.now.clock _ c.write.new.self
    (id_of c.args.seat.now.number c.args.seat.now.mask) c.args.bytes.now c.write.result c.write.ensures.acts
