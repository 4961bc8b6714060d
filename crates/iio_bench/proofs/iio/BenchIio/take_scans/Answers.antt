use Rattle.std.proofs.Common.{◌∙◌, refl, sym, ap}
use Rattle.iio_device.specs.Plug.{driver_of}
use Rattle.iio_desc.specs.Kind.{is_output}
use Rattle.iio_kinds.specs.Acting.{id_of}
use Rattle.iio_bench.specs.Seat.{seen_of}
use Rattle.iio_kinds.specs.Station.{any_front, any_station}
use Rattle.iio_bench.proofs.ListLemmas.{element_at, numbered_after}
use Rattle.iio_bench.proofs.IioLemmas.{averaged_kept, device_keeps, sound_kept, take_scans_kept}
use Rattle.iio_bench.proofs.ToldLemmas.{kind_is, size_is, told_take_scans}
use Rattle.iio_bench.proofs.iio.BenchIio.take_scans.Goals as goal

pub take_scans-requires-clause-room : goal.take_scans-requires-clause-room
take_scans-requires-clause-room g c =
    let size =
    c.requires.owned.sized ∙ size_is any_front c.args.self.now.context.items c.args.self.now.described.items c.args.self.now.devices.items c.args.dev
    c.index_mut.result.now (element_at any_front _ _ _ c.requires.dev c.index_mut.ensures.value) c.args.seat.now.mask.bits in
    rw (sym size) c.requires.room

pub invariant_of-self : goal.invariant_of-self
invariant_of-self g c =
    let at = (element_at any_front _ _ _ c.requires.dev c.index_mut.ensures.value) in
    let drive = (driver_of (λ b. (g.dyn-1.0.entry b.vtable).1.driver b.value)) in
    let kept =
    take_scans_kept drive c.index_mut.result.now c.take_scans.new.self (id_of c.args.seat.now.number c.args.seat.now.mask) c.args.most c.take_scans.result
    c.args.out.now.items c.take_scans.new.out.items c.take_scans.ensures.takes in
    record {
      sound = sound_kept drive _ _ c.index_mut.result.now c.take_scans.new.self at _ _ c.args.self.now.sound kept;
      numbered = numbered_after _ _ _ _ _ c.args.self.now.numbered at c.take_scans.ensures.keeps.head.number;
      averaged = averaged_kept drive _ _ c.index_mut.result.now c.take_scans.new.self at _ _ c.args.self.now.averaged c.take_scans.ensures.keeps.head kept;
    }

pub returns-clause-kept : goal.returns-clause-kept
returns-clause-kept g c = device_keeps _ _ _ _ _ _ (element_at any_front _ _ _ c.requires.dev c.index_mut.ensures.value) c.take_scans.ensures.keeps

pub returns-clause-takes : goal.returns-clause-takes
returns-clause-takes g c =
    told_take_scans (any_station (driver_of (λ b. (g.dyn-1.0.entry b.vtable).1.driver b.value))) c.args.self.now.clock _ c.args.self.now.devices.items
    c.args.dev c.index_mut.result.now c.take_scans.new.self (element_at any_front _ _ _ c.requires.dev c.index_mut.ensures.value) (seen_of c.args.seat.now)
    c.args.most c.take_scans.result c.args.out.now.items c.take_scans.new.out.items refl c.take_scans.ensures.takes

pub returns-clause-most : goal.returns-clause-most
returns-clause-most g c =
    let size =
    c.requires.owned.sized ∙ size_is any_front c.args.self.now.context.items c.args.self.now.described.items c.args.self.now.devices.items c.args.dev
    c.index_mut.result.now (element_at any_front _ _ _ c.requires.dev c.index_mut.ensures.value) c.args.seat.now.mask.bits in
    rw size c.take_scans.ensures.most

pub take_scans-requires-clause-read : goal.take_scans-requires-clause-read
take_scans-requires-clause-read g c =
    ap is_output (sym (kind_is any_front c.args.self.now.context.items c.args.self.now.described.items c.args.self.now.devices.items c.args.dev
    c.index_mut.result.now (element_at any_front _ _ _ c.requires.dev c.index_mut.ensures.value)))
    ∙ c.requires.read
