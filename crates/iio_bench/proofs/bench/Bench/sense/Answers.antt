use Rattle.std.proofs.Common.{◌∙◌, ap, sym, w64}
use Rattle.std.proofs.lemmas.Int.{to_z-of_z}
use Rattle.iio_layout.specs.Shape.{ShapeRecord}
use Rattle.iio_desc.specs.Kind.{Kind}
use Rattle.iio_core.specs.Front.{kind_at, shape_at}
use Rattle.iio_core.specs.Machine.{Station, with_station}
use Rattle.iio_device.specs.Plug.{driver_of}
use Rattle.iio_core.specs.Moves.{kind_sensed, station_after_look}
use Rattle.iio_bench.specs.Bench.{machine_of, triggers_of}
use Rattle.iio_kinds.specs.Station.{any_front, any_station, captures_by}
use Rattle.iio_bench.proofs.ListLemmas.{element_at, map_same, numbered_after}
use Rattle.iio_bench.proofs.IioLemmas.{averaged_kept, fronts_keep, sound_kept}
use Rattle.iio_bench.proofs.FiringLemmas.{sense_stands}
use Rattle.iio_bench.proofs.ToldLemmas.{fronts_by, kind_is, shape_is, station_is, told_changed}
use Rattle.iio_bench.proofs.bench.Bench.sense.Goals as goal

pub invariant_of-self : goal.invariant_of-self
invariant_of-self g c =
    let drive = (driver_of (λ b. (g.dyn-1.0.entry b.vtable).1.driver b.value)) in
    let at = element_at any_front _ _ _ c.requires c.index_mut.ensures.value in
    let kept =
    sense_stands (any_front c.index_mut.result.now).shape c.args.t (any_station drive c.index_mut.result.now) (any_station drive c.sense.new.self)
    (rw (to_z-of_z w64 c.args.t c.ranges.t) at c.sense.ensures.station) in
    record {
      sound = sound_kept drive _ _ c.index_mut.result.now c.sense.new.self at _ _ c.args.self.now.sound kept;
      numbered = numbered_after _ _ _ _ _ c.args.self.now.numbered at c.sense.ensures.keeps.head.number;
      averaged = averaged_kept drive _ _ c.index_mut.result.now c.sense.new.self at _ _ c.args.self.now.averaged c.sense.ensures.keeps.head kept;
    }

pub returns-clause-front : goal.returns-clause-front
returns-clause-front g c = fronts_keep _ _ _ _ _ _ (element_at any_front _ _ _ c.requires c.index_mut.ensures.value) c.sense.ensures.keeps.head

pub returns-clause-told : goal.returns-clause-told
returns-clause-told g c =
    let drive = (driver_of (λ b. (g.dyn-1.0.entry b.vtable).1.driver b.value)) in
    let at = element_at any_front _ _ _ c.requires c.index_mut.ensures.value in
    let shape =
    shape_is any_front c.args.self.now.context.items c.args.self.now.described.items c.args.self.now.devices.items c.args.dev c.index_mut.result.now at in
    told_changed (any_station drive) c.args.self.now.clock _ c.args.self.now.devices.items c.args.dev c.index_mut.result.now c.sense.new.self at
    (station_after_look (any_front c.index_mut.result.now).shape c.args.t)
    (rw (to_z-of_z w64 c.args.t c.ranges.t) at c.sense.ensures.station)
    ∙ ap (λ (s : ShapeRecord). with_station (station_after_look s c.args.t) c.args.dev
    (machine_of drive c.args.self.now)) (sym shape)

pub returns-clause-answer : goal.returns-clause-answer
returns-clause-answer g c =
    let drive = (driver_of (λ b. (g.dyn-1.0.entry b.vtable).1.driver b.value)) in
    let at = element_at any_front _ _ _ c.requires c.index_mut.ensures.value in
    let shape =
    shape_is any_front c.args.self.now.context.items c.args.self.now.described.items c.args.self.now.devices.items c.args.dev c.index_mut.result.now at in
    let kind =
    kind_is any_front c.args.self.now.context.items c.args.self.now.described.items c.args.self.now.devices.items c.args.dev c.index_mut.result.now at in
    let here =
    station_is (any_station drive) c.args.self.now.clock (triggers_of c.args.self.now) c.args.self.now.devices.items c.args.dev
    c.index_mut.result.now at in
    (rw (to_z-of_z w64 c.args.t c.ranges.t) at c.sense.ensures.answer)
    ∙ ap (λ (k : Kind). kind_sensed k (any_front c.index_mut.result.now).shape c.args.t (any_station drive c.index_mut.result.now)) (sym kind)
    ∙ ap (λ (s : ShapeRecord). kind_sensed
    (kind_at (fronts_by any_front c.args.self.now.context.items c.args.self.now.described.items c.args.self.now.devices.items) c.args.dev) s c.args.t
    (any_station drive c.index_mut.result.now)) (sym shape)
    ∙ ap (λ (st : Station). kind_sensed
    (kind_at (fronts_by any_front c.args.self.now.context.items c.args.self.now.described.items c.args.self.now.devices.items) c.args.dev)
    (shape_at (fronts_by any_front c.args.self.now.context.items c.args.self.now.described.items c.args.self.now.devices.items) c.args.dev) c.args.t st)
    (sym here)

pub returns-clause-captures : goal.returns-clause-captures
returns-clause-captures g c =
    map_same captures_by c.args.self.now.devices.items c.args.dev c.index_mut.result.now c.sense.new.self
    (element_at any_front _ _ _ c.requires c.index_mut.ensures.value) c.sense.ensures.keeps.captures
