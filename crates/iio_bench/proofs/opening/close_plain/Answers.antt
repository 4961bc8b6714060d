use Rattle.std.proofs.Common.{◌∙◌, ◌<◌, length, refl, subst, sym}
use Rattle.std.proofs.lemmas.Option.{slice_get_read}
use Rattle.iio_device.specs.Plug.{driver_of}
use Rattle.iio_kinds.specs.Places.{trigger_of}
use Rattle.iio_kinds.specs.Station.{any_front, any_station, number_by}
use Rattle.iio_bench.proofs.ListLemmas.{element_at, map_same, numbered_after}
use Rattle.iio_bench.proofs.IioLemmas.{device_keeps}
use Rattle.iio_bench.proofs.OpenLemmas.{as_many, averaged_leaves, leaves_tell, own_along, plain_at, sound_leaves, told_leaves, told_none, within_states}
use Rattle.iio_bench.proofs.opening.close_plain.Goals as goal

pub index_mut-requires-in-Some : goal.index_mut-requires-in-Some
index_mut-requires-in-Some g c =
    let drive = driver_of (λ b. (g.dyn-1.0.entry b.vtable).1.driver b.value) in
    let at = element_at any_front _ _ _ c.requires.dev c.index.ensures in
    subst (λ n. c.in-Some.trigger < n) (sym c.args.bench.now.triggers.ok.0)
    (within_states drive _ _ c.args.bench.now.devices.items _ c.args.bench.now.sound c.args.bench.now.averaged c.args.dev c.in-Some.trigger c.index.result.now
    at
    (plain_at c.args.bench.now.context.items c.args.bench.now.described.items c.args.bench.now.devices.items c.args.dev c.index.result.now at c.requires.own)
    c.in-Some.ensures)

pub returns-in-None-clause-told : goal.returns-in-None-clause-told
returns-in-None-clause-told g c =
    told_none (driver_of (λ b. (g.dyn-1.0.entry b.vtable).1.driver b.value)) c.args.bench.now.context.items c.args.bench.now.described.items
    c.args.bench.now.devices.items c.args.bench.now.clock _ c.args.dev c.index.result.now (element_at any_front _ _ _ c.requires.dev c.index.ensures)
    (plain_at c.args.bench.now.context.items c.args.bench.now.described.items c.args.bench.now.devices.items c.args.dev c.index.result.now
    (element_at any_front _ _ _ c.requires.dev c.index.ensures) c.requires.own) c.args.number _ c.args.bench.now.averaged c.in-None.ensures

pub invariant_of-bench-in-Some : goal.invariant_of-bench-in-Some
invariant_of-bench-in-Some g c =
    let drive = driver_of (λ b. (g.dyn-1.0.entry b.vtable).1.driver b.value) in
    let at = element_at any_front _ _ _ c.requires.dev c.index_mut.ensures.value in
    let here = element_at any_front _ _ _ c.requires.dev c.index.ensures in
    let there =
    within_states drive _ _ c.args.bench.now.devices.items _ c.args.bench.now.sound c.args.bench.now.averaged c.args.dev c.in-Some.trigger c.index.result.now
    here
    (plain_at c.args.bench.now.context.items c.args.bench.now.described.items c.args.bench.now.devices.items c.args.dev c.index.result.now here c.requires.own)
    c.in-Some.ensures in
    record {
      sound =
          sound_leaves drive _ _ _ _ _ c.index_mut.result.now c.leave.new.self
          c.index_mut-in-Some.result.now c.leave.new.trigger c.args.bench.now.sound c.args.bench.now.numbered at
          (slice_get_read _ _ _ _ refl there c.index_mut-in-Some.ensures.value)
          (own_along drive c.args.bench.now.devices.items c.args.dev c.in-Some.trigger
          c.index.result.now c.index_mut.result.now (element_at any_front _ _ _ c.requires.dev c.index.ensures) at c.in-Some.ensures)
          there c.args.number c.leave.ensures.station
          c.leave.ensures.trigger;
      numbered = numbered_after _ _ _ _ _ c.args.bench.now.numbered at c.leave.ensures.keeps.head.number;
      averaged =
          averaged_leaves drive (length c.args.bench.now.described.items)
          c.args.bench.now.first_average c.args.bench.now.devices.items c.args.dev c.in-Some.trigger c.index_mut.result.now c.leave.new.self
          c.args.bench.now.averaged at
          (plain_at c.args.bench.now.context.items c.args.bench.now.described.items c.args.bench.now.devices.items c.args.dev c.index_mut.result.now at
          c.requires.own) c.leave.ensures.keeps.head
          (own_along drive c.args.bench.now.devices.items c.args.dev c.in-Some.trigger
          c.index.result.now c.index_mut.result.now (element_at any_front _ _ _ c.requires.dev c.index.ensures) at c.in-Some.ensures)
          (subst (λ n. c.in-Some.trigger < n) (as_many _ _ c.args.bench.now.sound.places) there) c.args.number c.leave.ensures.station;
    }

pub leave-requires : goal.leave-requires
leave-requires g c = record {
  own =
      plain_at c.args.bench.now.context.items c.args.bench.now.described.items c.args.bench.now.devices.items c.args.dev c.index_mut.result.now
      (element_at any_front _ _ _ c.requires.dev c.index_mut.ensures.value) c.requires.own;
}

pub returns-in-Some-clause-kept : goal.returns-in-Some-clause-kept
returns-in-Some-clause-kept g c =
    device_keeps _ _ _ _ _ _ (element_at any_front _ _ _ c.requires.dev c.index_mut.ensures.value) c.leave.ensures.keeps

pub returns-in-Some-clause-told : goal.returns-in-Some-clause-told
returns-in-Some-clause-told g c =
    let drive = driver_of (λ b. (g.dyn-1.0.entry b.vtable).1.driver b.value) in
    let here = element_at any_front _ _ _ c.requires.dev c.index.ensures in
    let there =
    within_states drive _ _ c.args.bench.now.devices.items _ c.args.bench.now.sound c.args.bench.now.averaged c.args.dev c.in-Some.trigger c.index.result.now
    here
    (plain_at c.args.bench.now.context.items c.args.bench.now.described.items c.args.bench.now.devices.items c.args.dev c.index.result.now here c.requires.own)
    c.in-Some.ensures in
    rw (map_same trigger_of c.args.bench.now.triggers.items c.in-Some.trigger c.index_mut-in-Some.result.now c.leave.new.trigger
    (slice_get_read _ _ _ _ refl there c.index_mut-in-Some.ensures.value)
    (leaves_tell (number_by c.index_mut.result.now) (any_station drive c.index_mut.result.now) (any_station drive c.leave.new.self)
    c.index_mut-in-Some.result.now c.leave.new.trigger c.leave.ensures.trigger))
    (told_leaves drive c.args.bench.now.context.items c.args.bench.now.described.items
    c.args.bench.now.devices.items c.args.bench.now.clock _ c.args.dev c.index_mut.result.now
    (element_at any_front _ _ _ c.requires.dev c.index_mut.ensures.value)
    (plain_at c.args.bench.now.context.items c.args.bench.now.described.items c.args.bench.now.devices.items c.args.dev c.index_mut.result.now
    (element_at any_front _ _ _ c.requires.dev c.index_mut.ensures.value) c.requires.own) c.args.number c.leave.new.self c.leave.ensures.station)
