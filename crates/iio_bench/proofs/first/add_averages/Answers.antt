use Rattle.std.proofs.Common.{◌≡◌, ◌<◌, Some, ap, arith, length, map, refl, sym, ◌∙◌}
use Rattle.iio_desc.specs.Description.{AverageRecord, shape_of_means}
use Rattle.iio_desc.specs.WellFormed.{IsWellFormedAverage}
use Rattle.iio_device.specs.Plug.{driver_of}
use Rattle.iio_layout.specs.Shape.{ShapeRecord}
use Rattle.iio_kinds.specs.declared.any_device.AnyDevice.TheVariants as any
use Rattle.iio_bench.specs.First.{mean_head_over, mean_station_over, means_over}
use Rattle.iio_kinds.specs.MeanStation.{means_head, new_mean_station}
use Rattle.iio_kinds.specs.Station.{any_front, any_station, captures_by, number_by}
use Rattle.iio_bench.proofs.FirstLemmas.{added, base_shape, formed_next}
use Rattle.iio_bench.proofs.first.add_averages.Goals as goal

pub loop-desc-preserved : goal.loop-desc-preserved
loop-desc-preserved g c =
    let told = any_station (driver_of (λ b. (g.dyn-1.0.entry b.vtable).1.driver b.value)) in
    let before = c.args.devices.now.items in
    let heads = map any_front before in
    let adding = c.loop-desc.invariant.2 in
    let is : IsWellFormedAverage (length before) c.in-Some.desc =
    formed_next told any_front number_by captures_by before (mean_station_over heads) (mean_head_over heads) _ c.args.descs.items
    c.loop-desc.yielded _ c.next.new.self.rest.items c.loop-desc.devices.items c.in-Some.desc c.in-Some.ensures.steps.0 adding c.requires.over in
    let number = ap (λ (x : AverageRecord). x.base) c.desc.view_is in
    let within : c.desc.inside.base < length before = (let over = is.over in omega (arith, over, number)) in
    let shape_is : c.in_ok-shape.shape ≡ means_over heads c.desc.inside.base =
    c.in_ok-shape.ensures
    ∙ ap (λ (s : ShapeRecord). shape_of_means (Some s))
    (c.shape.ensures ∙ sym (base_shape told any_front number_by captures_by before c.loop-desc.devices.items _ c.desc.inside.base c.index.result.now
    adding.fronts within c.index.ensures)) in (
      tt,
      tt,
      added (mean_station_over heads) (mean_head_over heads) told any_front number_by captures_by c.args.descs.items before
          c.loop-desc.yielded _ c.next.new.self.rest.items c.loop-desc.devices.items c.push.new.self.items c.in-Some.desc c.in-Some.ensures.steps.0 adding
          (any.Average c.in_ok-new.field-0) c.in_ok-push.ensures.items
          (c.in_ok-new.ensures.station ∙ ap new_mean_station shape_is ∙ ap (λ (x : AverageRecord). mean_station_over heads x) c.desc.view_is)
          (c.in_ok-new.ensures.head
          ∙ ap (λ (s : ShapeRecord). means_head c.desc.inside.name c.desc.inside.base c.desc.inside.window s) shape_is
          ∙ ap (λ (x : AverageRecord). mean_head_over heads x) c.desc.view_is)
          (c.in_ok-new.ensures.number ∙ c.len-number.ensures ∙ c.loop-desc.devices.ok.0) refl,
    )
