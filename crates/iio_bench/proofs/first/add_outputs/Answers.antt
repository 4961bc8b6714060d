use Rattle.std.proofs.Common.{refl, ◌∙◌}
use Rattle.iio_desc.specs.Description.{output_head}
use Rattle.iio_device.specs.Plug.{driver_of}
use Rattle.iio_kinds.specs.OutStation.{first_out_station}
use Rattle.iio_kinds.specs.declared.any_device.AnyDevice.TheVariants as any
use Rattle.iio_kinds.specs.Station.{any_front, any_station, captures_by, number_by}
use Rattle.iio_bench.proofs.FirstLemmas.{added}
use Rattle.iio_bench.proofs.first.add_outputs.Goals as goal

pub loop-desc-preserved : goal.loop-desc-preserved
loop-desc-preserved g c = (
  tt,
  tt,
  added first_out_station output_head (any_station (driver_of (λ b. (g.dyn-1.0.entry b.vtable).1.driver b.value))) any_front number_by captures_by
      c.args.descs.items c.args.devices.now.items
      c.loop-desc.yielded _ c.next.new.self.rest.items c.loop-desc.devices.items c.push.new.self.items c.in-Some.desc c.in-Some.ensures.steps.0
      c.loop-desc.invariant.2
      (any.Output c.in_ok-new.field-0) c.in_ok-push.ensures.items c.in_ok-new.ensures.station c.in_ok-new.ensures.head
      (c.in_ok-new.ensures.number ∙ c.len-number.ensures ∙ c.loop-desc.devices.ok.0) refl,
)
