use Rattle.std.proofs.Common.{◌∙◌}
use Rattle.iio_device.specs.declared.plug.Plug.TheVariants.{Given}
use Rattle.iio_device.specs.Plug.{driver_of}
use Rattle.iio_device.specs.Device.{view_of}
use Rattle.iio_probe.proofs.MakingLemmas.{before_next, fit_next, made_next, pushed}
use Rattle.iio_probe.proofs.devices.devices_of.Goals as goal

pub loop-desc-preserved : goal.loop-desc-preserved
loop-desc-preserved g c =
    let making =
    before_next (λ d. driver_of (λ b. (g.dyn-1.0.entry b.vtable).1.driver b.value) (Given d))
    (view_of (driver_of (λ b. (g.dyn-1.0.entry b.vtable).1.driver b.value))) c.args.descs.items c.args.drivers.items c.loop-desc.yielded _
    c.next.new.self.rest.items c.loop-desc.devices.items c.loop-desc.slots.items c.in-Some.desc c.in-Some.ensures.steps.0 c.loop-desc.invariant.2 in (
      tt,
      tt,
      pushed (λ d. driver_of (λ b. (g.dyn-1.0.entry b.vtable).1.driver b.value) (Given d))
          (view_of (driver_of (λ b. (g.dyn-1.0.entry b.vtable).1.driver b.value))) c.args.descs.items c.args.drivers.items _ _ _
          c.push.new.self.items c.device_of.new.slots.items c.in_ok-push.ensures.items
          (made_next (λ d. driver_of (λ b. (g.dyn-1.0.entry b.vtable).1.driver b.value) (Given d))
          (view_of (driver_of (λ b. (g.dyn-1.0.entry b.vtable).1.driver b.value))) c.args.descs.items c.args.drivers.items
          c.loop-desc.yielded c.next.new.self.rest.items c.loop-desc.devices.items c.loop-desc.slots.items c.device_of.new.slots.items c.in-Some.desc
          c.in_ok-device_of.field-0 making c.requires.apart
          _ (c.len-number.ensures ∙ c.loop-desc.devices.ok.0)
          (fit_next (λ d. driver_of (λ b. (g.dyn-1.0.entry b.vtable).1.driver b.value) (Given d))
          (view_of (driver_of (λ b. (g.dyn-1.0.entry b.vtable).1.driver b.value))) c.args.descs.items c.args.drivers.items
          c.loop-desc.yielded c.next.new.self.rest.items c.loop-desc.devices.items c.loop-desc.slots.items c.in-Some.desc making c.requires.fit).driven
          c.in_ok-device_of.ensures.device c.in_ok-device_of.ensures.left),
    )
