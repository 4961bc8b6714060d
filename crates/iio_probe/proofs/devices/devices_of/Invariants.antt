use Rattle.iio_device.specs.declared.plug.Plug.TheVariants.{Given}
use Rattle.iio_device.specs.Plug.{driver_of}
use Rattle.iio_device.specs.Device.{view_of}
use Rattle.iio_probe.proofs.MakingLemmas.{Making}
use Rattle.iio_probe.proofs.devices.devices_of.Given as goal

abbrev pub invariant-loop-desc : goal.invariant-loop-desc
invariant-loop-desc g l =
    (goal.iterator-loop-desc g).can_next l.desc-iterator ×
    (goal.iterator-loop-desc g).is_finite l.desc-iterator ×
    Making (λ d. driver_of (λ b. (g.dyn-1.0.entry b.vtable).1.driver b.value) (Given d))
    (view_of (driver_of (λ b. (g.dyn-1.0.entry b.vtable).1.driver b.value))) l.fn.descs.items l.fn.drivers.items l.yielded
    l.desc-iterator.rest.items l.devices.items l.slots.items
