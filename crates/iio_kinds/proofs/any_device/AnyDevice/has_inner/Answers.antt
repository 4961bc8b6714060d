use Rattle.iio_device.specs.Plug.{driver_of}
use Rattle.iio_kinds.proofs.AnyCalls.{plain_inner}
use Rattle.iio_kinds.proofs.any_device.AnyDevice.has_inner.Goals as goal

pub returns-in_default : goal.returns-in_default
returns-in_default g c =
    plain_inner (driver_of (λ b. (g.dyn-1.0.entry b.vtable).1.driver b.value)) c.args.average c.args.self.now c.in_default.not-Input
