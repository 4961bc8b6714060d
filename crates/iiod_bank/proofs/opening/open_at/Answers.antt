use Rattle.std.proofs.Common.{Some, refl}
use Rattle.iio_device.specs.Plug.{driver_of}
use Rattle.iio_device.specs.Device.{view_of}
use Rattle.iiod_bank.specs.Jobs.{buffer_of}
use Rattle.iiod_bank.proofs.JobLemmas.{refused_by, stated}
use Rattle.iiod_bank.proofs.opening.open_at.Goals as goal

pub returns-in-Err : goal.returns-in-Err
returns-in-Err g c =
    refused_by (buffer_of c.args.mask c.args.capacity c.args.size) c.in-Err.fault c.no_of.result
    (view_of (driver_of (λ p. (g.dyn-1.0.entry p.vtable).1.driver p.value)) c.args.device.now)
    (view_of (driver_of (λ p. (g.dyn-1.0.entry p.vtable).1.driver p.value)) c.args.device.now)
    (Some c.args.trigger.now) (Some c.args.trigger.now) c.no_of.ensures (stated _ _ c.in-Err.ensures) refl refl
