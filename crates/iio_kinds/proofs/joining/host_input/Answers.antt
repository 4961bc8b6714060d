use Rattle.iio_device.specs.Plug.{driver_of}
use Rattle.iio_device.specs.Device.{view_of}
use Rattle.iio_kinds.proofs.JoinLemmas.{good_mask, hosts_err, hosts_ok}
use Rattle.iio_kinds.proofs.joining.host_input.Goals as goal

pub returns-in-Err : goal.returns-in-Err
returns-in-Err g c =
    hosts_err c.args.triggers.now (view_of (driver_of (λ b. (g.dyn-1.0.entry b.vtable).1.driver b.value)) c.args.device.now) c.args.mask.bits
    (good_mask c.args.device.now.core.roster.shape c.args.mask.bits c.requires.below c.requires.channel) c.in-Err.fault c.no_of.result c.no_of.ensures
    c.in-Err.ensures

pub returns-in-Ok : goal.returns-in-Ok
returns-in-Ok g c =
    hosts_ok c.args.triggers.now (view_of (driver_of (λ b. (g.dyn-1.0.entry b.vtable).1.driver b.value)) c.args.device.now) c.args.mask.bits
    (good_mask c.args.device.now.core.roster.shape c.args.mask.bits c.requires.below c.requires.channel) c.in-Ok.trigger c.in-Ok.ensures
