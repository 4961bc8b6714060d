use Rattle.std.proofs.Common.{refl}
use Rattle.std.proofs.lemmas.Option.{slice_get_read}
use Rattle.iio_device.specs.Site.{no_driver}
use Rattle.iio_device.specs.Device.{view_of}
use Rattle.iio_kinds.proofs.HostLemmas.{host_err, host_ok}
use Rattle.iio_kinds.proofs.joining.host_at.Goals as goal

pub returns-in-Err : goal.returns-in-Err
returns-in-Err g c =
    host_err c.args.triggers.now (view_of (λ p. no_driver) c.args.device.now) c.args.mask.bits c.args.trigger c.requires.own c.index-triggers-trigger.result _
    (slice_get_read _ _ _ _ refl c.requires.within c.index-triggers-trigger.is) c.in-Err.ensures

pub returns-in-Ok : goal.returns-in-Ok
returns-in-Ok g c = (
  c.requires.own,
  c.requires.within,
  host_ok c.args.triggers.now (view_of (λ p. no_driver) c.args.device.now) c.args.mask.bits c.args.trigger c.requires.own c.index-triggers-trigger.result _
      (slice_get_read _ _ _ _ refl c.requires.within c.index-triggers-trigger.is) c.in-Ok.ensures,
)
