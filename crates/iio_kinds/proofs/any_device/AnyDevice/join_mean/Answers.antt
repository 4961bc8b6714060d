use Rattle.iio_kinds.proofs.KeepLemmas.{keeps_mean}
use Rattle.iio_kinds.proofs.any_device.AnyDevice.join_mean.Goals as goal

pub returns-clause-keeps : goal.returns-clause-keeps
returns-clause-keeps g c = rw c.in-Average.is (keeps_mean _ _ c.join.ensures.keeps)
