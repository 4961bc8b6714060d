use Rattle.iio_kinds.proofs.KeepLemmas.{keeps_input, keeps_mean}
use Rattle.iio_kinds.proofs.any_device.AnyDevice.take.Goals as goal

pub returns-in-Input-clause-keeps : goal.returns-in-Input-clause-keeps
returns-in-Input-clause-keeps g c = rw c.in-Input.is (keeps_input _ _ c.take.ensures.keeps)

pub returns-in-Average-clause-keeps : goal.returns-in-Average-clause-keeps
returns-in-Average-clause-keeps g c = rw c.in-Average.is (keeps_mean _ _ c.take-in-Average.ensures.keeps)
