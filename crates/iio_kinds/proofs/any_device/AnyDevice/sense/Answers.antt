use Rattle.iio_kinds.proofs.KeepLemmas.{keeps_input}
use Rattle.iio_kinds.proofs.any_device.AnyDevice.sense.Goals as goal

pub returns-in-Input-clause-keeps : goal.returns-in-Input-clause-keeps
returns-in-Input-clause-keeps g c = rw c.in-Input.is (keeps_input _ _ c.sense.ensures.keeps)
