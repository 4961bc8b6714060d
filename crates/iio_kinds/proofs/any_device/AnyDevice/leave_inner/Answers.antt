use Rattle.iio_kinds.proofs.KeepLemmas.{keeps_input}
use Rattle.iio_kinds.proofs.any_device.AnyDevice.leave_inner.Goals as goal

pub returns-clause-keeps : goal.returns-clause-keeps
returns-clause-keeps g c = rw c.in-Input.is (keeps_input _ _ c.leave_inner.ensures.keeps)
