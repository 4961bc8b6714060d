use Rattle.iio_kinds.proofs.KeepLemmas.{keeps_input}
use Rattle.iio_kinds.proofs.any_device.AnyDevice.ev_read.Goals as goal

pub returns-clause-keeps : goal.returns-clause-keeps
returns-clause-keeps g c = rw c.in-Input.is (keeps_input _ _ c.ev_read.ensures.keeps)
