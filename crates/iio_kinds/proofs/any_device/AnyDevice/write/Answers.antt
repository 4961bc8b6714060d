use Rattle.iio_kinds.proofs.KeepLemmas.{keeps_output}
use Rattle.iio_kinds.proofs.any_device.AnyDevice.write.Goals as goal

pub returns-clause-keeps : goal.returns-clause-keeps
returns-clause-keeps g c = rw c.in-Output.is (keeps_output _ _ c.write.ensures.keeps)
