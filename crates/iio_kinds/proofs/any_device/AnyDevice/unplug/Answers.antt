use Rattle.iio_kinds.proofs.KeepLemmas.{keeps_input, keeps_mean, keeps_output}
use Rattle.iio_kinds.proofs.any_device.AnyDevice.unplug.Goals as goal

pub returns-in-Input-clause-keeps : goal.returns-in-Input-clause-keeps
returns-in-Input-clause-keeps g c = rw c.in-Input.is (keeps_input _ _ c.unplug.ensures.keeps)

pub returns-in-Output-clause-keeps : goal.returns-in-Output-clause-keeps
returns-in-Output-clause-keeps g c = rw c.in-Output.is (keeps_output _ _ c.unplug-in-Output.ensures.keeps)

pub returns-in-Average-clause-keeps : goal.returns-in-Average-clause-keeps
returns-in-Average-clause-keeps g c = rw c.in-Average.is (keeps_mean _ _ c.unplug-in-Average.ensures.keeps)
