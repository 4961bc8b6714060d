use Rattle.iio_kinds.proofs.KeepLemmas.{keeps_input, keeps_output}
use Rattle.iio_kinds.proofs.any_device.AnyDevice.set_trigger.Goals as goal

pub returns-in-Input-clause-keeps : goal.returns-in-Input-clause-keeps
returns-in-Input-clause-keeps g c = rw c.in-Input.is (keeps_input _ _ c.set_trigger.ensures.keeps)

pub returns-in-Output-clause-keeps : goal.returns-in-Output-clause-keeps
returns-in-Output-clause-keeps g c = rw c.in-Output.is (keeps_output _ _ c.set_trigger-in-Output.ensures.keeps)
