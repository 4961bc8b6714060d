use Rattle.iio_kinds.proofs.CallLemmas.{trigger_keeps}
use Rattle.iio_kinds.proofs.calls.set_trigger.Goals as goal

pub returns-in-Err-clause-keeps : goal.returns-in-Err-clause-keeps
returns-in-Err-clause-keeps g c = trigger_keeps _ _ _ c.in-Err.ensures.state
