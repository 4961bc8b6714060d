use Rattle.iio_kinds.proofs.CallLemmas.{write_keeps}
use Rattle.iio_kinds.proofs.calls.write_attr.Goals as goal

pub returns-in-Ok-clause-keeps : goal.returns-in-Ok-clause-keeps
returns-in-Ok-clause-keeps g c = write_keeps _ _ _ _ _ c.in-Ok.ensures.state
