use Rattle.iio_history.proofs.DeviceMoves.{ends_agree, told_handlings_agree, told_looks_agree}
use Rattle.iio_history.proofs.told_device_law.Goals as goal

pub returns-clause-ends : goal.returns-clause-ends
returns-clause-ends g c = ends_agree g.Q.Tail

pub returns-clause-looks : goal.returns-clause-looks
returns-clause-looks g c = told_looks_agree g.Q.Tail

pub returns-clause-handlings : goal.returns-clause-handlings
returns-clause-handlings g c = told_handlings_agree g.Q.Tail
