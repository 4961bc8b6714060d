use Rattle.iio_worlds.proofs.ClientLaws.{clients_decide}
use Rattle.iio_worlds.proofs.StanceLaws.{stance_decides, step_decides, seats_tell, others_are_there}
use Rattle.iio_worlds.proofs.stance_law.Goals as goal

pub returns-clause-item : goal.returns-clause-item
returns-clause-item c = stance_decides

pub returns-clause-step : goal.returns-clause-step
returns-clause-step c = step_decides

pub returns-clause-seats : goal.returns-clause-seats
returns-clause-seats c = seats_tell

pub returns-clause-others : goal.returns-clause-others
returns-clause-others c = others_are_there

pub returns-clause-clients : goal.returns-clause-clients
returns-clause-clients c = clients_decide
