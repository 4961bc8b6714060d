use Rattle.iio_core.proofs.DeviceHandlings.{queues_are_met, queues_stand, rings_are_met}
use Rattle.iio_core.proofs.queue_law.Goals as goal

pub returns-clause-queues : goal.returns-clause-queues
returns-clause-queues c = queues_are_met

pub returns-clause-stand : goal.returns-clause-stand
returns-clause-stand c = queues_stand

pub returns-clause-rings : goal.returns-clause-rings
returns-clause-rings c = rings_are_met
