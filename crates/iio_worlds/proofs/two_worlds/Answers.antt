use Rattle.iio_worlds.proofs.TwoWorldsLaws.{two_worlds, offence_is}
use Rattle.iio_worlds.proofs.StartLaws.{start_decides}
use Rattle.iio_worlds.proofs.two_worlds.Goals as goal

pub returns-clause-two_worlds : goal.returns-clause-two_worlds
returns-clause-two_worlds c = two_worlds

pub returns-clause-offence : goal.returns-clause-offence
returns-clause-offence c = offence_is

pub returns-clause-start : goal.returns-clause-start
returns-clause-start c = start_decides
