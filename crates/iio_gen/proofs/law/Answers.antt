use Rattle.iio_gen.proofs.MadeLaws.{made_finishes, made_is_playable}
use Rattle.iio_gen.proofs.law.Goals as goal

pub returns-clause-playable : goal.returns-clause-playable
returns-clause-playable c = made_is_playable

pub returns-clause-finishes : goal.returns-clause-finishes
returns-clause-finishes c = made_finishes
