use Rattle.iio_derive.proofs.ReadBackLemmas.{reading_law}
use Rattle.iio_derive.proofs.reading.reading_law.Goals as goal

pub returns : goal.returns
returns c = reading_law
