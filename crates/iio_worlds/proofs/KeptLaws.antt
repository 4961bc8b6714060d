-- How a run over a script goes on.
use Rattle.std.proofs.Common.{arith}
use Rattle.std.proofs.lemmas.Grind.{common_steps}
use Rattle.iio_worlds.specs.KeptOn.{KeptGoesOn}

pub kept_goes_on : KeptGoesOn
kept_goes_on = grind (arith, common_steps)
