use Rattle.std.proofs.Common.{arith}
use Rattle.std.proofs.lemmas.Grind.{common_steps}
use Rattle.iio_device.proofs.roster.ask.Goals as goal

pub returns-clause-scan : goal.returns-clause-scan
returns-clause-scan g c = grind (arith, common_steps) steps 4000000
