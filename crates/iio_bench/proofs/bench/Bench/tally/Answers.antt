use Rattle.std.proofs.Common.{◌∙◌, ap}
use Rattle.iio_kinds.specs.Tally.{devices_tally}
use Rattle.iio_bench.proofs.bench.Bench.tally.Goals as goal

pub returns : goal.returns
returns g c = c.devices_tally.ensures ∙ ap (λ ds. devices_tally ds) c.deref.ensures.value
