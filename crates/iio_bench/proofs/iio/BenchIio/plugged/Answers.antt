use Rattle.std.proofs.Common.{◌∙◌, sym}
use Rattle.iio_kinds.specs.Station.{any_front, any_station}
use Rattle.iio_bench.proofs.ListLemmas.{element_at}
use Rattle.iio_bench.proofs.ToldLemmas.{plugged_is}
use Rattle.iio_bench.proofs.iio.BenchIio.plugged.Goals as goal

pub returns : goal.returns
returns g c = c.plugged.ensures ∙ sym (plugged_is (any_station _) _ _ _ _ _ (element_at any_front _ _ _ c.requires c.index.ensures))
