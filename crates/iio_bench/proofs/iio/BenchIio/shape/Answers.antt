use Rattle.std.proofs.Common.{◌∙◌, sym}
use Rattle.iio_kinds.specs.Station.{any_front}
use Rattle.iio_bench.proofs.ListLemmas.{element_at}
use Rattle.iio_bench.proofs.ToldLemmas.{shape_is}
use Rattle.iio_bench.proofs.iio.BenchIio.shape.Goals as goal

pub returns : goal.returns
returns g c = c.shape.ensures ∙ sym (shape_is any_front _ _ _ _ _ (element_at _ _ _ _ c.requires c.index.ensures))
