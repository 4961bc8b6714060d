use Rattle.std.proofs.Common.{◌∙◌, ap, sym}
use Rattle.iio_desc.specs.Kind.{is_output}
use Rattle.iio_kinds.specs.Station.{any_front}
use Rattle.iio_bench.proofs.ListLemmas.{element_at}
use Rattle.iio_bench.proofs.ToldLemmas.{kind_is}
use Rattle.iio_bench.proofs.iio.BenchIio.is_output.Goals as goal

pub returns : goal.returns
returns g c = c.is_output.ensures ∙ ap is_output (sym (kind_is any_front _ _ _ _ _ (element_at any_front _ _ _ c.requires c.index.ensures)))
