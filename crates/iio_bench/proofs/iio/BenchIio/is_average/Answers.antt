use Rattle.std.proofs.Common.{◌∙◌, ap, sym}
use Rattle.iio_desc.specs.Kind.{is_average}
use Rattle.iio_kinds.specs.Station.{any_front}
use Rattle.iio_bench.proofs.ListLemmas.{element_at}
use Rattle.iio_bench.proofs.ToldLemmas.{kind_is}
use Rattle.iio_bench.proofs.iio.BenchIio.is_average.Goals as goal

pub returns : goal.returns
returns g c =
    c.is_average.ensures ∙ ap is_average
    (sym (kind_is any_front c.args.self.now.context.items c.args.self.now.described.items c.args.self.now.devices.items c.args.dev _
    (element_at any_front _ _ _ c.requires c.index.ensures)))
