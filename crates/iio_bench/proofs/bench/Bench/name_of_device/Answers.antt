use Rattle.std.proofs.Common.{◌∙◌, sym}
use Rattle.iio_kinds.specs.Station.{any_front}
use Rattle.iio_bench.proofs.ListLemmas.{element_at}
use Rattle.iio_bench.proofs.ToldLemmas.{name_is}
use Rattle.iio_bench.proofs.bench.Bench.name_of_device.Goals as goal

pub returns : goal.returns
returns g c =
    c.name.ensures ∙ sym (name_is any_front c.args.self.now.context.items c.args.self.now.described.items c.args.self.now.devices.items c.args.dev
    c.index.result.now (element_at any_front _ _ _ c.requires c.index.ensures))
