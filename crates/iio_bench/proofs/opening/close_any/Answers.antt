use Rattle.std.proofs.Common.{◌∙◌, ap, sym}
use Rattle.iio_desc.specs.Kind.{is_average}
use Rattle.iio_kinds.specs.Station.{any_front, base_of}
use Rattle.iio_bench.proofs.ListLemmas.{element_at}
use Rattle.iio_bench.proofs.OpenLemmas.{plain_of}
use Rattle.iio_bench.proofs.ToldLemmas.{kind_is}
use Rattle.iio_bench.proofs.opening.close_any.Goals as goal

pub close_plain-requires-clause-own : goal.close_plain-requires-clause-own
close_plain-requires-clause-own g c =
    ap is_average (kind_is any_front c.args.bench.now.context.items c.args.bench.now.described.items c.args.bench.now.devices.items c.args.dev
    c.index.result.now (element_at any_front _ _ _ c.requires c.index.ensures)) ∙ plain_of _ (sym c.in-None.ensures)

pub close_mean-requires-clause-over : goal.close_mean-requires-clause-over
close_mean-requires-clause-over g c =
    ap base_of (kind_is any_front c.args.bench.now.context.items c.args.bench.now.described.items c.args.bench.now.devices.items c.args.dev
    c.index.result.now (element_at any_front _ _ _ c.requires c.index.ensures)) ∙ sym c.in-Some.ensures
