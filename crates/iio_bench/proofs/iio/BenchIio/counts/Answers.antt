use Rattle.std.proofs.Common.{◌∙◌, ap, length, sym}
use Rattle.iio_kinds.specs.Station.{any_front, any_station}
use Rattle.iio_bench.proofs.ListLemmas.{element_at}
use Rattle.iio_bench.proofs.ToldLemmas.{lost_at, queue_is}
use Rattle.iio_bench.proofs.iio.BenchIio.counts.Goals as goal

pub returns-clause-waiting : goal.returns-clause-waiting
returns-clause-waiting g c =
    c.counts.ensures.waiting ∙ ap (λ q. length q) (sym (queue_is (any_station _) _ _ _ _ _ (element_at any_front _ _ _ c.requires.dev c.index.ensures) _))

pub returns-clause-lost : goal.returns-clause-lost
returns-clause-lost g c = c.counts.ensures.lost ∙ sym (lost_at (any_station _) _ _ _ _ _ (element_at any_front _ _ _ c.requires.dev c.index.ensures) _)
