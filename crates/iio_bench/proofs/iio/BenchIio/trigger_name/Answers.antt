use Rattle.std.proofs.Common.{◌∙◌}
use Rattle.std.proofs.lemmas.Option.{slice_get_read}
use Rattle.iio_bench.proofs.ToldLemmas.{name_past, name_there}
use Rattle.iio_bench.proofs.iio.BenchIio.trigger_name.Goals as goal

pub returns-then-at-len : goal.returns-then-at-len
returns-then-at-len g c =
    c.bytes.ensures.value ∙ name_there _ c.args.trigger c.index.result.now
    (slice_get_read _ c.len.result _ _ (c.len.ensures ∙ c.args.self.now.described.ok.0) c.if-at-len.true c.index.ensures)

pub returns-else-at-len : goal.returns-else-at-len
returns-else-at-len g c = name_past _ c.args.trigger c.len.result (c.len.ensures ∙ c.args.self.now.described.ok.0) c.if-at-len.false
