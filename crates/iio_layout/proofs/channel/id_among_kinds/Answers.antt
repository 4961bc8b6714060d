use Rattle.std.proofs.Common.{sym}
use Rattle.iio_layout.specs.Id.{kinds}
use Rattle.iio_layout.specs.declared.channel.Kind.TheVariants.{Voltage}
use Rattle.iio_layout.proofs.IdLemmas.{id_among-next}
use Rattle.iio_layout.proofs.channel.id_among_kinds.Goals as goal

pub loop-kind-preserved : goal.loop-kind-preserved
loop-kind-preserved c = record {
  rest = id_among-next kinds c.args.text.now c.loop-kind.kind-index Voltage c.loop-kind-test.true (sym c.in_default.ensures) c.loop-kind.invariant.rest;
}
