use Rattle.std.proofs.Common.{◌≡◌, drop}
use Rattle.iio_layout.specs.Id.{id_among, id_of}
use Rattle.iio_layout.proofs.channel.id_among_kinds.Given as goal

abbrev pub invariant-loop-kind : goal.invariant-loop-kind
invariant-loop-kind l = record {
  rest : id_among (drop l.kind-index l.kind-items) l.text ≡ id_of l.text;
}
