use Rattle.std.proofs.Common.{◌∙◌}
use Rattle.iio_layout.proofs.IdLemmas.{id_of-spelled, id_of-text}
use Rattle.iio_layout.proofs.channel.read_id.Goals as goal

pub returns-clause-spelled : goal.returns-clause-spelled
returns-clause-spelled c = id_of-spelled c.args.text.now c.id_among_kinds.result c.id_among_kinds.ensures

pub returns-clause-only : goal.returns-clause-only
returns-clause-only c = λ kind suffix fits is. c.id_among_kinds.ensures ∙ id_of-text c.args.text.now kind suffix fits is
