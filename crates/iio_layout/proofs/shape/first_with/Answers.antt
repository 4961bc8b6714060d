use Rattle.std.proofs.Common.{rules, tests}
use Rattle.std.proofs.lemmas.Iterator.{YieldsList-from_slice}
use Rattle.std.proofs.lemmas.Iterator.Search.{position_from_yields_List}
use Rattle.iio_layout.specs.Id.{same_id}
use Rattle.iio_layout.specs.Shape.{id_at}
use Rattle.iio_layout.proofs.shape.first_with.Goals as goal

pub returns : goal.returns
returns c =
    position_from_yields_List (λ channel. same_id (id_at channel) (c.args.kind, c.args.suffix)) _ _ _ c.position.ensures.ran
    (YieldsList-from_slice c.args.channels.now cc) (λ x b q k. search (rules, tests))
