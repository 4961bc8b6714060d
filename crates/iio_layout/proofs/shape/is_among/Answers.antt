use Rattle.std.proofs.Common.{rules, tests}
use Rattle.std.proofs.lemmas.Iterator.{YieldsList-from_slice}
use Rattle.std.proofs.lemmas.Iterator.Search.{any_from_yields_List}
use Rattle.iio_layout.specs.Shape.{same_channel}
use Rattle.iio_layout.proofs.shape.is_among.Goals as goal

pub returns : goal.returns
returns c =
    any_from_yields_List (λ before. same_channel before c.args.channel.now) _ _ _ c.any.ensures.ran (YieldsList-from_slice c.args.channels.now cc)
    (λ x b q k. search (rules, tests))
