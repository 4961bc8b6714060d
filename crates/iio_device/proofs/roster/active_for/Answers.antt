use Rattle.std.proofs.lemmas.Grind.{common_steps, elements}
use Rattle.std.proofs.Common.{◌<◌, ◌^◌, arith}
use Rattle.iio_layout.specs.Shape.{count_of}
use Rattle.iio_device.proofs.MaskLemmas.{union_below}
use Rattle.iio_device.proofs.roster.active_for.Goals as goal

pub returns-clause-below : goal.returns-clause-below
returns-clause-below g c =
    let low : c.args.wanted.bits < 2 ^ count_of c.args.shape.now =
    rw c.requires.wanted (union_below (count_of c.args.shape.now) c.args.members.now c.requires.each) in
    c.active.ensures.below low

pub returns-then-is_empty-clause-value : goal.returns-then-is_empty-clause-value
returns-then-is_empty-clause-value g c = grind (arith, common_steps)

pub returns-clause-value : goal.returns-clause-value
returns-clause-value g c = grind (arith, elements)
