use Rattle.std.proofs.Common.{arith}
use Rattle.iio_layout.proofs.LayoutLemmas.{end-few}
use Rattle.iio_layout.proofs.layout.end_below.Goals as goal

pub aligned-requires-clause-fits : goal.aligned-requires-clause-fits
aligned-requires-clause-fits c =
    let size = c.size-size.ensures in
    let few = end-few c.loop-k.end c.size-size.result c.loop-k.k size.power size.some size.few c.loop-k.invariant.few in
    let most = c.scan_type.ensures.sound.few in
    omega (arith, few, most)

pub overflow_add-after : goal.overflow_add-after
overflow_add-after c =
    let most = c.scan_type.ensures.sound.few in
    let size = c.size-size.ensures in
    let few = end-few c.loop-k.end c.size-size.result c.loop-k.k size.power size.some size.few c.loop-k.invariant.few in
    omega (arith, few, most, c.aligned.ensures)
