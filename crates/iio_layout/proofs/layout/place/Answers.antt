use Rattle.std.proofs.Common.{arith}
use Rattle.iio_layout.proofs.LayoutLemmas.{end-few, end_within}
use Rattle.iio_layout.proofs.layout.place.Goals as goal

pub next_multiple_of-requires-clause-fits : goal.next_multiple_of-requires-clause-fits
next_multiple_of-requires-clause-fits c =
    let size = c.size.ensures in
    let few = end-few c.end_below.result c.size.result c.args.c size.power size.some size.few c.end_below.ensures.few in
    let most = c.scan_type.ensures.sound.few in
    omega (arith, few, most)

pub returns-clause-within : goal.returns-clause-within
returns-clause-within c =
    let within = end_within c.args.shape.now c.args.mask.bits c.args.c c.requires.channel c.requires.selected in
    rw (c.next_multiple_of.ensures.value, c.size.ensures.value, c.scan_type.ensures.value, c.end_below.ensures.value) within
