use Rattle.std.proofs.Common.{arith}
use Rattle.iio_layout.specs.Shape.{count_of}
use Rattle.iio_layout.specs.Laws.{data_below, some_below}
use Rattle.iio_layout.proofs.LayoutLemmas.{end-few}
use Rattle.iio_layout.proofs.layout.scan_size.Goals as goal

pub aligned-requires-clause-fits : goal.aligned-requires-clause-fits
aligned-requires-clause-fits c =
    let made = c.extent_of-end.ensures in
    let few =
    end-few c.extent_of-end.result.end c.extent_of-end.result.largest (count_of c.args.shape.now) (made.power c.if-largest-eq0.false) (omega arith) made.small
    made.few in
    omega (arith, few, made.fits c.if-largest-eq0.false)

pub returns-else-largest-eq0-clause-few : goal.returns-else-largest-eq0-clause-few
returns-else-largest-eq0-clause-few c =
    let made = c.extent_of-end.ensures in
    let few =
    end-few c.extent_of-end.result.end c.extent_of-end.result.largest (count_of c.args.shape.now) (made.power c.if-largest-eq0.false) (omega arith) made.small
    made.few in
    omega (arith, few, c.aligned.ensures)

pub returns-then-largest-eq0-clause-any : goal.returns-then-largest-eq0-clause-any
returns-then-largest-eq0-clause-any c = λ h.
    let one = some_below c.args.mask.bits (count_of c.args.shape.now) h in
    c.extent_of-end.ensures.some one.0 one.1 one.2

pub returns-then-largest-eq0-clause-data : goal.returns-then-largest-eq0-clause-data
returns-then-largest-eq0-clause-data c = λ h.
    let one = some_below c.args.mask.bits (count_of c.args.shape.now) (data_below c.args.shape.now c.args.mask.bits h) in
    c.extent_of-end.ensures.some one.0 one.1 one.2

pub returns-else-largest-eq0-clause-any : goal.returns-else-largest-eq0-clause-any
returns-else-largest-eq0-clause-any c = λ h.
    let one = some_below c.args.mask.bits (count_of c.args.shape.now) h in
    let some = c.extent_of-end.ensures.some one.0 one.1 one.2 in
    omega (arith, some, c.aligned.ensures)

pub returns-else-largest-eq0-clause-data : goal.returns-else-largest-eq0-clause-data
returns-else-largest-eq0-clause-data c = λ h.
    let one = some_below c.args.mask.bits (count_of c.args.shape.now) (data_below c.args.shape.now c.args.mask.bits h) in
    let some = c.extent_of-end.ensures.some one.0 one.1 one.2 in
    omega (arith, some, c.aligned.ensures)
