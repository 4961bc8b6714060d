use Rattle.std.proofs.Common.{◌≡◌, drop}
use Rattle.iio_kinds.specs.Inner.{inner_at}
use Rattle.iio_kinds.proofs.inners.average_at.Given as goal

abbrev pub invariant-loop-inner : goal.invariant-loop-inner
invariant-loop-inner l = inner_at (drop l.inner-index l.inners) l.number ≡ inner_at l.inners l.number
