use Rattle.std.proofs.Common.{◌≡◌, drop}
use Rattle.iio_kinds.specs.Inner.{number_by}
use Rattle.iio_kinds.proofs.inners.number_of.Given as goal

abbrev pub invariant-loop-inner : goal.invariant-loop-inner
invariant-loop-inner l = number_by l.average (drop l.inner-index l.inners) ≡ number_by l.average l.inners
