use Rattle.std.proofs.Common.{◌≡◌, map, take}
use Rattle.iio_bench.specs.First.{first_state}
use Rattle.iio_bench.proofs.first.triggers_of.Given as goal

abbrev pub invariant-loop-t : goal.invariant-loop-t
invariant-loop-t l = l.triggers.items ≡ map first_state (take l.t-index l.described)
