use Rattle.std.proofs.Common.{◌≡◌, pos, slice_index_or}
use Rattle.iio_derive.specs.View.{IsSum}
use Rattle.iio_derive.proofs.PlaceLemmas.{IsLeftFrom, IsWrittenBelow}
use Rattle.iio_derive.proofs.sums.put_first.Given as goal

abbrev pub invariant-loop-i : goal.invariant-loop-i
invariant-loop-i l = record {
  written : IsWrittenBelow (λ k x. (x ≡ slice_index_or l.values k (pos 0)) × IsSum 1 x) l.i l.sums;
  left : IsLeftFrom l.i l.fn.sums l.sums;
}
