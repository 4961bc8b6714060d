use Rattle.std.proofs.Common.{◌≡◌, pos, slice_index_or}
use Rattle.std.specs.Prelude.{int_div}
use Rattle.iio_derive.proofs.PlaceLemmas.{IsLeftFrom, IsWrittenBelow}
use Rattle.iio_derive.proofs.sums.put_means.Given as goal

abbrev pub invariant-loop-i : goal.invariant-loop-i
invariant-loop-i l = record {
  written : IsWrittenBelow (λ k x. x ≡ int_div (slice_index_or l.sums k (pos 0)) (pos l.size)) l.i l.values;
  left : IsLeftFrom l.i l.fn.values l.values;
}
