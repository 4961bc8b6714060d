use Rattle.std.proofs.Common.{◌-◌, ◌+◌, ◌≡◌, ◌≤◌, None, IfNone, vec_len}
use Rattle.iio_io.proofs.Told.{ReadSoFar}
use Rattle.iio_io.proofs.whole.read_whole.Given as goal

abbrev pub invariant-loop-piece : goal.invariant-loop-piece
invariant-loop-piece g l = record {
  within : vec_len l.bytes ≤ l.limit + 1;
  told : ReadSoFar (g.S.Source.left l.fn.source) l.bytes.items (vec_len l.bytes) (g.S.Source.left l.source);
  silent : IfNone (g.S.Source.left l.fn.source) (g.S.Source.left l.source ≡ None);
  counted : g.S.Source.faults l.fn.source ≤ g.S.Source.faults l.source;
  steady : g.S.Source.faults l.source ≡ g.S.Source.faults l.fn.source;
}

abbrev pub decreases-loop-piece : goal.decreases-loop-piece
decreases-loop-piece g l = l.limit + 1 - vec_len l.bytes
