use Rattle.std.proofs.Common.{length, ◌-◌, ◌≡◌, ◌≤◌, None, IfNone}
use Rattle.iio_io.proofs.Told.{WroteSoFar}
use Rattle.iio_io.proofs.whole.send_whole.Given as goal

abbrev pub invariant-loop-done : goal.invariant-loop-done
invariant-loop-done g l = record {
  within : l.done ≤ length l.bytes;
  told : WroteSoFar (g.L.Link.written l.fn.link) l.bytes l.done (g.L.Link.written l.link);
  silent : IfNone (g.L.Link.written l.fn.link) (g.L.Link.written l.link ≡ None);
  left : g.L.Link.left l.link ≡ g.L.Link.left l.fn.link;
  steady : g.L.Link.faults l.link ≡ g.L.Link.faults l.fn.link;
}

abbrev pub decreases-loop-done : goal.decreases-loop-done
decreases-loop-done g l = length l.bytes - l.done
