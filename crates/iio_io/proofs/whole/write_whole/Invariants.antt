use Rattle.std.proofs.Common.{length, ◌-◌, ◌≡◌, ◌≤◌, None, IfNone}
use Rattle.iio_io.proofs.Told.{WroteSoFar}
use Rattle.iio_io.proofs.whole.write_whole.Given as goal

abbrev pub invariant-loop-done : goal.invariant-loop-done
invariant-loop-done g l = record {
  within : l.done ≤ length l.bytes;
  told : WroteSoFar (g.K.Sink.written l.fn.sink) l.bytes l.done (g.K.Sink.written l.sink);
  silent : IfNone (g.K.Sink.written l.fn.sink) (g.K.Sink.written l.sink ≡ None);
  steady : g.K.Sink.faults l.sink ≡ g.K.Sink.faults l.fn.sink;
  counted : g.K.Sink.faults l.fn.sink ≤ g.K.Sink.faults l.sink;
}

abbrev pub decreases-loop-done : goal.decreases-loop-done
decreases-loop-done g l = length l.bytes - l.done
