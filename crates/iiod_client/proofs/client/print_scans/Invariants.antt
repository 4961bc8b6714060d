use Rattle.std.proofs.Common.{◌≡◌}
use Rattle.iiod_client.specs.Point.{Wrote}
use Rattle.iiod_client.specs.Printed.{lines_below}
use Rattle.iiod_client.proofs.client.print_scans.Given as goal

abbrev pub invariant-loop-k : goal.invariant-loop-k
invariant-loop-k g l = record {
  told : Wrote (g.K.Sink.written l.fn.output) (lines_below l.shape l.mask.bits l.body l.k) (g.K.Sink.written l.output);
  steady : g.K.Sink.faults l.output ≡ g.K.Sink.faults l.fn.output;
}
