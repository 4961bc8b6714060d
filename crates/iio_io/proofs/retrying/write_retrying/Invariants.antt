use Rattle.std.proofs.Common.{◌≡◌}
use Rattle.std.specs.Io.KnownBytes.{Keeps}
use Rattle.iio_io.proofs.retrying.write_retrying.Given as goal

abbrev pub invariant-loop : goal.invariant-loop
invariant-loop g l = Keeps (g.W.Write.contents l.fn.output) (g.W.Write.contents l.output) × (l.faults ≡ l.fn.faults)
