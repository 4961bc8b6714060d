use Rattle.std.proofs.Common.{◌≡◌, drop}
use Rattle.iio_bench.specs.Guard.{connection_named}
use Rattle.iio_bench.proofs.others.named.Given as goal

abbrev pub invariant-loop-connection : goal.invariant-loop-connection
invariant-loop-connection l = connection_named l.name (drop l.connection-index l.connections) ≡ connection_named l.name l.connections
