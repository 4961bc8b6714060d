use Rattle.std.proofs.Common.{◌≡◌, drop}
use Rattle.iio_worlds.specs.Stance.{none_seated}
use Rattle.iio_bench.specs.Guard.{clients_besides}
use Rattle.iio_bench.specs.Seat.{seen_of}
use Rattle.iio_bench.proofs.others.none_holds.Given as goal

abbrev pub invariant-loop-connection : goal.invariant-loop-connection
invariant-loop-connection l =
    none_seated (clients_besides seen_of l.watched (drop l.connection-index l.connections)) ≡ none_seated (clients_besides seen_of l.watched l.connections)
