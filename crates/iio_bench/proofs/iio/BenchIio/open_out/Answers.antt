use Rattle.iio_bench.proofs.OpenLemmas.{cycle_written}
use Rattle.iio_bench.proofs.iio.BenchIio.open_out.Goals as goal

pub open_any-requires-clause-cycles : goal.open_any-requires-clause-cycles
open_any-requires-clause-cycles g c =
    cycle_written c.args.cyclic _ c.requires.written
