use Rattle.std.proofs.Common.{w64}
use Rattle.std.proofs.lemmas.Int.{to_z-of_z}
use Rattle.iio_kinds.proofs.calls.read_channel.Goals as goal

pub returns-in-Raw-clause-reads : goal.returns-in-Raw-clause-reads
returns-in-Raw-clause-reads g c = rw (c.in-Raw.is) (rw (to_z-of_z w64 c.args.t c.ranges.t) at c.read_raw.ensures.reads)
