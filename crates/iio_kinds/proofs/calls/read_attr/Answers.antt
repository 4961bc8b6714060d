use Rattle.std.proofs.Common.{w64}
use Rattle.std.proofs.lemmas.Int.{to_z-of_z}
use Rattle.iio_kinds.proofs.calls.read_attr.Goals as goal

pub returns-in-Some-clause-reads : goal.returns-in-Some-clause-reads
returns-in-Some-clause-reads g c = rw (c.in-Some.is) (rw (to_z-of_z w64 c.args.t c.ranges.t) at c.read_channel.ensures.reads)
