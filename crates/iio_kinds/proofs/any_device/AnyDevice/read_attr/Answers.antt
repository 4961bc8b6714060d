use Rattle.std.proofs.Common.{w64}
use Rattle.std.proofs.lemmas.Int.{to_z-of_z}
use Rattle.iio_kinds.proofs.KeepLemmas.{keeps_input}
use Rattle.iio_kinds.proofs.any_device.AnyDevice.read_attr.Goals as goal

pub returns-in-Input-clause-keeps : goal.returns-in-Input-clause-keeps
returns-in-Input-clause-keeps g c = rw c.in-Input.is (keeps_input _ _ c.read_attr.ensures.keeps)

pub returns-in-Input-clause-reads : goal.returns-in-Input-clause-reads
returns-in-Input-clause-reads g c = rw c.in-Input.is (rw (to_z-of_z w64 c.args.t c.ranges.t) at c.read_attr.ensures.reads)
