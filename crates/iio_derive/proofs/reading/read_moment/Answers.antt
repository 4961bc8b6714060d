use Rattle.std.proofs.Common.{◌∙◌, sym}
use Rattle.iio_derive.proofs.ReadLemmas.{stamp_there}
use Rattle.iio_derive.proofs.reading.read_moment.Goals as goal

pub read_last-requires-clause-stamp : goal.read_last-requires-clause-stamp
read_last-requires-clause-stamp c = stamp_there c.args.shape.now _ (sym c.stamp.ensures ∙ c.in-Some.is)
