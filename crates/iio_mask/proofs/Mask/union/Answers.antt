use Rattle.iio_mask.proofs.PlaceLemmas.{has-or}
use Rattle.iio_mask.proofs.UnionLemmas.{within_first, within_second}
use Rattle.iio_mask.proofs.Mask.union.Goals as goal

pub returns-clause-places : goal.returns-clause-places
returns-clause-places c = λ k. has-or c.args.self.bits c.args.other.bits k

pub returns-clause-first : goal.returns-clause-first
returns-clause-first c = within_first c.args.self.bits c.args.other.bits

pub returns-clause-second : goal.returns-clause-second
returns-clause-second c = within_second c.args.self.bits c.args.other.bits
