use Rattle.iio_mask.proofs.PlaceLemmas.{has-without}
use Rattle.iio_mask.proofs.Mask.without.Goals as goal

pub returns-clause-places : goal.returns-clause-places
returns-clause-places c = λ k. rw c.without_channel.ensures (has-without c.args.self.bits c.args.c k)
