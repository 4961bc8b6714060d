use Rattle.iio_mask.proofs.PlaceLemmas.{has-within, is_within-from}
use Rattle.iio_mask.proofs.Mask.within.Goals as goal

pub returns-clause-places : goal.returns-clause-places
returns-clause-places c =
    (has-within c.args.self.bits c.args.other.bits, is_within-from c.args.self.bits c.args.other.bits)
