use Rattle.iio_mask.proofs.UnionLemmas.{same_from_has, union_of_all-has, union_of_all-less, union_of_all-member, union_of_all-more}
use Rattle.iio_mask.proofs.union_laws.Goals as goal

pub returns-clause-one_more : goal.returns-clause-one_more
returns-clause-one_more c = union_of_all-more

pub returns-clause-one_less : goal.returns-clause-one_less
returns-clause-one_less c = union_of_all-less

pub returns-clause-member : goal.returns-clause-member
returns-clause-member c = union_of_all-member

pub returns-clause-places : goal.returns-clause-places
returns-clause-places c = union_of_all-has

pub returns-clause-same : goal.returns-clause-same
returns-clause-same c = same_from_has
