use Rattle.iio_text.proofs.NumberLemmas.{number_of-decimal}
use Rattle.iio_text.proofs.numbers.read_number.Goals as goal

pub returns-then-is_empty-clause-read_back : goal.returns-then-is_empty-clause-read_back
returns-then-is_empty-clause-read_back c = number_of-decimal

pub returns-in-Some-clause-read_back : goal.returns-in-Some-clause-read_back
returns-in-Some-clause-read_back c = number_of-decimal

pub returns-in-None-clause-read_back : goal.returns-in-None-clause-read_back
returns-in-None-clause-read_back c = number_of-decimal
