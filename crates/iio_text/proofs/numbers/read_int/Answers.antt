use Rattle.iio_text.proofs.NumberLemmas.{int_of-signed_decimal}
use Rattle.iio_text.proofs.numbers.read_int.Goals as goal

pub returns-in-Some-clause-read_back : goal.returns-in-Some-clause-read_back
returns-in-Some-clause-read_back c = int_of-signed_decimal

pub returns-in-None-clause-read_back : goal.returns-in-None-clause-read_back
returns-in-None-clause-read_back c = int_of-signed_decimal

pub returns-in-None-2-clause-read_back : goal.returns-in-None-2-clause-read_back
returns-in-None-2-clause-read_back c = int_of-signed_decimal

pub returns-in-Some-plain_value-clause-read_back : goal.returns-in-Some-plain_value-clause-read_back
returns-in-Some-plain_value-clause-read_back c = int_of-signed_decimal

pub returns-in-None-plain_value-clause-read_back : goal.returns-in-None-plain_value-clause-read_back
returns-in-None-plain_value-clause-read_back c = int_of-signed_decimal
