use Rattle.std.proofs.Common.{arith}
use Rattle.iio_text.proofs.PrintedLemmas.{printed_stored, printed_len-le}
use Rattle.iio_text.proofs.escapes.put_escaped.Goals as goal

pub returns-clause-within : goal.returns-clause-within
returns-clause-within c = printed_len-le c.args.byte c.ranges.byte.fits

pub returns-clause-text : goal.returns-clause-text
returns-clause-text c = printed_stored c.args.byte _ c.args.room.now c.ranges.byte.fits c.requires (omega arith)
