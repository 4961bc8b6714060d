use Rattle.iio_text.proofs.EscapeLemmas.{quoted_of-quoted, unescaped_from-escaped}
use Rattle.iio_text.proofs.escapes.escape.Goals as goal

pub returns-clause-read_back : goal.returns-clause-read_back
returns-clause-read_back c = rw (c.in_ok-escape_to.ensures.ok, c.in_ok-out.ensures.items) (unescaped_from-escaped 0 c.args.bytes.now (λ k. c.type_inv.bytes k))

pub returns-clause-quoted : goal.returns-clause-quoted
returns-clause-quoted c = quoted_of-quoted c.args.bytes.now (λ k. c.type_inv.bytes k)
