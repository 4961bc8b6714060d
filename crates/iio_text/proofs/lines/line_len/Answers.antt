use Rattle.iio_text.proofs.LineLemmas.{first_end, no_end}
use Rattle.iio_text.proofs.lines.line_len.Goals as goal

pub returns-in-Some-clause-value : goal.returns-in-Some-clause-value
returns-in-Some-clause-value c = first_end c.args.text.now c.in-Some.len (rw (c.in-Some.is) at c.memchr.ensures)

pub returns-in-None-clause-value : goal.returns-in-None-clause-value
returns-in-None-clause-value c = no_end c.args.text.now (rw (c.in-None.is) at c.memchr.ensures)
