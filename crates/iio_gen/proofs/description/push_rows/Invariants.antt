use Rattle.iio_gen.specs.Input.{Appends, row_line, several}
use Rattle.iio_gen.proofs.description.push_rows.Given as goal

abbrev pub invariant-loop-i : goal.invariant-loop-i
invariant-loop-i l = Appends (several row_line l.i) l.fn.draws.state l.draws.state l.fn.out.items l.out.items
