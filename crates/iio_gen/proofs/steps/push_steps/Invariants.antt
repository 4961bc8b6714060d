use Rattle.iio_gen.specs.Input.{Appends, step_line, several}
use Rattle.iio_gen.proofs.steps.push_steps.Given as goal

abbrev pub invariant-loop-i : goal.invariant-loop-i
invariant-loop-i l = Appends (several step_line l.i) l.fn.draws.state l.draws.state l.fn.out.items l.out.items
