use Rattle.iio_gen.specs.Input.{Appends, channel_line, several}
use Rattle.iio_gen.proofs.description.push_channels.Given as goal

abbrev pub invariant-loop-i : goal.invariant-loop-i
invariant-loop-i l = Appends (several channel_line l.i) l.fn.draws.state l.draws.state l.fn.out.items l.out.items
