use Rattle.iio_gen.specs.Input.{Appends, value_word, several}
use Rattle.iio_gen.proofs.description.push_values.Given as goal

abbrev pub invariant-loop-channel : goal.invariant-loop-channel
invariant-loop-channel l = Appends (several value_word l.channel) l.fn.draws.state l.draws.state l.fn.out.items l.out.items
