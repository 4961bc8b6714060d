use Rattle.iio_history.proofs.BenchMoves.{clock_is, handling_is, look_is, moves_print, poll_is, unplugging_is}
use Rattle.iio_history.proofs.move_law.Goals as goal

pub returns-clause-unplugging : goal.returns-clause-unplugging
returns-clause-unplugging c = unplugging_is

pub returns-clause-clock : goal.returns-clause-clock
returns-clause-clock c = clock_is

pub returns-clause-poll : goal.returns-clause-poll
returns-clause-poll c = poll_is

pub returns-clause-look : goal.returns-clause-look
returns-clause-look c = look_is

pub returns-clause-handling : goal.returns-clause-handling
returns-clause-handling c = handling_is

pub returns-clause-printed : goal.returns-clause-printed
returns-clause-printed c = moves_print
