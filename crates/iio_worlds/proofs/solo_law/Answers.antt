use Rattle.iio_worlds.proofs.BothLaws.{are_alike, is_refused_beside}
use Rattle.iio_worlds.proofs.OwnLinesLaws.{own_lines_play}
use Rattle.iio_worlds.proofs.KeptLaws.{kept_goes_on}
use Rattle.iio_worlds.proofs.SoloLaws.{solo_is_twice, run_keeps, offence_line_is, bad_line_is_first}
use Rattle.iio_worlds.proofs.solo_law.Goals as goal

pub returns-clause-twice : goal.returns-clause-twice
returns-clause-twice c = solo_is_twice

pub returns-clause-run : goal.returns-clause-run
returns-clause-run c = run_keeps

pub returns-clause-line : goal.returns-clause-line
returns-clause-line c = offence_line_is

pub returns-clause-bad : goal.returns-clause-bad
returns-clause-bad c = bad_line_is_first

pub returns-clause-on : goal.returns-clause-on
returns-clause-on c = kept_goes_on

pub returns-clause-own : goal.returns-clause-own
returns-clause-own c = own_lines_play

pub returns-clause-alike : goal.returns-clause-alike
returns-clause-alike c = are_alike

pub returns-clause-offender : goal.returns-clause-offender
returns-clause-offender c = is_refused_beside
