-- The numbers of the statuses. (This project's own.)
use Rattle.std.specs.Prelude.{ℕ}
use Rattle.iio_script.specs.declared.status.Status.{Status}
use Rattle.iio_script.specs.declared.status.Status.TheVariants.{Done, Refused, Usage, ReadFault, WriteFault, Memory, TooLong}

-- the exit code of a process
abbrev pub code_of : Status → ℕ
code_of Done = 0
code_of (Refused line why) = 1
code_of Usage = 2
code_of ReadFault = 3
code_of WriteFault = 4
code_of Memory = 5
code_of TooLong = 6
