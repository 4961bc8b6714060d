-- The statuses of `readdev`. (This project's own.)
use Rattle.std.specs.Prelude.{ℕ}
use Rattle.iio_script.specs.declared.status.Status.{Status}
use Rattle.iio_script.specs.declared.status.Status.TheVariants as run
use Rattle.iiod_client.specs.declared.client_end.ClientEnd.{ClientEnd}
use Rattle.iiod_client.specs.declared.client_end.ClientEnd.TheVariants as client
use Rattle.iiod_readdev.specs.declared.read_status.ReadStatus.{ReadStatus}
use Rattle.iiod_readdev.specs.declared.read_status.ReadStatus.TheVariants.{Done, Refused, Usage, ReadFault, WriteFault, Memory, TooLong, NoAddress, LinkFault, Malformed, Cut, Answered}

-- the exit code of a process
abbrev pub read_code : ReadStatus → ℕ
read_code Done = 0
read_code (Refused line why) = 1
read_code Usage = 2
read_code ReadFault = 3
read_code WriteFault = 4
read_code Memory = 5
read_code TooLong = 6
read_code NoAddress = 7
read_code LinkFault = 8
read_code Malformed = 9
read_code Cut = 10
read_code (Answered n) = 11

-- the status of a run that ended without a description
abbrev pub of_run : Status → ReadStatus
of_run run.Done = Done
of_run (run.Refused line why) = Refused line why
of_run run.Usage = Usage
of_run run.ReadFault = ReadFault
of_run run.WriteFault = WriteFault
of_run run.Memory = Memory
of_run run.TooLong = TooLong

-- the status of a reading over the link
abbrev pub of_client : ClientEnd → ReadStatus
of_client client.Done = Done
of_client (client.Refused n) = Answered n
of_client client.LinkFault = LinkFault
of_client client.WriteFault = WriteFault
of_client client.Memory = Memory
of_client client.Malformed = Malformed
of_client client.Cut = Cut
