-- How a session learns of a refusal by a device. Lack of memory has no errno.
use Rattle.std.specs.Prelude.{Option, Some, None}
use Rattle.iio_text.specs.declared.errors.Errno.{Errno}
use Rattle.iio_event.specs.declared.monitor.Held.{Held}
use Rattle.iio_event.specs.declared.monitor.NotHolder.{NotHolder}
use Rattle.iio_device.specs.declared.handling.RawFault.{RawFault}
use Rattle.iio_device.specs.declared.roster.JoinFault.{JoinFault}
use Rattle.iio_device.specs.declared.roster.RemaskFault.{RemaskFault}
use Rattle.iio_core.specs.Faults.{errno_of, held_errno, holder_errno, raw_errno, remask_errno}
use Rattle.iiod_commands.specs.declared.iio.No.{No}
use Rattle.iiod_commands.specs.declared.iio.No.TheVariants.{Errno as NoErrno, Mem as NoMem}

-- a refusal by its errno; without one, memory ran out
abbrev pub no_by : Option Errno → No
no_by (Some e) = NoErrno e
no_by None = NoMem

-- the refusal for a fault of joining
abbrev pub no_of : JoinFault → No
no_of f = no_by (errno_of f)

-- the refusal for a fault of a change of masks
abbrev pub remask_no : RemaskFault → No
remask_no f = no_by (remask_errno f)

-- the refusal for a fault of a sample
abbrev pub raw_no : RawFault → No
raw_no f = NoErrno (raw_errno f)

-- the refusal if events have a holder already
abbrev pub held_no : Held → No
held_no held = NoErrno (held_errno held)

-- the refusal for a connection that isn't their holder
abbrev pub holder_no : NotHolder → No
holder_no none = NoErrno (holder_errno none)
