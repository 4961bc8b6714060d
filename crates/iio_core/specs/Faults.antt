-- The answers to a device's faults. That memory ran out has its own answer, which is no errno. (Which errno is the kernel's or
-- libiio's, and which this project's own, is said in docs/FORMATS.md.)
use Rattle.std.specs.Prelude.{ℤ, Option, Some, None, Result, Ok, Err}
use Rattle.iio_text.specs.declared.errors.Errno.{Errno}
use Rattle.iio_text.specs.declared.errors.Errno.TheVariants.{EBADF, EBUSY, EINVAL, EIO, ENODEV, ENOSPC}
use Rattle.iio_attr.specs.declared.values.Value.{Value}
use Rattle.iio_attr.specs.declared.values.Value.TheVariants.{Int}
use Rattle.iio_event.specs.declared.monitor.Held.{Held}
use Rattle.iio_event.specs.declared.monitor.NotHolder.{NotHolder}
use Rattle.iio_device.specs.declared.handling.RawFault.{RawFault}
use Rattle.iio_device.specs.declared.handling.RawFault.TheVariants as raw
use Rattle.iio_device.specs.declared.roster.JoinFault.{JoinFault}
use Rattle.iio_device.specs.declared.roster.JoinFault.TheVariants as fault
use Rattle.iio_device.specs.declared.roster.RemaskFault.{RemaskFault}
use Rattle.iio_device.specs.declared.roster.RemaskFault.TheVariants as remask

-- a fault of joining
abbrev pub errno_of : JoinFault → Option Errno
errno_of fault.Gone = Some ENODEV
errno_of fault.BadMask = Some EINVAL
errno_of fault.NoTrigger = Some EINVAL
errno_of fault.NoUnion = Some EINVAL
errno_of fault.NoPlace = Some ENOSPC
errno_of fault.Mem = None

-- a fault of an exchange of a mask
abbrev pub remask_errno : RemaskFault → Option Errno
remask_errno remask.Gone = Some ENODEV
remask_errno remask.NotLive = Some EBADF
remask_errno remask.BadMask = Some EINVAL
remask_errno remask.NoUnion = Some EINVAL
remask_errno remask.Mem = None

-- a fault of a sample
abbrev pub raw_errno : RawFault → Errno
raw_errno raw.Gone = ENODEV
raw_errno raw.Busy = EBUSY
raw_errno raw.Fault = EIO

-- the events have a holder
abbrev pub held_errno : Held → Errno
held_errno held = EBUSY

-- the connection that asks isn't their holder
abbrev pub holder_errno : NotHolder → Errno
holder_errno none = EBADF

-- an answer, with its fault translated
abbrev pub map_err : {A E F : Type 0} → (E → F) → Result A E → Result A F
map_err f (Ok x) = Ok x
map_err f (Err e) = Err (f e)

-- the answer to a read of `raw`, by that of a sample
abbrev pub raw_value : Result ℤ RawFault → Result Value Errno
raw_value (Ok v) = Ok (Int v)
raw_value (Err f) = Err (raw_errno f)
