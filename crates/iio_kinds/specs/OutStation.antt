-- The station of an output device, as an `Iio` tells it.
use Rattle.std.specs.Prelude.{◌≡◌, ℕ, ◌-◌, ◌%◌, ◌==◌, not, List, [], ◌∷◌, length, Option, Some, None, Result, Ok, Err, if◌then◌else◌}
use Rattle.iio_text.specs.declared.errors.Errno.TheVariants.{EAGAIN, EBUSY, EINVAL}
use Rattle.iio_desc.specs.Description.{DeviceHead, OutputRecord}
use Rattle.iio_desc.specs.Kind.{Output}
use Rattle.iio_derive.specs.Window.{no_window}
use Rattle.iio_output.specs.Last.{first_last}
use Rattle.iio_output.specs.Out.{WriterRecord}
use Rattle.iio_output.specs.declared.writer.Wrote.{Wrote}
use Rattle.iio_output.specs.declared.writer.Wrote.TheVariants.{Bytes, BadSize, Standing, Full}
use Rattle.iio_device.specs.Site.{is_empty, new_site, no_driver}
use Rattle.iio_device.specs.Totals.{no_totals}
use Rattle.iiod_commands.specs.declared.iio.No.{No}
use Rattle.iiod_commands.specs.declared.iio.No.TheVariants.{Errno as NoErrno}
use Rattle.iio_core.specs.Machine.{Member, Station, new_station}
use Rattle.iio_kinds.specs.declared.out_device.OutDevice.{OutDevice}

-- its writer as a member, whose underruns are told as scans that it lost
abbrev pub writers_of : (number underruns : ℕ) → Option WriterRecord → List Member
writers_of number underruns None = []
writers_of number underruns (Some w) =
    record { number = number; mask = w.mask; capacity = w.capacity; scans = w.scans; lost = underruns; cyclic = w.cyclic; inner = None } ∷ []

-- each writer's start is a new attachment. The device makes no captures and has no sensor, and its attributes are never written
abbrev pub out_station : OutDevice → Station
out_station d = record {
  next = d.starts;
  captures = 0;
  totals = record no_totals { lost = d.lost };
  members = writers_of (d.starts - 1) d.out.underruns d.out.writer;
  site = record (new_site d.out.shape d.trigger no_driver) { plugged = d.plugged; attachment = d.starts };
  last = d.out.last;
  window = no_window;
}

-- what no call changes
abbrev pub out_head : OutDevice → DeviceHead
out_head d = record { name = d.name; kind = Output; shape = d.out.shape }

-- the station before the first step
abbrev pub first_out_station : OutputRecord → Station
first_out_station x = new_station (new_site x.shape x.trigger no_driver) (first_last x.shape)

-- ---- for this crate's private functions alone

-- what no call changes, with the number
pub record KeepsOut (old new : OutDevice) : Type 0 where
  pub head : out_head new ≡ out_head old
  pub number : new.number ≡ old.number

-- the answer to a payload
abbrev pub answer_of : Wrote → Result ℕ No
answer_of (Bytes taken) = Ok taken
answer_of BadSize = Err (NoErrno EINVAL)
answer_of Standing = Err (NoErrno EBUSY)
answer_of Full = Err (NoErrno EAGAIN)

-- the answer to a payload of a writer that isn't there: no scan has room
abbrev pub nowhere_answer : (size : ℕ) → List ℕ → Result ℕ No
nowhere_answer size bytes =
    if is_empty bytes then Ok 0 else if not (length bytes % size == 0) then Err (NoErrno EINVAL) else Err (NoErrno EAGAIN)
