-- What a command at a device answers: its refusals in their order. A session states the conditions by what it sees, the history
-- by what happened. (Which errno is the kernel's or libiio's, and which this project's own, is said in docs/FORMATS.md.)
use Rattle.std.specs.Prelude.{ℕ, Bool, not, ⊤, Option, is_none, slice_get, Result, Ok}
use Rattle.iio_base.specs.Refusals.{ensure, ◌>>=◌}
use Rattle.iio_text.specs.declared.errors.Errno.{Errno}
use Rattle.iio_text.specs.declared.errors.Errno.TheVariants.{EBADF, EBUSY, ENODEV, ENOSYS}
use Rattle.iio_desc.specs.Kind.{Kind, is_average, is_input}
use Rattle.iio_device.specs.Site.{Site}
use Rattle.iio_event.specs.declared.event.EventData.{EventData}
use Rattle.iio_event.specs.Monitor.{is_holder}

-- SETTRIG: the answer is the device's new trigger, if the name that is given is found
abbrev pub settrig_answer : Kind → (is_plugged is_alone : Bool) → Result (Option ℕ) Errno → Result (Option ℕ) Errno
settrig_answer kind is_plugged is_alone named = do
  plugged ← ensure is_plugged ENODEV
  own ← ensure (not (is_average kind)) ENOSYS
  trigger ← named
  alone ← ensure is_alone EBUSY
  Ok trigger

-- ---- threshold events: one connection at a time holds those of a device

module _ {W : Type 0} (kind : Kind) (site : Site W) where
  -- only an input device that is there has events
  abbrev pub event_answer : Result ⊤ Errno
  event_answer = do
    plugged ← ensure site.plugged ENODEV
    ensure (is_input kind) ENOSYS

  -- EVOPEN
  abbrev pub evopen_answer : Result ⊤ Errno
  evopen_answer = do
    there ← event_answer
    ensure (is_none site.monitor.holder) EBUSY

  module _ (same : W → W → Bool) (who : W) where
    -- EVCLOSE
    abbrev pub evclose_answer : Result ⊤ Errno
    evclose_answer = do
      there ← event_answer
      ensure (is_holder same who site.monitor) EBADF

    -- EVREAD: the answer is the oldest event, if there is one
    abbrev pub evread_answer : Result (Option EventData) Errno
    evread_answer = do
      holder ← evclose_answer
      Ok (slice_get site.monitor.events 0)
