-- The answer to an item of a connection, by the state after a history: READBUF and the numbers
-- of a buffer depend on the member's queue, everything else on the registry. (Commands and
-- answers: libiio 0.25's iiod; docs/FORMATS.md says which part is this project's own.)
use Rattle.std.specs.Prelude.{ℕ, ℤ, pos, ◌*◌, ◌/◌, ◌||◌, not, nat_lt, Bool, List, [], ◌∷◌, take, length, Option, Some, None, slice_get, slice_index_or, Result, Ok, Err, if◌then◌else◌}
use Rattle.std.specs.Fmt.{decimal, signed_decimal}
use Rattle.std.specs.Option.{ok_or}
use Rattle.iio_base.specs.Refusals.{ensure, ◌>>=◌}
use Rattle.iio_text.specs.declared.errors.Errno.{Errno}
use Rattle.iio_text.specs.declared.errors.Errno.TheVariants.{EBADF, EAGAIN, EBUSY, EIO, ENODEV, EINVAL, ENOSYS}
use Rattle.iio_attr.specs.declared.attributes.Attr.{Attr}
use Rattle.iio_attr.specs.declared.attributes.Attr.TheVariants as attr
use Rattle.iio_layout.specs.Shape.{count_of}
use Rattle.iio_layout.specs.Layout.{scan_size}
use Rattle.iio_sensor.specs.Driver.{value_of, ask_fails}
use Rattle.iiod_grammar.specs.declared.command.Refused.TheVariants.{Empty}
use Rattle.iiod_grammar.specs.Command.{Place, Help, Version, Print, Timeout, Open, Close, Read, ReadBuf, GetTrig, SetTrig, SetBuffers, Remask, EvOpen, EvRead, EvClose}
use Rattle.iiod_reply.specs.Reply.{Reply, Nothing, Number, Refusal, Value, Raw, Block}
use Rattle.iio_desc.specs.Description.{find_device, device_name, trigger_name}
use Rattle.iio_desc.specs.Kind.{Kind, Output, Average, is_output}
use Rattle.iio_output.specs.Written.{is_full, is_standing, taken_of}
use Rattle.iio_device.specs.Site.{is_empty}
use Rattle.iiod_commands.specs.Acts.{help_reply, is_buffers_count, version_reply, zero_reply}
use Rattle.iiod_commands.specs.Attributes.{is_of_buffer, buffer_number as queue_number}
use Rattle.iio_history.specs.Who.{Who, Conn, same}
use Rattle.iiod_grammar.specs.Stream.{Item, Said, Written, Streamed, End}
use Rattle.iio_event.specs.Code.{event_bytes}
use Rattle.iio_core.specs.Commands.{evclose_answer, evopen_answer, evread_answer}
use Rattle.iio_history.specs.Registry.{Setup, outline_of, buffers_of}
use Rattle.iio_history.specs.Attributes.{value_text}
use Rattle.iio_history.specs.Opening.{open_answer, remask_answer, write_answer, trigger_answer}
use Rattle.iio_history.specs.Act.{found, write_found}
use Rattle.iio_history.specs.Told.{Seat, Station, Told, device_of, registry_of}

-- an answer is itself, and a refusal is answered as one
abbrev pub replied : Result Reply Errno → Reply
replied (Ok reply) = reply
replied (Err e) = Refusal e

-- ---- the device that is named

-- a device, and its number
pub record KnownDevice : Type 0 where
  pub number : ℕ
  pub station : Station

-- the device of that name
abbrev pub known : Setup → Told → List ℕ → Result KnownDevice Errno
known s m name = do
  k ← ok_or (find_device s.desc name) ENODEV
  st ← ok_or (slice_get m.stations k) ENODEV
  Ok (record { number = k; station = st })

-- the device of that name, if it is plugged
abbrev pub there : Setup → Told → List ℕ → Result KnownDevice Errno
there s m name = do
  x ← known s m name
  plugged ← ensure x.station.site.plugged ENODEV
  Ok x

-- the device of that name, for a command that only some kinds of devices
-- know: if one of another kind is plugged, the answer is `ENOSYS`
abbrev pub known_as : (Kind → Bool) → Setup → Told → List ℕ → Result KnownDevice Errno
known_as knows s m name = do
  x ← known s m name
  plugged ← ensure (knows x.station.kind || x.station.site.plugged) ENODEV
  own ← ensure (knows x.station.kind) ENOSYS
  Ok x

abbrev pub seat_of : Who → List Seat → Option Seat
seat_of who [] = None
seat_of who (x ∷ xs) = if same who x.member.who then Some x else seat_of who xs

-- ---- buffers

-- the waiting scans, at most as many as are asked for; no scans if fewer than one are asked for
abbrev pub read_buffer : Station → Seat → ℕ → Result Reply Errno
read_buffer st x asked =
    let size = scan_size st.shape x.member.mask in
    if nat_lt asked size then Ok zero_reply
    else (do
      some ← ensure (not (is_empty x.queue.scans)) (if st.site.plugged then EAGAIN else ENODEV)
      Ok (Block (count_of st.shape) x.member.mask (take (asked / size) x.queue.scans) asked))

abbrev pub buffer_number : Attr → Seat → ℕ
buffer_number a x = queue_number a x.member.capacity (length x.queue.scans) x.queue.lost x.discarded

abbrev pub buffer_value : Attr → Option Seat → Result Reply Errno
buffer_value a seat = do
  x ← ok_or seat EBADF
  Ok (Value (decimal (buffer_number a x)))

-- ---- WRITEBUF

-- what waits decides: it is refused if a cycle stands, or if there is no room
abbrev pub write_buffer : Station → Seat → List (List ℕ) → Result Reply Errno
write_buffer st x scans = do
  free ← ensure (not (is_standing x.member.cyclic x.queue.scans)) EBUSY
  room ← ensure (not (is_full x.member.cyclic x.member.capacity x.queue.scans scans)) EAGAIN
  Ok (Number (pos (scan_size st.shape x.member.mask * length (taken_of x.member.cyclic x.member.capacity x.queue.scans scans))))

-- ---- attributes

-- `raw` asks the sensor, if the device has no member
abbrev pub raw_value : ℤ → Station → ℕ → Result Reply Errno
raw_value clock st c = do
  alone ← ensure (is_empty st.seats) EBUSY
  asked ← ensure (not (ask_fails st.site.driver)) EIO
  Ok (Value (signed_decimal (value_of st.site.driver st.shape clock c 0)))

-- .. and for an output device it is the last value that it was given
abbrev pub raw_by : Kind → ℤ → Station → ℕ → Result Reply Errno
raw_by Output clock st c = Ok (Value (signed_decimal (slice_index_or st.last c (pos 0))))
raw_by kind clock st c = raw_value clock st c

abbrev pub attribute_value : Setup → ℤ → KnownDevice → Option ℕ → Attr → Result Reply Errno
attribute_value s clock x (Some c) attr.Raw = raw_by x.station.kind clock x.station c
attribute_value s clock x channel a = Ok (Value (value_text (device_name s.desc x.number) channel a x.station.site))

abbrev pub read_value : Setup → ℤ → KnownDevice → Who → Place → Option (List ℕ) → Result Reply Errno
read_value s clock x who place attribute = do
  target ← found (device_of x.station) who place attribute
  if is_of_buffer place attribute
      then buffer_value target.attribute (seat_of who x.station.seats)
      else attribute_value s clock x target.channel target.attribute

-- the trigger of a device; for an averaging device, its base's trigger
abbrev pub trigger_of : Told → Kind → Station → Option ℕ
trigger_of m (Average base window) st = elim (slice_get m.stations base) [ None ↦ None | Some b ↦ b.site.trigger ]
trigger_of m kind st = st.site.trigger

abbrev pub trigger_value : Setup → Option ℕ → Reply
trigger_value s None = zero_reply
trigger_value s (Some t) = Value (trigger_name s.desc t)

-- ---- the answer to an item

abbrev pub reply : Setup → Told → List ℕ → Item → Reply
reply s m name (Said (Err Empty)) = Nothing
reply s m name (Said (Err refused)) = Refusal EINVAL
reply s m name (Said (Ok Help)) = help_reply
reply s m name (Said (Ok Version)) = version_reply
reply s m name (Said (Ok Print)) = Value s.desc.context
reply s m name (Said (Ok (Timeout milliseconds))) = zero_reply
reply s m name (Said (Ok (Open device samples text cyclic))) = replied (do
  x ← known s m device
  member ← open_answer s (registry_of m) (device_of x.station) (Conn name) (buffers_of (registry_of m).users name x.number) samples text cyclic
  Ok zero_reply)
reply s m name (Said (Ok (Close device))) = replied (do
  x ← known s m device
  seat ← ok_or (seat_of (Conn name) x.station.seats) EBADF
  Ok zero_reply)
reply s m name (Said (Ok (ReadBuf device bytes))) = replied (do
  x ← known_as (λ kind. not (is_output kind)) s m device
  seat ← ok_or (seat_of (Conn name) x.station.seats) EBADF
  read_buffer x.station seat bytes)
reply s m name (Said (Ok (Read device place attribute))) = replied (do
  x ← known s m device
  read_value s m.clock x (Conn name) place attribute)
reply s m name (Written device None payload) = Refusal EINVAL
reply s m name (Written device (Some target) payload) = replied (do
  x ← known s m device
  setting ← write_found (device_of x.station) (Conn name) target.0 target.1 payload
  Ok (Number (pos (length payload))))
reply s m name (Streamed device payload) = replied (do
  x ← known s m device
  scans ← write_answer (device_of x.station) (Conn name) payload
  seat ← ok_or (seat_of (Conn name) x.station.seats) EBADF
  write_buffer x.station seat scans)
reply s m name (Said (Ok (GetTrig device))) = replied (do
  x ← there s m device
  Ok (trigger_value s (trigger_of m x.station.kind x.station)))
reply s m name (Said (Ok (SetTrig device trigger))) = replied (do
  x ← known s m device
  set ← trigger_answer s (outline_of (device_of x.station)) trigger
  Ok zero_reply)
reply s m name (Said (Ok (SetBuffers device n))) = replied (do
  x ← there s m device
  set ← ensure (is_buffers_count n) EINVAL
  Ok zero_reply)
reply s m name (Said (Ok (Remask device text))) = replied (do
  x ← known s m device
  remask ← remask_answer (device_of x.station) (Conn name) text
  Ok zero_reply)
reply s m name (Said (Ok (EvOpen device))) = replied (do
  x ← known s m device
  opened ← evopen_answer x.station.kind x.station.site
  Ok zero_reply)
reply s m name (Said (Ok (EvRead device))) = replied (do
  x ← known s m device
  oldest ← evread_answer x.station.kind x.station.site same (Conn name)
  event ← ok_or oldest EAGAIN
  Ok (Raw (event_bytes event)))
reply s m name (Said (Ok (EvClose device))) = replied (do
  x ← known s m device
  closed ← evclose_answer x.station.kind x.station.site same (Conn name)
  Ok zero_reply)
reply s m name (End (Some e)) = Refusal e
reply s m name item = Nothing
