-- What an item is answered over a told state, and the state after it.
use Rattle.std.specs.Prelude.{◌≡◌, ◌==◌, ℕ, pos, Bool, true, false, not, ◌&&◌, nat_le, nat_lt, codes, ⊤, List, [], ◌∷◌, ◌++◌, take, drop, length, slice_get, slice_set, remove, Option, Some, None, is_some, Result, Ok, Err, if◌then◌else◌}
use Rattle.std.specs.Fmt.{decimal}
use Rattle.std.specs.Option.{ok_or}
use Rattle.iio_base.specs.Refusals.{ensure, ◌>>=◌}
use Rattle.iio_text.specs.declared.errors.Errno.{Errno}
use Rattle.iio_text.specs.declared.errors.Errno.TheVariants.{EAGAIN, EBADF, EINVAL, ENODEV, ENOENT, ENOSYS}
use Rattle.iio_attr.specs.declared.attributes.Attr.{Attr}
use Rattle.iio_attr.specs.declared.values.Value.{Value as AttrValue}
use Rattle.iio_desc.specs.Kind.{is_input, is_output}
use Rattle.iio_device.specs.Site.{is_empty}
use Rattle.iio_event.specs.Code.{event_bytes}
use Rattle.iio_event.specs.Monitor.{after_close, after_open, after_read}
use Rattle.iio_device.specs.Site.{with_monitor}
use Rattle.iio_event.specs.declared.event.EventData.{EventData}
use Rattle.iiod_grammar.specs.declared.command.Refused.TheVariants.{Empty}
use Rattle.iiod_grammar.specs.Command.{Place, Help, Version, Print, Timeout, Open, Close, Read, ReadBuf, GetTrig, SetTrig, SetBuffers, Remask, EvOpen, EvRead, EvClose}
use Rattle.iiod_grammar.specs.Stream.{Item, Said, Written, Streamed, End}
use Rattle.iiod_reply.specs.Reply.{Reply, Nothing, Number, Refusal, Line, Value, Raw, Block, NoMemory}
use Rattle.iiod_commands.specs.declared.client.TheConstants.{MAX_BUFFERS}
use Rattle.iiod_commands.specs.Attributes.{Assignment, Named, buffer_number, found, is_of_buffer, text_of_value, write_found}
use Rattle.iio_core.specs.Front.{Front, channel_count, find_device, find_trigger, kind_at, shape_at, size_at, trigger_name}
use Rattle.iio_core.specs.Machine.{Machine, is_plugged, lost_of, queue_of, station_at, with_queue, with_site, with_station}
use Rattle.iio_core.specs.Commands.{evclose_answer, evopen_answer, evread_answer, settrig_answer}
use Rattle.iio_core.specs.Calls.{CallResult, machine_after_close, ev_close_of, open_of, unless, read_attr_of, remask_of, trigger_of, write_attr_of, write_scans_of}
use Rattle.iiod_commands.specs.Client.{Wanted, SeatState, ClientRecord, wanted_of, mask_wanted, buffers_of, seat_state_id, seat_state_remasked, place_of, with_count, with_holding, with_seats, without_holding}
use Rattle.iiod_commands.specs.Reading.{most_scans}

-- an answer, and the state after it
pub record Acted : Type 0 where
  pub reply : Reply
  pub machine : Machine
  pub client : ClientRecord

abbrev pub zero_reply : Reply
zero_reply = Number (pos 0)

abbrev pub help_reply : Reply
help_reply = Line (codes "Commands of libiio 0.25 iiod, profile iiosim0")

abbrev pub version_reply : Reply
version_reply = Line (codes "0.25.iiosim0")

-- an answer that changes nothing
abbrev pub only : Reply → Machine → ClientRecord → Acted
only reply m client = record { reply = reply; machine = m; client = client }

abbrev pub refused : Errno → Machine → ClientRecord → Acted
refused e m client = only (Refusal e) m client

-- ---- OPEN

-- one more seat, if the device accepted the member
abbrev pub opened : ClientRecord → ℕ → Wanted → Machine → Result ℕ Errno → Acted
opened client dev x m (Err e) = refused e m client
opened client dev x m (Ok number) =
    record {
      reply = zero_reply;
      machine = m;
      client =
          with_seats (client.seats ++ record { dev = dev; number = number; mask = x.mask; capacity = x.capacity; discarded = 0 } ∷ []) client;
    }

abbrev pub joined_at : Front → Machine → ClientRecord → ℕ → Wanted → Bool → Acted
joined_at front m client dev x cyclic = let o = open_of front m dev x.mask x.capacity cyclic in opened client dev x o.machine o.answer

abbrev pub open_wanted : Front → Machine → ClientRecord → ℕ → Bool → Result Wanted Errno → Acted
open_wanted front m client dev cyclic (Err e) = refused e m client
open_wanted front m client dev cyclic (Ok x) = joined_at front m client dev x cyclic

abbrev pub open_at : Front → Machine → ClientRecord → ℕ → ℕ → List ℕ → Bool → Acted
open_at front m client dev samples text cyclic =
    open_wanted front m client dev cyclic
    (wanted_of (is_some (place_of dev client.seats)) (is_plugged m dev) (kind_at front dev) (shape_at front dev) (buffers_of dev client.buffers) samples text
    cyclic)

-- ---- CLOSE

abbrev pub close_seat : Front → Machine → ClientRecord → ℕ → Option SeatState → Acted
close_seat front m client i None = refused EBADF m client
close_seat front m client i (Some s) =
    record { reply = zero_reply; machine = machine_after_close front m s.dev s.number; client = with_seats (remove client.seats i) client }

abbrev pub close_at : Front → Machine → ClientRecord → Option ℕ → Acted
close_at front m client None = refused EBADF m client
close_at front m client (Some i) = close_seat front m client i (slice_get client.seats i)

-- ---- REMASK

-- the seat in place i under its new mask
abbrev pub remasked_seat : ClientRecord → ℕ → SeatState → ℕ → Machine → Result ℕ Errno → Acted
remasked_seat client i s mask m (Err e) = refused e m client
remasked_seat client i s mask m (Ok waiting) =
    record { reply = zero_reply; machine = m; client = with_seats (slice_set client.seats i (seat_state_remasked mask waiting s)) client }

-- a REMASK, by what its text asks for
abbrev pub remask_wanted : Front → Machine → ClientRecord → ℕ → SeatState → Result ℕ Errno → Acted
remask_wanted front m client i s (Err e) = refused e m client
remask_wanted front m client i s (Ok mask) =
    let o = remask_of front m s.dev (seat_state_id s) mask s.capacity in remasked_seat client i s mask o.machine o.answer

-- a REMASK at the seat with index i
abbrev pub remask_seat : Front → Machine → ClientRecord → List ℕ → ℕ → Option SeatState → Acted
remask_seat front m client text i None = refused EBADF m client
remask_seat front m client text i (Some s) = remask_wanted front m client i s (mask_wanted (shape_at front s.dev) s.capacity text)

-- a REMASK, by the index of the connection's seat at the device
abbrev pub remask_place : Front → Machine → ClientRecord → List ℕ → Option ℕ → Acted
remask_place front m client text None = refused EBADF m client
remask_place front m client text (Some i) = remask_seat front m client text i (slice_get client.seats i)

-- ---- READBUF

-- the answer to a READBUF by the scans that wait, at most `want`
abbrev pub read_scans_of : Front → Machine → ClientRecord → SeatState → ℕ → ℕ → List (List ℕ) → Acted
read_scans_of front m client s want asked [] = refused (if is_plugged m s.dev then EAGAIN else ENODEV) m client
read_scans_of front m client s want asked (x ∷ xs) = record {
  reply = Block (channel_count front s.dev) s.mask (x ∷ xs) asked;
  machine = with_queue m s.dev (seat_state_id s) (x ∷ xs) (drop want (queue_of m s.dev (seat_state_id s)));
  client = client;
}

-- answered by 0 if less than one scan is asked for
abbrev pub read_at_seat : Front → Machine → ClientRecord → SeatState → ℕ → Acted
read_at_seat front m client s asked =
    if nat_lt asked (size_at front s.dev s.mask) then only zero_reply m client
    else let want = most_scans asked (size_at front s.dev s.mask) s.capacity in
    read_scans_of front m client s want asked (take want (queue_of m s.dev (seat_state_id s)))

abbrev pub read_seat : Front → Machine → ClientRecord → ℕ → Option SeatState → Acted
read_seat front m client asked None = refused EBADF m client
read_seat front m client asked (Some s) = read_at_seat front m client s asked

abbrev pub read_at : Front → Machine → ClientRecord → ℕ → Option ℕ → Acted
read_at front m client asked None = refused EBADF m client
read_at front m client asked (Some i) = read_seat front m client asked (slice_get client.seats i)

-- ---- commands that change no seat

-- an answer by 0, if a call isn't refused; it may alter what the connection has
abbrev pub altered : (ClientRecord → ClientRecord) → ClientRecord → Machine → Result ⊤ Errno → Acted
altered change client m (Ok done) = record { reply = zero_reply; machine = m; client = change client }
altered change client m (Err e) = refused e m client

abbrev pub settled : ClientRecord → CallResult ⊤ → Acted
settled client o = altered (λ d. d) client o.machine o.answer

-- a command that is refused if the device is unplugged
abbrev pub if_plugged : Machine → ClientRecord → ℕ → Acted → Acted
if_plugged m client dev acted = if is_plugged m dev then acted else refused ENODEV m client

-- a REMASK of a device, by its number; if the device is unplugged, it is refused before all else
abbrev pub remask_at : Front → Machine → ClientRecord → List ℕ → ℕ → Acted
remask_at front m client text dev = if_plugged m client dev (remask_place front m client text (place_of dev client.seats))

-- a command that only devices of some kinds know
abbrev pub where_known : Bool → Machine → ClientRecord → ℕ → Acted → Acted
where_known is_known m client dev acted = if is_known then acted else if_plugged m client dev (refused ENOSYS m client)

-- 1 to 64 buffers
abbrev pub is_buffers_count : ℕ → Bool
is_buffers_count n = nat_le 1 n && nat_le n MAX_BUFFERS

-- READBUF of a device: an output device can't be read
abbrev pub read_buffer_at : Front → Machine → ClientRecord → ℕ → ℕ → Acted
read_buffer_at front m client asked dev =
    where_known (not (is_output (kind_at front dev))) m client dev (read_at front m client asked (place_of dev client.seats))

-- SET
abbrev pub set_buffers_at : Machine → ClientRecord → ℕ → ℕ → Acted
set_buffers_at m client n dev = if_plugged m client dev (altered (with_count dev n) client m (ensure (is_buffers_count n) EINVAL))

-- GETTRIG
abbrev pub trigger_reply : Front → Option ℕ → Reply
trigger_reply front None = zero_reply
trigger_reply front (Some t) = Value (trigger_name front t)

abbrev pub get_trigger_at : Front → Machine → ClientRecord → ℕ → Acted
get_trigger_at front m client dev = if_plugged m client dev (only (trigger_reply front (trigger_of front m dev)) m client)

-- SETTRIG
abbrev pub trigger_named : Front → Option (List ℕ) → Result (Option ℕ) Errno
trigger_named front None = Ok None
trigger_named front (Some name) = do
  t ← ok_or (find_trigger front name) ENOENT
  Ok (Some t)

abbrev pub retriggered : Machine → ClientRecord → ℕ → Result (Option ℕ) Errno → Acted
retriggered m client dev (Ok trigger) = only zero_reply (with_station (with_site (λ site. record site { trigger = trigger })) dev m) client
retriggered m client dev (Err e) = refused e m client

abbrev pub set_trigger_at : Front → Machine → ClientRecord → Option (List ℕ) → ℕ → Acted
set_trigger_at front m client name dev =
    retriggered m client dev
    (settrig_answer (kind_at front dev) (is_plugged m dev) (is_empty (station_at m dev).members) (trigger_named front name))

-- WRITEBUF is answered by the number of bytes that were taken
abbrev pub written_scans : ClientRecord → Machine → Result ℕ Errno → Acted
written_scans client m (Ok taken) = only (Number (pos taken)) m client
written_scans client m (Err e) = refused e m client

abbrev pub write_at_seat : Front → Machine → ClientRecord → List ℕ → Option SeatState → Acted
write_at_seat front m client payload None = refused EBADF m client
write_at_seat front m client payload (Some s) = let o = write_scans_of front m s.dev (seat_state_id s) payload in written_scans client o.machine o.answer

abbrev pub write_at_place : Front → Machine → ClientRecord → List ℕ → Option ℕ → Acted
write_at_place front m client payload None = refused EBADF m client
write_at_place front m client payload (Some i) = write_at_seat front m client payload (slice_get client.seats i)

abbrev pub write_buffer_at : Front → Machine → ClientRecord → List ℕ → ℕ → Acted
write_buffer_at front m client payload dev =
    if_plugged m client dev (if is_output (kind_at front dev) then write_at_place front m client payload (place_of dev client.seats)
    else refused ENOSYS m client)

-- EVOPEN, EVREAD and EVCLOSE, at a device of any kind
abbrev pub ev_open_at : Front → Machine → ClientRecord → ℕ → Acted
ev_open_at front m client dev =
    let o = unless (with_site (with_monitor (after_open client.who))) dev m (evopen_answer (kind_at front dev) (station_at m dev).site) in
    altered (with_holding dev) client o.machine o.answer

abbrev pub event_reply : Result (Option EventData) Errno → Reply
event_reply (Ok None) = Refusal EAGAIN
event_reply (Ok (Some event)) = Raw (event_bytes event)
event_reply (Err e) = Refusal e

abbrev pub ev_read_at : Front → Machine → ClientRecord → ℕ → Acted
ev_read_at front m client dev =
    let o = unless (with_site (with_monitor (after_read (λ a b. a == b) client.who))) dev m
    (evread_answer (kind_at front dev) (station_at m dev).site (λ a b. a == b) client.who) in
    record { reply = event_reply o.answer; machine = o.machine; client = client }

abbrev pub ev_close_at : Front → Machine → ClientRecord → ℕ → Acted
ev_close_at front m client dev =
    let o = unless (with_site (with_monitor (after_close (λ a b. a == b) client.who))) dev m
    (evclose_answer (kind_at front dev) (station_at m dev).site (λ a b. a == b) client.who) in
    altered (without_holding dev) client o.machine o.answer

-- REMASK, which only input devices know, at a device of any kind
abbrev pub remask_known : Front → Machine → ClientRecord → List ℕ → ℕ → Acted
remask_known front m client text dev = where_known (is_input (kind_at front dev)) m client dev (remask_at front m client text dev)

-- ---- READ and WRITE

-- a buffer's attribute
abbrev pub buffer_text : Machine → Attr → SeatState → List ℕ
buffer_text m a s = decimal (buffer_number a s.capacity (length (queue_of m s.dev (seat_state_id s))) (lost_of m s.dev (seat_state_id s)) s.discarded)

abbrev pub read_buffer_attribute : Machine → ClientRecord → Attr → Option SeatState → Acted
read_buffer_attribute m client a None = refused EBADF m client
read_buffer_attribute m client a (Some s) = only (Value (buffer_text m a s)) m client

-- the attribute of a buffer of the connection, by the index of the seat
abbrev pub read_buffer_attribute_at : Machine → ClientRecord → Attr → Option ℕ → Acted
read_buffer_attribute_at m client a None = refused EBADF m client
read_buffer_attribute_at m client a (Some i) = read_buffer_attribute m client a (slice_get client.seats i)

-- an attribute of the device, or of a channel
abbrev pub value_reply : Result AttrValue Errno → Reply
value_reply (Ok v) = Value (text_of_value v)
value_reply (Err e) = Refusal e

abbrev pub read_device_attribute : Front → Machine → ClientRecord → ℕ → Named → Acted
read_device_attribute front m client dev target =
    let o = read_attr_of front m dev target.channel target.attribute in record { reply = value_reply o.answer; machine = o.machine; client = client }

abbrev pub read_named : Front → Machine → ClientRecord → ℕ → (of_buffer : Bool) → Result Named Errno → Acted
read_named front m client dev of_buffer (Err e) = refused e m client
read_named front m client dev true (Ok target) = read_buffer_attribute_at m client target.attribute (place_of dev client.seats)
read_named front m client dev false (Ok target) = read_device_attribute front m client dev target

abbrev pub read_attribute_at : Front → Machine → ClientRecord → Place → Option (List ℕ) → ℕ → Acted
read_attribute_at front m client place name dev =
    read_named front m client dev (is_of_buffer place name)
    (found (kind_at front dev) (shape_at front dev) (is_plugged m dev) (is_some (place_of dev client.seats)) place name)

-- a WRITE is answered by the number of the payload's bytes
abbrev pub written : ClientRecord → (count : ℕ) → Machine → Result ⊤ Errno → Acted
written client count m (Ok done) = only (Number (pos count)) m client
written client count m (Err e) = refused e m client

abbrev pub write_assignment : Machine → ClientRecord → ℕ → (count : ℕ) → Result Assignment Errno → Acted
write_assignment m client dev count (Err e) = refused e m client
write_assignment m client dev count (Ok x) = let o = write_attr_of m dev x.target.channel x.target.attribute x.value in written client count o.machine o.answer

abbrev pub write_attribute_at : Front → Machine → ClientRecord → Place → Option (List ℕ) → (payload : List ℕ) → ℕ → Acted
write_attribute_at front m client place name payload dev =
    write_assignment m client dev (length payload)
    (write_found (kind_at front dev) (shape_at front dev) (is_plugged m dev) (is_some (place_of dev client.seats)) place name payload)

-- ---- the end of a connection

-- the state after all seats are closed and all holdings of events have ended, the last one first
abbrev pub all_closed : Front → Machine → List SeatState → Machine
all_closed front m [] = m
all_closed front m (s ∷ ss) = machine_after_close front (all_closed front m ss) s.dev s.number

abbrev pub all_released : Machine → ℕ → List ℕ → Machine
all_released m who [] = m
all_released m who (dev ∷ devs) = (ev_close_of (all_released m who devs) dev who).machine

abbrev pub left_machine : Front → Machine → ClientRecord → Machine
left_machine front m client = all_released (all_closed front m client.seats) client.who client.holdings

abbrev pub left_client : ClientRecord → ClientRecord
left_client client = record client { seats = []; holdings = [] }

-- the reply to the end of a stream, which closes every seat and ends every holding: a broken limit's error, nothing to EXIT
abbrev pub end_reply : Option Errno → Reply
end_reply None = Nothing
end_reply (Some e) = Refusal e

abbrev pub ended : Front → Machine → ClientRecord → Option Errno → Acted
ended front m client error = record { reply = end_reply error; machine = left_machine front m client; client = left_client client }

-- ---- items

-- a command that names a device
abbrev pub at_device : Machine → ClientRecord → (ℕ → Acted) → Option ℕ → Acted
at_device m client on None = refused ENODEV m client
at_device m client on (Some dev) = on dev

-- what an item is answered, and the state after it
unfoldable pub act : Front → Machine → ClientRecord → Item → Acted
act front m client (Said (Ok (Open device samples text cyclic))) =
    at_device m client (λ dev. open_at front m client dev samples text cyclic) (find_device front device)
act front m client (Said (Ok (Close device))) = at_device m client (λ dev. close_at front m client (place_of dev client.seats)) (find_device front device)
act front m client (Said (Ok (ReadBuf device asked))) = at_device m client (read_buffer_at front m client asked) (find_device front device)
act front m client (Said (Ok Help)) = only help_reply m client
act front m client (Said (Ok Version)) = only version_reply m client
act front m client (Said (Ok Print)) = only (Value front.context) m client
act front m client (Said (Ok (Timeout milliseconds))) = only zero_reply m client
act front m client (Said (Ok (Read device place name))) = at_device m client (λ dev. read_attribute_at front m client place name dev) (find_device front device)
act front m client (Written device None payload) = refused EINVAL m client
act front m client (Written device (Some target) payload) =
    at_device m client (λ dev. write_attribute_at front m client target.0 target.1 payload dev) (find_device front device)
act front m client (Streamed device payload) = at_device m client (write_buffer_at front m client payload) (find_device front device)
act front m client (Said (Ok (GetTrig device))) = at_device m client (get_trigger_at front m client) (find_device front device)
act front m client (Said (Ok (SetTrig device name))) = at_device m client (set_trigger_at front m client name) (find_device front device)
act front m client (Said (Ok (SetBuffers device n))) = at_device m client (set_buffers_at m client n) (find_device front device)
act front m client (Said (Ok (Remask device text))) = at_device m client (remask_known front m client text) (find_device front device)
act front m client (Said (Ok (EvOpen device))) = at_device m client (ev_open_at front m client) (find_device front device)
act front m client (Said (Ok (EvRead device))) = at_device m client (ev_read_at front m client) (find_device front device)
act front m client (Said (Ok (EvClose device))) = at_device m client (ev_close_at front m client) (find_device front device)
act front m client (Said (Err Empty)) = only Nothing m client
act front m client (Said (Err why)) = refused EINVAL m client
act front m client (End error) = ended front m client error
act front m client item = only Nothing m client

-- ... or memory ran out, which changes nothing
abbrev pub Acts : Front → Machine → ClientRecord → Item → Reply → Option Machine → ClientRecord → Type 0
Acts front m client item NoMemory told client' = (told ≡ Some m) × (client' ≡ client)
Acts front m client item reply told client' =
    (n : Machine) × (told ≡ Some n) × (act front m client item ≡ record { reply = reply; machine = n; client = client' })
