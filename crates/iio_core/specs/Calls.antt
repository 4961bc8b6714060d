-- What the calls of an `Iio` answer in a told state, and the state afterwards.
use Rattle.std.specs.Prelude.{ℕ, ℤ, ◌+◌, ◌-◌, ◌*◌, ◌^◌, ◌==◌, ◌&&◌, ◌||◌, not, Bool, true, false, ⊤, List, [], ◌∷◌, ◌++◌, map, filter, length, Option, Some, None, is_none, unwrap_or, slice_get, slice_index_or, pos, Result, Ok, Err, if◌then◌else◌, option_map}
use Rattle.std.specs.Option.{option_map_or}
use Rattle.iio_base.specs.Refusals.{ensure, ◌>>=◌, first_refusal, unless_refused}
use Rattle.iio_text.specs.declared.errors.Errno.{Errno}
use Rattle.iio_text.specs.declared.errors.Errno.TheVariants.{EAGAIN, EBADF, EBUSY, EINVAL, EIO, ENODEV}
use Rattle.iio_text.specs.declared.values.Fixed.{Fixed}
use Rattle.iio_attr.specs.declared.attributes.Attr.{Attr}
use Rattle.iio_attr.specs.declared.attributes.Attr.TheVariants as attr
use Rattle.iio_attr.specs.declared.values.Value.{Value}
use Rattle.iio_attr.specs.declared.values.Value.TheVariants.{Int}
use Rattle.iio_desc.specs.Kind.{Kind, Output, Average, is_input, is_output, is_over}
use Rattle.iio_derive.specs.Window.{Window, no_window, full_mask}
use Rattle.std.specs.List.{list_any}
use Rattle.iio_device.specs.declared.totals.Totals.{Totals}
use Rattle.iio_core.specs.Lists.{map_from}
use Rattle.iio_layout.specs.Shape.{ShapeRecord}
use Rattle.iio_output.specs.Written.{is_bad_size, is_full as is_full_of, is_standing, scans_of, taken_of}
use Rattle.iio_sensor.specs.Driver.{value_of, ask_fails}
use Rattle.iio_event.specs.declared.event.EventData.{EventData}
use Rattle.iio_event.specs.Monitor.{is_holder, after_open, after_read, after_close}
use Rattle.iio_device.specs.Active.{is_without_union}
use Rattle.iio_device.specs.Site.{is_empty, attached, sampled, site_written, with_monitor}
use Rattle.iio_device.specs.Stored.{attr_value}
use Rattle.iio_device.specs.Totals.{with_left, with_lost}
use Rattle.iio_core.specs.Attached.{has_no_place}
use Rattle.iio_core.specs.Front.{Front, kind_at, shape_at, size_at, device_name}
use Rattle.iio_core.specs.Machine.{Member, MemberId, Station, Machine, attachments_of, queue_of, station_at, with_station, with_site, lost_by, masks_of, member_in, is_id_of, is_seat_of, without}
use Rattle.iio_core.specs.Opening.{Host, host_by, inner_host, join_refusals, own_host}

-- an answer, and the state afterwards
pub record CallResult (A : Type 0) : Type 0 where
  pub answer : Result A Errno
  pub machine : Machine

module _ {A : Type 0} where
  -- a call that changes one device, unless it is refused
  abbrev pub unless : (Station → Station) → ℕ → Machine → Result A Errno → CallResult A
  unless change dev m (Ok x) = record { answer = Ok x; machine = with_station change dev m }
  unless change dev m (Err e) = record { answer = Err e; machine = m }

-- a call that changes the state, unless it is refused
abbrev pub unless_made : {A : Type 0} → (Machine → Machine) → Machine → Result A Errno → CallResult A
unless_made change m (Ok x) = record { answer = Ok x; machine = change m }
unless_made change m (Err e) = record { answer = Err e; machine = m }

-- ---- members

-- where a new member of a device of that kind needs its place
abbrev pub host_of : Front → List Station → Kind → Station → ShapeRecord → ℕ → Host Station
host_of front stations kind st shape mask =
    host_by kind (own_host st shape mask (masks_of st.members))
    (λ base. option_map (λ (b : Station). inner_host (is_empty st.members) b (shape_at front base)) (slice_get stations base))

-- whether a device's member numbers have run out
abbrev pub has_no_number : Station → Bool
has_no_number st = st.next == 2 ^ 64 - 1

-- whether there is no place for another member: the first one needs a place at the trigger, and the numbers have an end
abbrev pub is_full : Front → List Station → Host Station → Station → Bool
is_full front stations host st =
    host.joins && is_empty host.device.members && has_no_place front (attachments_of stations) host.device.site.trigger || has_no_number st
    || host.joins && has_no_number host.device

-- why a member of that mask can't join, in this order; an output device has one writer
abbrev pub open_refusals : Front → List Station → Kind → Host Station → Station → List (Bool × Errno)
open_refusals front stations kind host st =
    (not st.site.plugged, ENODEV)
    ∷ (is_output kind && not (is_empty st.members), EBUSY)
    ∷ join_refusals (is_none host.device.site.trigger) (host.joins && is_without_union host.shape host.beside host.mask) (is_full front stations host st)

abbrev pub newcomer : ℕ → ℕ → Bool → Option ℕ → Station → Member
newcomer mask capacity cyclic inner st = record { number = st.next; mask = mask; capacity = capacity; scans = []; lost = 0; cyclic = cyclic; inner = inner }

-- a device after a joining: that of the first member is a new attachment
abbrev pub station_after_join : ℕ → ℕ → Bool → Option ℕ → Station → Station
station_after_join mask capacity cyclic inner st =
    record st { next = st.next + 1; members = st.members ++ newcomer mask capacity cyclic inner st ∷ []; site = attached (is_empty st.members) st.site }

-- whether a member is the inner one of averaging device j
abbrev pub is_inner_of : ℕ → Member → Bool
is_inner_of j x = option_map_or (λ i. i == j) x.inner false

-- the base with the inner member of averaging device j, which is added if there is none yet
abbrev pub inner_joined : ℕ → ShapeRecord → Station → Station
inner_joined j shape b = if list_any (is_inner_of j) b.members then b else station_after_join (full_mask shape) 1 false (Some j) b

-- device k after a member has joined averaging device j, which may be over it
abbrev pub with_inner : Front → ℕ → ℕ → Station → Station
with_inner front j k st = if is_over (kind_at front j) k && is_input (kind_at front k) then inner_joined j (shape_at front k) st else st

-- the devices after a joining of device `dev`
abbrev pub all_joined : Front → ℕ → (Station → Station) → Machine → Machine
all_joined front dev change m = record m { stations = map_from (λ k st. if dev == k then change st else with_inner front dev k st) 0 m.stations }

-- `open`, and `open_out` of an output device: the new member's number
unfoldable pub open_of : Front → Machine → ℕ → (mask capacity : ℕ) → (cyclic : Bool) → CallResult ℕ
open_of front m dev mask capacity cyclic =
    unless_made (all_joined front dev (station_after_join mask capacity cyclic None)) m
    (unless_refused (station_at m dev).next (first_refusal (open_refusals front m.stations (kind_at front dev)
    (host_of front m.stations (kind_at front dev) (station_at m dev) (shape_at front dev) mask) (station_at m dev))))

-- when the last member leaves, no captures count towards the next mean any more
abbrev pub window_left : (before after : List Member) → Window → Window
window_left before after w = if not (is_empty before) && is_empty after then no_window else w

-- a device without the member of that number; what it lost is counted
abbrev pub station_after_leave : ℕ → Station → Station
station_after_leave number st =
    record st {
      totals = with_left (lost_by number st.members) st.totals;
      members = without number st.members;
      window =
          window_left st.members (without number st.members) st.window;
    }

-- the base without the inner members of averaging device j; what they lost is counted
abbrev pub with_inner_lost : ℕ → List Member → Totals → Totals
with_inner_lost j [] t = t
with_inner_lost j (x ∷ xs) t = with_inner_lost j xs (if is_inner_of j x then with_lost x.lost t else t)

abbrev pub inner_gone : ℕ → Station → Station
inner_gone j b = let members = filter (λ (x : Member). not (is_inner_of j x)) b.members in
    record b { totals = with_inner_lost j b.members b.totals; members = members; window = window_left b.members members b.window }

-- device k without the inner member of averaging device j, if that is over it and has no member
abbrev pub without_inner : Front → Machine → ℕ → ℕ → Station → Station
without_inner front m j k st = if is_over (kind_at front j) k && is_input (kind_at front k) && is_empty (station_at m j).members then inner_gone j st else st

abbrev pub inner_left : Front → ℕ → Machine → Machine
inner_left front dev m = record m { stations = map_from (without_inner front m dev) 0 m.stations }

-- `close`
unfoldable pub machine_after_close : Front → Machine → ℕ → ℕ → Machine
machine_after_close front m dev number = inner_left front dev (with_station (station_after_leave number) dev m)

-- why a member can't get another mask, in this order; the others keep their masks
abbrev pub remask_refusals : ShapeRecord → Station → MemberId → ℕ → List (Bool × Errno)
remask_refusals shape st id mask =
    (not st.site.plugged, ENODEV)
    ∷ (is_none (member_in id st.members), EBADF)
    ∷ (is_without_union shape (masks_of (without id.number st.members)) mask, EINVAL)
    ∷ []

-- the member of that number with another mask: it begins anew, with a queue for `capacity` scans, and the others stay
abbrev pub with_mask : (number mask capacity : ℕ) → Member → Member
with_mask number mask capacity x = if is_seat_of number x then record x { mask = mask; capacity = capacity; scans = []; lost = 0 } else x

-- a device with that member; what its old queue lost is counted
abbrev pub station_after_remask : (number mask capacity : ℕ) → Station → Station
station_after_remask number mask capacity st =
    record st { totals = with_left (lost_by number st.members) st.totals; members = map (with_mask number mask capacity) st.members }

-- `remask`: the answer is how many scans waited
unfoldable pub remask_of : Front → Machine → ℕ → MemberId → (mask capacity : ℕ) → CallResult ℕ
remask_of front m dev id mask capacity =
    unless (station_after_remask id.number mask capacity) dev m
    (unless_refused (length (queue_of m dev id)) (first_refusal (remask_refusals (shape_at front dev) (station_at m dev) id mask)))

-- ---- scans that are written

-- a member that writes these scans
abbrev pub writes : MemberId → List (List ℕ) → Member → Member
writes id scans x = if is_id_of id x then record x { scans = x.scans ++ taken_of x.cyclic x.capacity x.scans scans } else x

-- why a payload isn't taken, in this order
abbrev pub write_refusals : Member → (size : ℕ) → List ℕ → List (Bool × Errno)
write_refusals x size bytes =
    (is_bad_size x.cyclic x.capacity size (length bytes), EINVAL)
    ∷ (is_standing x.cyclic x.scans, EBUSY)
    ∷ (is_full_of x.cyclic x.capacity x.scans (scans_of size bytes), EAGAIN)
    ∷ []

-- how many bytes of the payload are taken
abbrev pub bytes_taken : Member → (size : ℕ) → List ℕ → ℕ
bytes_taken x size bytes = size * length (taken_of x.cyclic x.capacity x.scans (scans_of size bytes))

-- stands for a member that isn't there
abbrev pub no_member : Member
no_member = record { number = 0; mask = 0; capacity = 0; scans = []; lost = 0; cyclic = false; inner = None }

abbrev pub write_scans_at : Station → MemberId → (size : ℕ) → List ℕ → Result ℕ Errno
write_scans_at st id size bytes = do
  plugged ← ensure st.site.plugged ENODEV
  unless_refused (bytes_taken (unwrap_or (member_in id st.members) no_member) size bytes)
      (first_refusal (write_refusals (unwrap_or (member_in id st.members) no_member) size bytes))

-- `write_scans`: the answer is the number of bytes that are taken
unfoldable pub write_scans_of : Front → Machine → ℕ → MemberId → List ℕ → CallResult ℕ
write_scans_of front m dev id bytes =
    unless (λ st. record st { members = map (writes id (scans_of (size_at front dev id.mask) bytes)) st.members }) dev m
    (write_scans_at (station_at m dev) id (size_at front dev id.mask) bytes)

-- ---- attributes

abbrev pub is_raw : Option ℕ → Attr → Bool
is_raw (Some c) attr.Raw = true
is_raw channel a = false

-- `raw` of an input device: the sensor is asked if the device has no member
abbrev pub raw_answer : ShapeRecord → ℤ → ℕ → Station → Result Value Errno
raw_answer shape clock c st = do
  free ← ensure (is_empty st.members) EBUSY
  answered ← ensure (not (ask_fails st.site.driver)) EIO
  Ok (Int (value_of st.site.driver shape clock c 0))

-- `raw` at a device of that kind; of an output device it is the value that was given last
abbrev pub raw_by : Kind → ShapeRecord → ℤ → ℕ → Station → Result Value Errno
raw_by Output shape clock c st = Ok (Int (slice_index_or st.last c (pos 0)))
raw_by kind shape clock c st = raw_answer shape clock c st

abbrev pub attr_answer : (name : List ℕ) → Kind → ShapeRecord → ℤ → Option ℕ → Attr → Station → Result Value Errno
attr_answer name kind shape clock (Some c) attr.Raw st = raw_by kind shape clock c st
attr_answer name kind shape clock channel a st = Ok (attr_value name channel a st.site)

abbrev pub read_answer : (name : List ℕ) → Kind → ShapeRecord → ℤ → Option ℕ → Attr → Station → Result Value Errno
read_answer name kind shape clock channel a st = do
  plugged ← ensure st.site.plugged ENODEV
  attr_answer name kind shape clock channel a st

-- whether a read asks the sensor
abbrev pub is_asking : Kind → Option ℕ → Attr → Station → Bool
is_asking kind channel a st = is_raw channel a && st.site.plugged && is_empty st.members && is_input kind

-- `read_attr`: an ask of the sensor counts even if it fails
unfoldable pub read_attr_of : Front → Machine → ℕ → Option ℕ → Attr → CallResult Value
read_attr_of front m dev channel a = record {
  answer = read_answer (device_name front dev) (kind_at front dev) (shape_at front dev) m.clock channel a (station_at m dev);
  machine = if is_asking (kind_at front dev) channel a (station_at m dev) then with_station (with_site sampled) dev m else m;
}

-- `write_attr`
unfoldable pub write_attr_of : Machine → ℕ → Option ℕ → Attr → Fixed → CallResult ⊤
write_attr_of m dev channel a v = unless (with_site (site_written channel a v)) dev m (ensure (station_at m dev).site.plugged ENODEV)

-- ---- triggers

-- the trigger of a device; that of an averaging device is its base's
abbrev pub trigger_by : Kind → Machine → ℕ → Option ℕ
trigger_by (Average base window) m dev = (station_at m base).site.trigger
trigger_by kind m dev = (station_at m dev).site.trigger

unfoldable pub trigger_of : Front → Machine → ℕ → Option ℕ
trigger_of front m dev = trigger_by (kind_at front dev) m dev

abbrev pub trigger_answer : Station → Result ⊤ Errno
trigger_answer st = do
  plugged ← ensure st.site.plugged ENODEV
  ensure (is_empty st.members) EBUSY

-- `set_trigger`
unfoldable pub set_trigger_of : Machine → ℕ → Option ℕ → CallResult ⊤
set_trigger_of m dev trigger = unless (with_site (λ site. record site { trigger = trigger })) dev m (trigger_answer (station_at m dev))

-- ---- events. A holder is identified by the number of its connection

abbrev pub holds_events : ℕ → Station → Bool
holds_events who st = is_holder (λ a b. a == b) who st.site.monitor

abbrev pub ev_open_answer : Station → Result ⊤ Errno
ev_open_answer st = do
  plugged ← ensure st.site.plugged ENODEV
  ensure (is_none st.site.monitor.holder) EBUSY

-- `ev_open`
unfoldable pub ev_open_of : Machine → ℕ → ℕ → CallResult ⊤
ev_open_of m dev who = unless (with_site (with_monitor (after_open who))) dev m (ev_open_answer (station_at m dev))

abbrev pub ev_read_answer : ℕ → Station → Result (Option EventData) Errno
ev_read_answer who st = do
  plugged ← ensure st.site.plugged ENODEV
  holder ← ensure (holds_events who st) EBADF
  Ok (slice_get st.site.monitor.events 0)

-- `ev_read`: the answer is the oldest event, if there is one
unfoldable pub ev_read_of : Machine → ℕ → ℕ → CallResult (Option EventData)
ev_read_of m dev who = unless (with_site (with_monitor (after_read (λ a b. a == b) who))) dev m (ev_read_answer who (station_at m dev))

-- `ev_close`: it ends a holding even if the device is unplugged
unfoldable pub ev_close_of : Machine → ℕ → ℕ → CallResult ⊤
ev_close_of m dev who =
    unless (with_site (with_monitor (after_close (λ a b. a == b) who))) dev m (ensure (holds_events who (station_at m dev)) EBADF)
