-- What a poll, the handling of a trigger's entry, a look at the thresholds and an unplugging make of the state, and how they
-- are answered. (Kernel, driver-api/iio: a device is asked once for all of its buffers, and each gets the channels of its own
-- mask; an output device is given what its buffer has next. What a full queue and an empty one do, and that an entry of an
-- earlier attachment does nothing, are this project's own.)
use Rattle.std.specs.Prelude.{ℕ, ◌+◌, ◌==◌, not, Bool, ℤ, nat_lt, List, [], ◌∷◌, ◌++◌, map, length, drop, Option, Some, None, option_map, if◌then◌else◌}
use Rattle.iio_layout.specs.Scan.{scan_of}
use Rattle.iio_layout.specs.Shape.{ShapeRecord}
use Rattle.iio_trigger.specs.declared.Polled.{Polled}
use Rattle.iio_trigger.specs.Trigger.{Handed}
use Rattle.iio_sensor.specs.Driver.{ask_fails, values_of}
use Rattle.iio_desc.specs.Kind.{Kind, Input, Output, Average, is_unplugged_by}
use Rattle.iio_derive.specs.Window.{is_filled_by, means_of, no_window, sums_with, window_with}
use Rattle.iio_output.specs.Last.{GivenScan, last_with}
use Rattle.iio_output.specs.Written.{after_given, underruns_after}
use Rattle.iio_device.specs.declared.handling.Handled.{Handled as Asking}
use Rattle.iio_device.specs.declared.handling.Handled.TheVariants as asked
use Rattle.iio_device.specs.declared.handling.Sensed.{Sensed}
use Rattle.iio_device.specs.declared.handling.Sensed.TheVariants as sense
use Rattle.iio_device.specs.Active.{active_for}
use Rattle.iio_device.specs.Sensing.{sensed, with_sensed}
use Rattle.iio_device.specs.Site.{at_place, captured, is_current, is_empty, unplugged}
use Rattle.iio_core.specs.declared.became.Became.{Became}
use Rattle.iio_core.specs.declared.became.Became.TheVariants.{Asked, Gave}
use Rattle.iio_core.specs.declared.became.Gave.{Gave as Giving}
use Rattle.iio_core.specs.declared.became.Gave.TheVariants as gave
use Rattle.iio_core.specs.Attached.{entries_from}
use Rattle.iio_core.specs.Front.{Front, kind_at, shape_at}
use Rattle.iio_core.specs.Lists.{map_from}
use Rattle.iio_core.specs.Trigger.{Trigger, entries_at, entry_of, trigger_after_handling, missed_at, poll_answer, trigger_after_poll}
use Rattle.iio_core.specs.Machine.{Machine, Member, Station, attachments_of, masks_of, station_at, with_site, with_station}

-- one accepted trigger event of a device: its moment, and the value of every element of every channel, in order
pub record Capture : Type 0 where
  pub moment : ℤ
  pub values : List ℤ

-- whether an entry is current: if so, the sensor is asked, or the device is given its next scan
abbrev pub is_due : Handed → Station → Bool
is_due e st = is_current e.attachment st.site.attachment st.members st.site.plugged

-- ---- input devices

-- an inner member takes what it is offered at once
abbrev pub emptied_of : Option ℕ → List (List ℕ) → List (List ℕ)
emptied_of None scans = scans
emptied_of (Some device) scans = drop 1 scans

-- a capture is offered to a member, laid out under its own mask; if the queue is full it stays as it is, and the scan is lost
-- and counted
abbrev pub offered_to : ShapeRecord → Capture → Member → Member
offered_to shape c x =
    if nat_lt (length x.scans) x.capacity then record x { scans = emptied_of x.inner (x.scans ++ scan_of shape x.mask c.values c.moment ∷ []) }
    else record x { scans = emptied_of x.inner x.scans; lost = x.lost + 1 }

-- the sensor is asked once, under the active mask
abbrev pub asked_once : ShapeRecord → ℤ → Station → Station
asked_once shape moment st = with_site (captured moment (active_for shape (masks_of st.members))) st

-- the answer to a handling
abbrev pub handled_answer : Handed → Station → Asking
handled_answer e st =
    if not (is_due e st) then asked.Idle
    else if ask_fails st.site.driver then asked.Fault
    else asked.Captured (length st.members)

-- ---- output devices

-- what an output device would be given next, under the mask of its one member
abbrev pub next_scan : ℕ → List (List ℕ) → Option GivenScan
next_scan mask [] = None
next_scan mask (scan ∷ scans) = Some (record { mask = mask; bytes = scan })

abbrev pub next_of : List Member → Option GivenScan
next_of [] = None
next_of (x ∷ xs) = next_scan x.mask x.scans

abbrev pub gives : Member → Member
gives x = record x { scans = after_given x.cyclic x.scans; lost = underruns_after x.scans x.lost }

-- an output device after it was to be given a scan
abbrev pub station_after_giving : ShapeRecord → Station → Station
station_after_giving shape st = record st { members = map gives st.members; last = last_with shape (next_of st.members) st.last }

abbrev pub gave_by : Option GivenScan → Giving
gave_by None = gave.Underrun
gave_by (Some scan) = gave.Given

-- the answer to a handling
abbrev pub gave_answer : Handed → Station → Giving
gave_answer e st = if is_due e st then gave_by (next_of st.members) else gave.Idle

-- ---- the device whose entry is handled

-- the device after the handling of an entry that is current
abbrev pub station_after_capture : Kind → ShapeRecord → ℤ → Station → Station
station_after_capture Output shape moment st = station_after_giving shape st
station_after_capture (Average base window) shape moment st = st
station_after_capture Input shape moment st =
    if ask_fails st.site.driver then asked_once shape moment st
    else (
    let c : Capture = record { moment = moment; values = values_of st.site.driver shape moment } in
    record (asked_once shape moment st) { captures = st.captures + 1; members = map (offered_to shape c) st.members; window = no_window })

-- the device after the handling of the entry that it has, if any; one that isn't current changes nothing
abbrev pub station_after_entry : Kind → ShapeRecord → Option Handed → Station → Station
station_after_entry kind shape None st = st
station_after_entry kind shape (Some e) st = if is_due e st then station_after_capture kind shape e.t st else st

-- the answer to a handling at a device of a kind; an averaging device has no entries
abbrev pub kind_answer : Kind → Handed → Station → Became
kind_answer Output e st = Gave (gave_answer e st)
kind_answer Input e st = Asked (handled_answer e st)
kind_answer (Average base window) e st = Asked asked.Idle

abbrev pub entry_answer : Kind → Option Handed → Station → Option Became
entry_answer kind o st = option_map (λ (e : Handed). kind_answer kind e st) o

-- the capture that the handling makes
abbrev pub current_capture : Kind → ShapeRecord → ℤ → Station → Option Capture
current_capture Input shape moment st =
    if ask_fails st.site.driver then None else Some (record { moment = moment; values = values_of st.site.driver shape moment })
current_capture kind shape moment st = None

abbrev pub capture_in : Kind → ShapeRecord → Option Handed → Station → Option Capture
capture_in kind shape None st = None
capture_in kind shape (Some e) st = if is_due e st then current_capture kind shape e.t st else None

-- ---- averaging devices

-- an averaging device that made this mean; and one after a capture of its base: the last of `size` captures makes a mean
abbrev pub station_after_mean : ShapeRecord → Capture → Station → Station
station_after_mean shape c st = record st { captures = st.captures + 1; members = map (offered_to shape c) st.members; window = no_window }

abbrev pub station_after_gathering : (size : ℕ) → ShapeRecord → Option Capture → Station → Station
station_after_gathering size shape None st = st
station_after_gathering size shape (Some c) st =
    if is_empty st.members then st
    else if is_filled_by size st.window then station_after_mean shape (record { moment = c.moment; values = means_of size (sums_with st.window c.values) }) st
    else record st { window = window_with st.window c.values }

-- ---- all devices, once the entry of device `dev` was handled

-- device j after that, if the handling made that capture, if any
abbrev pub entry_at : Option Handed → Option Capture → (dev : ℕ) → Kind → ShapeRecord → (j : ℕ) → Station → Station
entry_at o c dev (Average base window) shape j st = if dev == base then station_after_gathering window shape c st else st
entry_at o c dev kind shape j st = if dev == j then station_after_entry kind shape o st else st

abbrev pub capture_at : Front → Option Handed → (dev : ℕ) → Machine → Option Capture
capture_at front o dev m = capture_in (kind_at front dev) (shape_at front dev) o (station_at m dev)

abbrev pub machine_after_entry : Front → Option Handed → (dev : ℕ) → Machine → Machine
machine_after_entry front o dev m =
    record m { stations = map_from (λ j st. entry_at o (capture_at front o dev m) dev (kind_at front j) (shape_at front j) j st) 0 m.stations }

-- ---- triggers

abbrev pub with_trigger : (Trigger → Trigger) → (trigger : ℕ) → Machine → Machine
with_trigger change trigger m = record m { triggers = at_place trigger change m.triggers }

abbrev pub machine_after_poll : (trigger : ℕ) → ℤ → Machine → Machine
machine_after_poll trigger moment m = with_trigger (trigger_after_poll (attachments_of m.stations) trigger moment) trigger m

-- the answer to a poll
abbrev pub polled_answer : (trigger : ℕ) → ℤ → Machine → Polled
polled_answer trigger moment m =
    poll_answer (entries_from 0 trigger moment (attachments_of m.stations)) (entries_at m.triggers trigger) (missed_at m.triggers trigger)

-- the entry that a device has at a trigger, if any
abbrev pub entry_in : (trigger dev : ℕ) → Machine → Option Handed
entry_in trigger dev m = entry_of dev (entries_at m.triggers trigger)

-- the state without the entry that a device had at a trigger, which was handled
abbrev pub taken_off : (trigger dev : ℕ) → Machine → Machine
taken_off trigger dev m = with_trigger (trigger_after_handling dev) trigger m

abbrev pub machine_after_handling : Front → (trigger dev : ℕ) → Machine → Machine
machine_after_handling front trigger dev m = taken_off trigger dev (machine_after_entry front (entry_in trigger dev m) dev m)

-- ---- looks at thresholds

abbrev pub station_after_look : ShapeRecord → ℤ → Station → Station
station_after_look shape moment st = if st.site.plugged then with_site (λ site. with_sensed (sensed shape moment site) site) st else st

abbrev pub machine_after_look : Front → (dev : ℕ) → ℤ → Machine → Machine
machine_after_look front dev moment m = with_station (station_after_look (shape_at front dev) moment) dev m

abbrev pub sensed_answer : ShapeRecord → ℤ → Station → Sensed
sensed_answer shape moment st =
    if not st.site.plugged then sense.Gone
    else if (sensed shape moment st.site).fault then sense.Fault
    else sense.Fired (sensed shape moment st.site).count

-- the answer at a device of a kind: an averaging device has no thresholds
abbrev pub kind_sensed : Kind → ShapeRecord → ℤ → Station → Sensed
kind_sensed (Average base window) shape moment st = sense.Fired 0
kind_sensed kind shape moment st = sensed_answer shape moment st

-- ---- unpluggings

-- device k after device `dev` was unplugged: an averaging device goes with its base
abbrev pub unplugs : Front → (dev k : ℕ) → Station → Station
unplugs front dev k st = if is_unplugged_by (kind_at front k) dev k then with_site unplugged st else st

abbrev pub machine_after_unplugging : Front → (dev : ℕ) → Machine → Machine
machine_after_unplugging front dev m = record m { stations = map_from (unplugs front dev) 0 m.stations }
