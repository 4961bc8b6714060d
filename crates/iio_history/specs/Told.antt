-- The state after a history: the registry, with each member's private queue, and what each connection has begun.
use Rattle.std.specs.Prelude.{ℕ, ◌+◌, ◌/◌, List, [], ◌∷◌, ◌++◌, map, take, slice_get, Option, None, Some, if◌then◌else◌, ℤ}
use Rattle.std.specs.Str.{bytes_eq}
use Rattle.iio_layout.specs.Shape.{ShapeRecord}
use Rattle.iio_layout.specs.Layout.{scan_size}
use Rattle.iio_desc.specs.Kind.{Kind}
use Rattle.iio_derive.specs.Window.{Window}
use Rattle.iio_output.specs.Last.{GivenScan, first_last, last_with}
use Rattle.iio_device.specs.declared.totals.Totals.{Totals}
use Rattle.iio_device.specs.Site.{Site}
use Rattle.iio_device.specs.Totals.{no_totals, with_given, with_lost}
use Rattle.iio_core.specs.Lists.{map_from}
use Rattle.iio_core.specs.Moves.{next_scan}
use Rattle.iio_history.specs.Who.{Who, same, is_among}
use Rattle.iiod_grammar.specs.Stream.{Scanner, InLine, scanner_after}
use Rattle.iio_history.specs.Event.{Event, Arrived}
use Rattle.iio_history.specs.Registry.{Setup, Member, Device, ConnectionRecord, Registry}
use Rattle.iio_core.specs.Trigger.{Trigger}
use Rattle.iio_history.specs.Act.{Act, Remasking, Leaving, Ending, Reading, Capturing, Giving, act_at, act_of}
use Rattle.iio_history.specs.Fold.{registry_after, registry_first}
use Rattle.iio_history.specs.Log.{membership_log}
use Rattle.iio_history.specs.Queue.{MemberQueue, private_queue}
use Rattle.iio_history.specs.Membership.{joinings_of, number_of, discarded_of}

-- a member with its number, its queue, and the number of scans that its REMASKs discarded
pub record Seat : Type 0 where
  pub member : Member
  pub number : ℕ
  pub queue : MemberQueue
  pub discarded : ℕ

-- a device, the number of its joinings, the number of its captures, what its queues gave and lost in all, and its members
pub record Station : Type 0 where
  pub kind : Kind
  pub shape : ShapeRecord
  pub window : Window
  pub joinings : ℕ
  pub captures : ℕ
  pub totals : Totals
  pub site : Site Who
  -- at an output device: element 0 of each channel in the last scan given that has it
  pub last : List ℤ
  pub seats : List Seat

-- a connection, with what it sent that isn't a whole item yet
pub record Line : Type 0 where
  pub user : ConnectionRecord
  pub begun : Scanner

pub record Told : Type 0 where
  pub clock : ℤ
  pub lines : List Line
  pub triggers : List Trigger
  pub stations : List Station

-- ---- the registry in it

abbrev pub member_of_seat : Seat → Member
member_of_seat x = x.member

abbrev pub device_of : Station → Device
device_of st = record { kind = st.kind; shape = st.shape; site = st.site; window = st.window; members = map member_of_seat st.seats }

abbrev pub user_of : Line → ConnectionRecord
user_of l = l.user

abbrev pub registry_of : Told → Registry
registry_of m = record { clock = m.clock; users = map user_of m.lines; triggers = m.triggers; devices = map device_of m.stations }

-- ---- what is counted at a device

abbrev pub captures_after : Act → ℕ → ℕ
captures_after (Capturing c) n = n + 1
captures_after act n = n

-- the scans that a READBUF of `bytes` bytes gives, out of those that wait for its member
abbrev pub scans_given : ShapeRecord → Who → ℕ → List Seat → List (List ℕ)
scans_given shape who bytes [] = []
scans_given shape who bytes (x ∷ xs) =
    if same who x.member.who then take (bytes / scan_size shape x.member.mask) x.queue.scans else scans_given shape who bytes xs

-- members' queues end: what each has lost is counted
abbrev pub with_gone : List Who → List Seat → Totals → Totals
with_gone gone [] t = t
with_gone gone (x ∷ xs) t = with_gone gone xs (if is_among x.member.who gone then with_lost x.queue.lost t else t)

-- what the queues of a device gave and lost in all, after an act; a REMASK ends its member's queue
abbrev pub totals_after : ShapeRecord → Act → List Seat → Totals → Totals
totals_after shape (Reading who bytes) xs t = with_given (scans_given shape who bytes xs) t
totals_after shape (Remasking m mask) xs t = with_gone (m.who ∷ []) xs t
totals_after shape (Leaving gone) xs t = with_gone gone xs t
totals_after shape (Ending gone) xs t = with_gone gone xs t
totals_after shape act xs t = t

-- ---- what an output device is given

abbrev pub next_given : List Seat → Option GivenScan
next_given [] = None
next_given (x ∷ xs) = next_scan x.member.mask x.queue.scans

abbrev pub last_after : ShapeRecord → Act → List Seat → List ℤ → List ℤ
last_after shape Giving xs last = last_with shape (next_given xs) last
last_after shape act xs last = last

-- ---- what the history tells

-- all bytes that a connection sent
abbrev pub stream_of : List ℕ → List Event → List ℕ
stream_of name [] = []
stream_of name (Arrived speaker bytes ∷ h) = if bytes_eq speaker name then stream_of name h ++ bytes else stream_of name h
stream_of name (e ∷ h) = stream_of name h

-- what a stream has begun and not completed
abbrev pub begun_of : List ℕ → Scanner
begun_of stream = scanner_after (InLine []) stream

-- a member of device k: its queue is that of the log of its own membership, under its own mask
abbrev pub seat_told : Setup → List Event → ℕ → ShapeRecord → Member → Seat
seat_told s h k shape m = record {
  member = m;
  number = number_of s m.who k h;
  queue = private_queue shape m (membership_log s m.who (scan_size shape m.mask) k h);
  discarded = discarded_of s m.who k h;
}

-- the number of captures that device k made
abbrev pub captures_of : Setup → ℕ → List Event → ℕ
captures_of s k [] = 0
captures_of s k (e ∷ h) = captures_after (act_at s (registry_after s h) e k) (captures_of s k h)

-- what the queues of device k gave and lost in all
abbrev pub totals_of : Setup → ℕ → List Event → Totals
totals_of s k [] = no_totals
totals_of s k (e ∷ h) = elim (slice_get (registry_after s h).devices k) [
  | None ↦ totals_of s k h
  | Some d ↦ totals_after d.shape (act_of s (registry_after s h) e k d) (map (seat_told s h k d.shape) d.members) (totals_of s k h)
]

-- the last value given of each channel of device k
abbrev pub last_of : Setup → ℕ → List Event → List ℤ
last_of s k [] = elim (slice_get (registry_first s).devices k) [ None ↦ [] | Some d ↦ first_last d.shape ]
last_of s k (e ∷ h) = elim (slice_get (registry_after s h).devices k) [
  | None ↦ last_of s k h
  | Some d ↦ last_after d.shape (act_of s (registry_after s h) e k d) (map (seat_told s h k d.shape) d.members) (last_of s k h)
]

abbrev pub station_told : Setup → List Event → ℕ → Device → Station
station_told s h k d = record {
  kind = d.kind;
  shape = d.shape;
  window = d.window;
  joinings = joinings_of s k h;
  captures = captures_of s k h;
  totals = totals_of s k h;
  site = d.site;
  last = last_of s k h;
  seats = map (seat_told s h k d.shape) d.members;
}

abbrev pub line_told : List Event → ConnectionRecord → Line
line_told h u = record { user = u; begun = begun_of (stream_of u.who h) }

abbrev pub told_by : Setup → List Event → Registry → Told
told_by s h r = record { clock = r.clock; lines = map (line_told h) r.users; triggers = r.triggers; stations = map_from (station_told s h) 0 r.devices }

abbrev pub told : Setup → List Event → Told
told s h = told_by s h (registry_after s h)
