-- The told state as a session sees it: its machine, in which members and holders are numbers; and the client of a connection,
-- which is what the connection has of the told state.
use Rattle.std.specs.Prelude.{◌≡◌, ℕ, suc, ◌-◌, ◌^◌, ◌<◌, ◌≤◌, ◌==◌, ◌||◌, Bool, true, false, List, [], ◌∷◌, map, length, Option, Some, None, option_map, slice_get, if◌then◌else◌}
use Rattle.std.specs.Str.{bytes_eq}
use Rattle.iio_layout.specs.Active.{has_data}
use Rattle.iio_layout.specs.Layout.{scan_size}
use Rattle.iio_layout.specs.Shape.{ShapeRecord}
use Rattle.iio_desc.specs.Description.{DeviceHead, heads_of}
use Rattle.iio_desc.specs.Kind.{Kind}
use Rattle.iio_derive.specs.Window.{full_mask}
use Rattle.iio_event.specs.Monitor.{MonitorRecord, is_holder}
use Rattle.iio_device.specs.Site.{Site}
use Rattle.iiod_grammar.specs.Stream.{Item}
use Rattle.iiod_commands.specs.Acts.{Acted}
use Rattle.iiod_commands.specs.Client.{SeatState, ClientRecord, buffers_of as client_buffers}
use Rattle.iio_core.specs.Front.{Front, first_front}
use Rattle.iio_core.specs.Machine.{Machine, Member as MachineMember, Station as MachineStation}
use Rattle.iio_history.specs.Who.{Who, Conn, Inner, same}
use Rattle.iio_history.specs.Event.{Event, Heard}
use Rattle.iio_history.specs.Registry.{Setup, Device, buffers_of}
use Rattle.iio_history.specs.Told.{Line, Seat, Station, Told, device_of, member_of_seat, registry_of}
use Rattle.iio_history.specs.Machine.{step}
use Rattle.iio_history.specs.Reply.{reply, seat_of}
use Rattle.iio_history.specs.Law.{AreApart}

-- ---- connections by number: by the place of their line

abbrev pub name_of : Line → List ℕ
name_of l = l.user.who

abbrev pub names_of : Told → List (List ℕ)
names_of m = map name_of m.lines

-- the place of a name; for a name that isn't there, the number of names
abbrev pub place_in : List (List ℕ) → List ℕ → ℕ
place_in [] name = 0
place_in (n ∷ ns) name = if bytes_eq n name then 0 else suc (place_in ns name)

abbrev pub is_in : List (List ℕ) → List ℕ → Bool
is_in [] name = false
is_in (n ∷ ns) name = bytes_eq n name || is_in ns name

abbrev pub place_of_who : List (List ℕ) → Who → ℕ
place_of_who names (Conn name) = place_in names name
place_of_who names (Inner device) = 0

-- ---- the machine

-- what no call changes
abbrev pub front_of : Setup → Front
front_of s = first_front s.desc

-- the holder of the events is given by its number
abbrev pub monitor_by : List (List ℕ) → MonitorRecord Who → MonitorRecord ℕ
monitor_by names x = record { channels = x.channels; holder = option_map (place_of_who names) x.holder; events = x.events }

abbrev pub site_by : List (List ℕ) → Site Who → Site ℕ
site_by names site = record {
  plugged = site.plugged;
  trigger = site.trigger;
  attachment = site.attachment;
  driver = site.driver;
  sampling_frequency = site.sampling_frequency;
  values = site.values;
  monitor = monitor_by names site.monitor;
}

-- a member is given by its number
abbrev pub inner_of : Who → Option ℕ
inner_of (Conn name) = None
inner_of (Inner device) = Some device

abbrev pub numbered : Seat → MachineMember
numbered x =
    record {
      number = x.number;
      mask = x.member.mask;
      capacity = x.member.capacity;
      scans = x.queue.scans;
      lost = x.queue.lost;
      cyclic = x.member.cyclic;
      inner = inner_of x.member.who;
    }

abbrev pub bench_by : List (List ℕ) → Station → MachineStation
bench_by names st = record {
  next = st.joinings;
  captures = st.captures;
  totals = st.totals;
  members = map numbered st.seats;
  site = site_by names st.site;
  last = st.last;
  window = st.window;
}

abbrev pub machine_of : Told → Machine
machine_of m = record { clock = m.clock; triggers = m.triggers; stations = map (bench_by (names_of m)) m.stations }

-- ---- what a client has to be

-- the first seat of a client at a device
abbrev pub seat_at : ℕ → List SeatState → Option SeatState
seat_at dev [] = None
seat_at dev (s ∷ ss) = if s.dev == dev then Some s else seat_at dev ss

-- no two seats are at the same device
abbrev pub OnePerDevice : List SeatState → Type 0
OnePerDevice [] = Unit {0}
OnePerDevice (s ∷ ss) = (seat_at s.dev ss ≡ None) × OnePerDevice ss

abbrev pub is_listed : ℕ → List ℕ → Bool
is_listed dev [] = false
is_listed dev (d ∷ ds) = d == dev || is_listed dev ds

-- a membership of device k as its connection knows it
abbrev pub seat_state_by : ℕ → Seat → SeatState
seat_state_by k x = record { dev = k; number = x.number; mask = x.member.mask; capacity = x.member.capacity; discarded = x.discarded }

abbrev pub seat_in : ℕ → Who → Option Station → Option SeatState
seat_in k who None = None
seat_in k who (Some st) = option_map (seat_state_by k) (seat_of who st.seats)

abbrev pub holds_in : Who → Option Station → Bool
holds_in who None = false
holds_in who (Some st) = is_holder same who st.site.monitor

-- a client has its connection's number, its memberships, device by
-- device, its buffers counts, and all devices whose events it holds
pub record IsClientOf (m : Told) (name : List ℕ) (client : ClientRecord) : Type 0 where
  pub who : client.who ≡ place_in (names_of m) name
  pub seats : (k : ℕ) → seat_at k client.seats ≡ seat_in k (Conn name) (slice_get m.stations k)
  pub apart : OnePerDevice client.seats
  pub buffers : (k : ℕ) → client_buffers k client.buffers ≡ buffers_of (registry_of m).users name k
  pub holdings : (k : ℕ) → holds_in (Conn name) (slice_get m.stations k) ≡ true → is_listed k client.holdings ≡ true

-- ---- what holds of every told state

abbrev pub Every : {A : Type 0} → (A → Type 0) → List A → Type 0
Every P [] = Unit {0}
Every P (x ∷ xs) = P x × Every P xs

abbrev pub AreDistinct : List (List ℕ) → Type 0
AreDistinct [] = Unit {0}
AreDistinct (n ∷ ns) = (is_in ns n ≡ false) × AreDistinct ns

abbrev pub IsThere : List (List ℕ) → Who → Type 0
IsThere names (Conn name) = is_in names name ≡ true
IsThere names (Inner device) = Unit {0}

abbrev pub IsHolderThere : List (List ℕ) → Option Who → Type 0
IsHolderThere names None = Unit {0}
IsHolderThere names (Some (Conn name)) = is_in names name ≡ true
IsHolderThere names (Some (Inner device)) = ⊥

-- a seat belongs to a connection that is there, has a channel's data in each scan, and its queue holds no more than it can
pub record IsSeat (names : List (List ℕ)) (shape : ShapeRecord) (x : Seat) : Type 0 where
  pub there : IsThere names x.member.who
  pub channel : has_data shape x.member.mask ≡ true
  pub bounded : length x.queue.scans ≤ x.member.capacity

-- numbers rise from `low` on, and are below `high`
abbrev pub NumbersRise : ℕ → ℕ → List Seat → Type 0
NumbersRise low high [] = low ≤ high
NumbersRise low high (x ∷ xs) = (low ≤ x.number) × NumbersRise (suc x.number) high xs

-- each scan with a channel's data has at least one byte
abbrev pub HasSizes : ShapeRecord → Type 0
HasSizes shape = (mask : ℕ) → has_data shape mask ≡ true → 1 ≤ scan_size shape mask

-- the full mask of a device selects a channel with data
abbrev pub HasFull : Device → Type 0
HasFull d = has_data d.shape (full_mask d.shape) ≡ true

-- no connection has two seats, and the numbers of the seats are distinct and below the number of joinings
pub record IsStation (names : List (List ℕ)) (st : Station) : Type 0 where
  pub apart : AreApart (map member_of_seat st.seats)
  pub rising : NumbersRise 0 st.joinings st.seats
  pub sizes : HasSizes st.shape
  pub full : HasFull (device_of st)
  pub seats : Every (IsSeat names st.shape) st.seats
  pub holder : IsHolderThere names st.site.monitor.holder

abbrev pub shape_of_station : Station → ShapeRecord
shape_of_station st = st.shape

pub record HasDeviceSizes (d : DeviceHead) : Type 0 where
  pub sizes : HasSizes d.shape
  pub full : has_data d.shape (full_mask d.shape) ≡ true

-- what its connections know of it, but for the name
abbrev pub kind_of_station : Station → Kind
kind_of_station st = st.kind

abbrev pub shape_of_head : DeviceHead → ShapeRecord
shape_of_head d = d.shape

abbrev pub kind_of_head : DeviceHead → Kind
kind_of_head d = d.kind

-- each connection has a buffers count for each device
abbrev pub HasBuffers : Setup → Line → Type 0
HasBuffers s l = length l.user.buffers ≡ length (heads_of s.desc)

pub record IsBench (s : Setup) (m : Told) : Type 0 where
  pub names : AreDistinct (names_of m)
  pub buffers : Every (HasBuffers s) m.lines
  pub shapes : map shape_of_station m.stations ≡ map shape_of_head (heads_of s.desc)
  pub kinds : map kind_of_station m.stations ≡ map kind_of_head (heads_of s.desc)
  pub stations : Every (IsStation (names_of m)) m.stations

-- an event that a step can stand for: an item has to be one of a connection that is there
abbrev pub IsStep : List (List ℕ) → Event → Type 0
IsStep names (Heard name item) = is_in names name ≡ true
IsStep names e = Unit {0}

-- whether a further member can be numbered
abbrev pub CanJoin : Station → Type 0
CanJoin st = st.joinings < 2 ^ 64 - 1

-- ---- an item in both views

-- the answer and the machine after it are what the history says, and the client after it is one of the state then
pub record IsAct (s : Setup) (m : Told) (name : List ℕ) (item : Item) (o : Acted) : Type 0 where
  pub answer : o.reply ≡ reply s m name item
  pub state : o.machine ≡ machine_of (step s m (Heard name item))
  pub client : IsClientOf (step s m (Heard name item)) name o.client
