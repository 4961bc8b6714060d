-- What the two rules need to know of the devices, as plain data, and how it decides a step. No history is in it.
use Rattle.std.specs.Prelude.{◌≡◌, ℕ, ◌&&◌, ◌||◌, not, Bool, true, false, List, [], ◌∷◌, map, Option, Some, None, is_some, slice_get, Ok, if◌then◌else◌}
use Rattle.std.specs.Str.{bytes_eq}
use Rattle.iiod_grammar.specs.Command.{Close, Remask}
use Rattle.iiod_grammar.specs.Stream.{Item, Said, End, items_from}
use Rattle.iio_desc.specs.Description.{Description, find_device}
use Rattle.iio_desc.specs.Kind.{is_input}
use Rattle.iiod_commands.specs.Client.{ClientRecord}
use Rattle.iio_core.specs.Front.{Front}
use Rattle.iio_core.specs.Front as front_spec
use Rattle.iio_device.specs.Site.{is_empty}
use Rattle.iio_history.specs.Who.{Conn}
use Rattle.iio_history.specs.Event.{Event}
use Rattle.iio_history.specs.Registry.{Setup, Device, Registry, is_member, has_ended}
use Rattle.iio_history.specs.Told.{Station, Told, device_of, registry_of, told}
use Rattle.iio_history.specs.Transcript.{Step, Feed, Drop, begun_by, with_step}
use Rattle.iio_history.specs.Bench.{Every, IsBench, IsClientOf, front_of, is_in, names_of, seat_at}
use Rattle.iio_worlds.specs.Bystanders.{has_other, may_say, meets_by, only_bystanders}

-- for each device: whether the connection has it open, and it is neither an output nor an averaging device; and whether
-- another connection has it open
pub record Stance : Type 0 where
  pub own : List Bool
  pub others : List Bool

abbrev pub has_input : List ℕ → Device → Bool
has_input a d = is_input d.kind && is_member (Conn a) d.members

abbrev pub has_others : List ℕ → Device → Bool
has_others a d = has_other (Conn a) d.members

abbrev pub stance_of : List ℕ → Registry → Stance
stance_of a r = record { own = map (has_input a) r.devices; others = map (has_others a) r.devices }

-- ---- an item

-- what the rules ask: whether the connection has the device of a name open as above, whether another connection has it open,
-- and whether no other connection has any device open
pub record Opens : Type 0 where
  pub own : List ℕ → Bool
  pub others : List ℕ → Bool
  pub none : Bool

-- what the connection itself may say
abbrev pub may_part : Opens → Item → Bool
may_part x (Said (Ok (Close device))) = not (x.others device)
may_part x (Said (Ok (Remask device text))) = not (x.others device)
may_part x (End refusal) = x.none
may_part x item = true

-- whether an item meets the rules, said by the connection itself or by another
abbrev pub item_meets : Opens → (mine : Bool) → Item → Bool
item_meets x true item = may_part x item
item_meets x false item = may_say x.own item

abbrev pub items_meet : Opens → (mine : Bool) → List Item → Bool
items_meet x mine [] = true
items_meet x mine (item ∷ items) = item_meets x mine item && items_meet x mine items

-- ---- by the stance

abbrev pub is_so_at : List Bool → ℕ → Bool
is_so_at bs k = elim (slice_get bs k) [ None ↦ false | Some b ↦ b ]

abbrev pub is_so : Description → List Bool → List ℕ → Bool
is_so desc bs device = elim (find_device desc device) [ None ↦ false | Some k ↦ is_so_at bs k ]

abbrev pub none_so : List Bool → Bool
none_so [] = true
none_so (b ∷ bs) = not b && none_so bs

abbrev pub opens_of : Description → Stance → Opens
opens_of desc x = record { own = is_so desc x.own; others = is_so desc x.others; none = none_so x.others }

-- ---- a step, by the state before it

abbrev pub step_meets_by : Opens → List ℕ → Told → Step → Bool
step_meets_by x a m (Feed name bytes) = has_ended name (registry_of m).users || items_meet x (bytes_eq name a) (items_from (begun_by name m.lines) bytes)
step_meets_by x a m (Drop name) = not (bytes_eq name a) || x.none
step_meets_by x a m step = true

abbrev pub step_meets : Setup → List ℕ → Told → Step → Bool
step_meets s a m t = step_meets_by (opens_of s.desc (stance_of a (registry_of m))) a m t

-- ---- its law

-- the stance decides an item as the registry does
abbrev pub StanceDecides : Type 0
StanceDecides =
    (s : Setup) (r : Registry) (a name : List ℕ) (item : Item) → meets_by s r a name item ≡ item_meets (opens_of s.desc (stance_of a r)) (bytes_eq name a) item

-- if all events before a step meet the rules, the stance decides whether all events of the step do
abbrev pub StepDecides : Type 0
StepDecides =
    (s : Setup) (a : List ℕ) (h : List Event) (t : Step) → only_bystanders s a h ≡ true → only_bystanders s a (with_step s h t) ≡ step_meets s a (told s h) t

-- ---- the stance by the clients

abbrev pub has_seat : ℕ → ClientRecord → Bool
has_seat k client = is_some (seat_at k client.seats)

-- a connection has a device open exactly if it has a seat there
abbrev pub SeatsTell : Type 0
SeatsTell =
    (m : Told) (name : List ℕ) (client : ClientRecord) (k : ℕ) (st : Station) → IsClientOf m name client → slice_get m.stations k ≡ Some st
    → is_member (Conn name) (device_of st).members ≡ has_seat k client

-- whether a connection of these names other than `a` has the device open
abbrev pub one_has : List ℕ → List (List ℕ) → Device → Bool
one_has a [] d = false
one_has a (name ∷ names) d = (not (bytes_eq name a) && is_member (Conn name) d.members) || one_has a names d

-- another connection has it open exactly if one of the other connections that are there does
abbrev pub OthersAreThere : Type 0
OthersAreThere =
    (s : Setup) (m : Told) (a : List ℕ) (k : ℕ) (st : Station) → IsBench s m → slice_get m.stations k ≡ Some st
    → has_others a (device_of st) ≡ one_has a (names_of m) (device_of st)

-- by the seats of the connection, if it is there, and of the others that are there: what a session sees is enough
abbrev pub own_has : Option ClientRecord → ℕ → Bool
own_has None k = false
own_has (Some client) k = has_seat k client

abbrev pub one_seated : List ClientRecord → ℕ → Bool
one_seated [] k = false
one_seated (client ∷ clients) k = has_seat k client || one_seated clients k

abbrev pub none_seated : List ClientRecord → Bool
none_seated [] = true
none_seated (client ∷ clients) = is_empty client.seats && none_seated clients

abbrev pub by_number : Option ℕ → (ℕ → Bool) → Bool
by_number o f = elim o [ None ↦ false | Some k ↦ f k ]

abbrev pub opens_by : Front → Option ClientRecord → List ClientRecord → Opens
opens_by front own others = record {
  own = λ device. by_number (front_spec.find_device front device) (λ k. is_input (front_spec.kind_at front k) && own_has own k);
  others = λ device. by_number (front_spec.find_device front device) (one_seated others);
  none = none_seated others;
}

-- the clients of the connections of these names, without that of `a`
abbrev pub clients_but : (clients : List ℕ → ClientRecord) → List ℕ → List (List ℕ) → List ClientRecord
clients_but clients a [] = []
clients_but clients a (name ∷ names) = if bytes_eq name a then clients_but clients a names else clients name ∷ clients_but clients a names

abbrev pub client_there : (clients : List ℕ → ClientRecord) → List ℕ → List (List ℕ) → Option ClientRecord
client_there clients a names = if is_in names a then Some (clients a) else None

-- the clients decide a step as the told state does
abbrev pub ClientsDecide : Type 0
ClientsDecide =
    (s : Setup) (m : Told) (a : List ℕ) (clients : List ℕ → ClientRecord) (t : Step) → IsBench s m
    → Every (λ name. IsClientOf m name (clients name)) (names_of m)
    → step_meets s a m t ≡ step_meets_by (opens_by (front_of s) (client_there clients a (names_of m)) (clients_but clients a (names_of m))) a m t
