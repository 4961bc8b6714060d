-- The seats of the connections that are there decide whether a step meets the rules.
use Rattle.std.proofs.Common.{◌≡◌, ℕ, zero, suc, ◌==◌, ◌&&◌, Bool, true, false, List, [], ◌∷◌, map, Option, Some, None, option_map, is_some, slice_get, cond, refl, sym, ap, ◌∙◌, arith, rules}
use Rattle.std.proofs.lemmas.Grind.{common_steps}
use Rattle.std.specs.Option.{option_map_or}
use Rattle.std.proofs.lemmas.Bool.{and_parts, and_from, or_parts, or_from, true≢false}
use Rattle.std.proofs.lemmas.Bool.Decides.{nat_tests}
use Rattle.iio_desc.specs.Kind.{Kind, Input, is_input}
use Rattle.iio_desc.specs.Description.{DeviceHead, heads_of}
use Rattle.iio_desc.specs.Description as desc_spec
use Rattle.iio_device.specs.Site.{is_empty}
use Rattle.iiod_commands.specs.Client.{SeatState, ClientRecord}
use Rattle.iio_core.specs.Front.{find_device, kind_at}
use Rattle.iio_history.specs.Who.{Conn, same}
use Rattle.iio_history.specs.Registry.{Setup, Member, Device, is_member}
use Rattle.iio_history.specs.Told.{Station, Told, device_of, registry_of}
use Rattle.iio_history.specs.Transcript.{Step}
use Rattle.iio_history.specs.Bench.{Every, IsBench, IsClientOf, front_of, is_in, kind_of_head, kind_of_station, names_of, seat_at, seat_in}
use Rattle.iio_worlds.specs.Stance.{Opens, by_number, client_there, clients_but, has_input, has_others, has_seat, is_so_at, none_seated, none_so, one_has, one_seated, opens_by, opens_of, own_has, stance_of, step_meets, step_meets_by}
use Rattle.iio_worlds.proofs.Alone.{get_map}
use Rattle.iio_worlds.proofs.StartLaws.{held_in}
use Rattle.iio_worlds.proofs.StanceLaws.{AllThere, others_are_there, seats_tell, seats_there, station_there}

-- ---- the same is asked

pub record AsksSame (x y : Opens) : Type 0 where
  pub own : (device : List ℕ) → x.own device ≡ y.own device
  pub others : (device : List ℕ) → x.others device ≡ y.others device
  pub none : x.none ≡ y.none

step_same : (x y : Opens) (a : List ℕ) (m : Told) (t : Step) → AsksSame x y → step_meets_by x a m t ≡ step_meets_by y a m t
step_same x y a m t same = search rules

-- ---- at a device

-- what is so of the devices of the stations
so_is : (f : Device → Bool) (m : Told) (k : ℕ)
    → is_so_at (map f (registry_of m).devices) k ≡ held_in (option_map f (option_map device_of (slice_get m.stations k)))
so_is f m k = ap held_in (get_map f (registry_of m).devices k ∙ ap (option_map f) (get_map device_of m.stations k))

no_seat : (m : Told) (name : List ℕ) (client : ClientRecord) (k : ℕ) → IsClientOf m name client → slice_get m.stations k ≡ None → has_seat k client ≡ false
no_seat m name client k is none = ap is_some (is.seats k) ∙ ap (λ o. is_some (seat_in k (Conn name) o)) none

-- the client of a connection that is there
client_is : (m : Told) (a : List ℕ) (clients : List ℕ → ClientRecord) (ns : List (List ℕ)) → Every (λ name. IsClientOf m name (clients name)) ns
    → is_in ns a ≡ true
    → IsClientOf m a (clients a)
client_is m a clients [] are is = cc
client_is m a clients (n ∷ ns) are is = search (rules, is_in, client_is m a clients ns are.1)

not_there : (a : List ℕ) (ns : List (List ℕ)) (ms : List Member) → AllThere ns ms → is_in ns a ≡ false → is_member (Conn a) ms ≡ false
not_there a ns [] are absent = refl
not_there a ns (m ∷ ms) are absent = search (rules, or_from, same, is_in, not_there a ns ms are.1 absent)

-- the connection's own
own_has_is : (s : Setup) (m : Told) (a : List ℕ) (clients : List ℕ → ClientRecord) (k : ℕ) (st : Station) → IsBench s m
    → Every (λ name. IsClientOf m name (clients name)) (names_of m) → slice_get m.stations k ≡ Some st
    → is_member (Conn a) (device_of st).members ≡ own_has (client_there clients a (names_of m)) k
own_has_is s m a clients k st bench are here = by_test (is_in (names_of m) a) refl
  where
    by_test : (b : Bool) → is_in (names_of m) a ≡ b → is_member (Conn a) (device_of st).members ≡ own_has (cond b (Some (clients a)) None) k
    by_test true is = seats_tell m a (clients a) k st (client_is m a clients (names_of m) are is) here
    by_test false is = search (rules, not_there, seats_there, station_there)

own_has_none : (m : Told) (a : List ℕ) (clients : List ℕ → ClientRecord) (k : ℕ) → Every (λ name. IsClientOf m name (clients name)) (names_of m)
    → slice_get m.stations k ≡ None → own_has (client_there clients a (names_of m)) k ≡ false
own_has_none m a clients k are none = by_test (is_in (names_of m) a) refl
  where
    by_test : (b : Bool) → is_in (names_of m) a ≡ b → own_has (cond b (Some (clients a)) None) k ≡ false
    by_test true is = no_seat m a (clients a) k (client_is m a clients (names_of m) are is) none
    by_test false is = refl

kind_there : (kind : Kind) (o : Option DeviceHead) → Some kind ≡ option_map kind_of_head o → kind ≡ option_map_or (λ (d : DeviceHead). d.kind) o Input
kind_there kind o is = search rules

kind_is : (s : Setup) (m : Told) (k : ℕ) (st : Station) → IsBench s m → slice_get m.stations k ≡ Some st → st.kind ≡ kind_at (front_of s) k
unfolding kind_at
kind_is s m k st bench here =
    kind_there st.kind (slice_get (heads_of s.desc) k)
    (ap (option_map kind_of_station) (sym here) ∙ sym (get_map kind_of_station m.stations k) ∙ ap (λ kinds. slice_get kinds k) bench.kinds
    ∙ get_map kind_of_head (heads_of s.desc) k)

false_right : (b : Bool) → (b && false) ≡ false
false_right b = search rules

own_at : (s : Setup) (m : Told) (a : List ℕ) (clients : List ℕ → ClientRecord) (k : ℕ) → IsBench s m
    → Every (λ name. IsClientOf m name (clients name)) (names_of m)
    → is_so_at (map (has_input a) (registry_of m).devices) k ≡ (is_input (kind_at (front_of s) k) && own_has (client_there clients a (names_of m)) k)
own_at s m a clients k bench are = search (rules, so_is, false_right, own_has_none, kind_is, own_has_is)

-- the others'
one_seated_is : (m : Told) (a : List ℕ) (clients : List ℕ → ClientRecord) (k : ℕ) (st : Station) (ns : List (List ℕ))
    → Every (λ name. IsClientOf m name (clients name)) ns → slice_get m.stations k ≡ Some st
    → one_has a ns (device_of st) ≡ one_seated (clients_but clients a ns) k
one_seated_is m a clients k st [] are here = refl
one_seated_is m a clients k st (n ∷ ns) are here = search (rules, seats_tell, has_seat, one_seated_is m a clients k st ns are.1 here)

none_seated_at : (m : Told) (a : List ℕ) (clients : List ℕ → ClientRecord) (k : ℕ) (ns : List (List ℕ)) → Every (λ name. IsClientOf m name (clients name)) ns
    → slice_get m.stations k ≡ None → one_seated (clients_but clients a ns) k ≡ false
none_seated_at m a clients k [] are none = refl
none_seated_at m a clients k (n ∷ ns) are none = search (rules, or_from, has_seat, no_seat, none_seated_at m a clients k ns are.1 none)

others_at : (s : Setup) (m : Told) (a : List ℕ) (clients : List ℕ → ClientRecord) (k : ℕ) → IsBench s m
    → Every (λ name. IsClientOf m name (clients name)) (names_of m)
    → is_so_at (map (has_others a) (registry_of m).devices) k ≡ one_seated (clients_but clients a (names_of m)) k
others_at s m a clients k bench are = so_is (has_others a) m k ∙ by_station (slice_get m.stations k) refl
  where
    by_station : (o : Option Station) → slice_get m.stations k ≡ o
        → held_in (option_map (has_others a) (option_map device_of o)) ≡ one_seated (clients_but clients a (names_of m)) k
    by_station None is = sym (none_seated_at m a clients k (names_of m) are is)
    by_station (Some st) is = others_are_there s m a k st bench is ∙ one_seated_is m a clients k st (names_of m) are is

-- ---- at none

either_way : (b c : Bool) → (b ≡ true → c ≡ true) → (c ≡ true → b ≡ true) → b ≡ c
either_way b c forth back = search rules

none_then : (bs : List Bool) → none_so bs ≡ true → (k : ℕ) → is_so_at bs k ≡ false
none_then [] none k = refl
none_then (true ∷ bs) none k = cc
none_then (false ∷ bs) none zero = refl
none_then (false ∷ bs) none (suc k) = none_then bs none k

none_where : (bs : List Bool) → ((k : ℕ) → is_so_at bs k ≡ false) → none_so bs ≡ true
none_where [] all = refl
none_where (true ∷ bs) all = absurd (true≢false (all 0))
none_where (false ∷ bs) all = none_where bs (λ k. all (suc k))

unseated : (seats : List SeatState) → is_empty seats ≡ true → (k : ℕ) → is_some (seat_at k seats) ≡ false
unseated seats is k = search rules

seatless : (seats : List SeatState) → ((k : ℕ) → is_some (seat_at k seats) ≡ false) → is_empty seats ≡ true
seatless [] all = refl
seatless (x ∷ xs) all =
    let here : (x.dev == x.dev) ≡ true = grind (arith, nat_tests) in
    absurd (true≢false (ap (λ b. is_some (cond b (Some x) (seat_at x.dev xs))) (sym here) ∙ all x.dev))

none_seated_then : (clients : List ClientRecord) → none_seated clients ≡ true → (k : ℕ) → one_seated clients k ≡ false
none_seated_then [] none k = refl
none_seated_then (client ∷ clients) none k =
    let parts = and_parts (is_empty client.seats) (none_seated clients) none in
    or_from (has_seat k client) (one_seated clients k) (unseated client.seats parts.0 k) (none_seated_then clients parts.1 k)

none_seated_where : (clients : List ClientRecord) → ((k : ℕ) → one_seated clients k ≡ false) → none_seated clients ≡ true
none_seated_where [] all = refl
none_seated_where (client ∷ clients) all =
    and_from (is_empty client.seats) (none_seated clients)
    (seatless client.seats (λ k. (or_parts (has_seat k client) (one_seated clients k) (all k)).0))
    (none_seated_where clients (λ k. (or_parts (has_seat k client) (one_seated clients k) (all k)).1))

-- ---- a step

by_same : (o : Option ℕ) (f g : ℕ → Bool) → ((k : ℕ) → f k ≡ g k) → by_number o f ≡ by_number o g
by_same o f g same = search rules

asks_same : (s : Setup) (m : Told) (a : List ℕ) (clients : List ℕ → ClientRecord) → IsBench s m → Every (λ name. IsClientOf m name (clients name)) (names_of m)
    → AsksSame (opens_of s.desc (stance_of a (registry_of m)))
    (opens_by (front_of s) (client_there clients a (names_of m)) (clients_but clients a (names_of m)))
unfolding find_device
asks_same s m a clients bench are = record {
  own =
      λ device. by_same (desc_spec.find_device s.desc device) (is_so_at (map (has_input a) (registry_of m).devices))
      (λ k. is_input (kind_at (front_of s) k) && own_has (client_there clients a (names_of m)) k) (λ k. own_at s m a clients k bench are);
  others =
      λ device. by_same (desc_spec.find_device s.desc device) (is_so_at (map (has_others a) (registry_of m).devices))
      (one_seated (clients_but clients a (names_of m))) (λ k. others_at s m a clients k bench are);
  none = either_way (none_so (map (has_others a) (registry_of m).devices)) (none_seated (clients_but clients a (names_of m)))
      (λ none. none_seated_where (clients_but clients a (names_of m))
      (λ k. sym (others_at s m a clients k bench are) ∙ none_then (map (has_others a) (registry_of m).devices) none k))
      (λ none. none_where (map (has_others a) (registry_of m).devices)
      (λ k. others_at s m a clients k bench are ∙ none_seated_then (clients_but clients a (names_of m)) none k));
}

pub clients_decide : (s : Setup) (m : Told) (a : List ℕ) (clients : List ℕ → ClientRecord) (t : Step) → IsBench s m
    → Every (λ name. IsClientOf m name (clients name)) (names_of m)
    → step_meets s a m t ≡ step_meets_by (opens_by (front_of s) (client_there clients a (names_of m)) (clients_but clients a (names_of m))) a m t
clients_decide s m a clients t bench are = grind (arith, common_steps, step_same, opens_by, asks_same)
