-- Which devices the connection has open, and which another has, before a step decides whether the step meets the rules.
use Rattle.std.proofs.Common.{◌≡◌, ℕ, zero, suc, ◌+◌, ◌<◌, ◌==◌, ◌&&◌, ◌||◌, not, Bool, true, false, List, [], ◌∷◌, map, Option, Some, None, Ok, option_map, is_some, slice_get, cond, refl, sym, ap, ◌∙◌, subst, arith, rules}
use Rattle.std.proofs.lemmas.Grind.{common_steps}
use Rattle.std.specs.Str.{bytes_eq}
use Rattle.std.proofs.lemmas.Bool.{and_from, or_left, or_right, not_from_false}
use Rattle.std.proofs.lemmas.Bool.Decides.{nat_tests}
use Rattle.iio_trigger.specs.Trigger.{Handed}
use Rattle.iio_desc.specs.Description.{find_device}
use Rattle.iiod_grammar.specs.Command.{Close, Remask}
use Rattle.iiod_grammar.specs.Stream.{Item, Said, End, items_from}
use Rattle.iiod_commands.specs.Client.{ClientRecord}
use Rattle.iio_history.specs.Who.{Who, Conn, Inner, same}
use Rattle.iio_history.specs.Event.{Event, Arrived, Heard, Dropped, Polled, Handled, Sensed, Clock, Unplugged}
use Rattle.iio_history.specs.Registry.{Setup, Member, Device, Registry, is_at, is_member, has_ended}
use Rattle.iio_history.specs.Fold.{registry_after}
use Rattle.iio_history.specs.Told.{Seat, Station, Told, device_of, member_of_seat, registry_of, told}
use Rattle.iio_history.specs.Reply.{seat_of}
use Rattle.iio_history.specs.Transcript.{Step, Feed, Fire, Poll, Handle, Sense, SetClock, Drop, Unplug, and_then, begun_by, poll_entries, with_step}
use Rattle.iio_history.specs.Bench.{Every, IsBench, IsClientOf, IsSeat, IsStation, IsThere, is_in, names_of}
use Rattle.iio_history.proofs.ToldLaws.{registry_is}
use Rattle.iio_worlds.specs.Bystanders.{mine, has_other, has_open, is_neutral, others_are_neutral, ends_membership, is_unparted, all_from, is_bystander, may_say, only_bystanders, meets_by, all_meet_by}
use Rattle.iio_worlds.specs.Stance.{Stance, has_input, has_others, stance_of, opens_of, is_so_at, is_so, none_so, may_part, item_meets, items_meet, step_meets, has_seat, one_has}
use Rattle.iio_worlds.proofs.TwoWorldsLaws.{all_meet}
use Rattle.iio_worlds.proofs.StartLaws.{quiet_all, all_met, is_met, heard, each_kept, open_by, open_at_is, all_unparted, start_decides}

-- ---- the second rule, by which devices another has open

passed : (n k : ℕ) (f : Device → Bool) (ds : List Device) → n < k → all_from (λ i d. not (n == i && f d)) k ds ≡ true
passed n k f [] below = refl
passed n k f (d ∷ ds) below =
    let apart : (n == k) ≡ false = grind (arith, nat_tests) in
    let next : n < suc k = omega arith in
    ap (λ b. not (b && f d) && all_from (λ i d. not (n == i && f d)) (suc k) ds) apart ∙ passed n (suc k) f ds next

at_one : (j k : ℕ) (f : Device → Bool) (ds : List Device) → all_from (λ i d. not (j + k == i && f d)) k ds ≡ not (is_so_at (map f ds) j)
at_one j k f [] = refl
at_one zero k f (d ∷ ds) =
    let here : (0 + k == k) ≡ true = grind (arith, nat_tests) in
    let next : 0 + k < suc k = omega arith in
    ap (λ b. not (b && f d) && all_from (λ i d. not (0 + k == i && f d)) (suc k) ds) here ∙ ap (λ b. not (f d) && b) (passed (0 + k) (suc k) f ds next)
    ∙ alone (f d)
  where
    alone : (b : Bool) → (not b && true) ≡ not b
    alone b = search rules
at_one (suc j) k f (d ∷ ds) = grind (arith, common_steps, all_from, at_one j (suc k) f ds)

never : (k : ℕ) (p : ℕ → Bool) (f : Device → Bool) (ds : List Device) → ((j : ℕ) → p j ≡ false) → all_from (λ i d. not (p i && f d)) k ds ≡ true
never k p f [] none = refl
never k p f (d ∷ ds) none = ap (λ b. not (b && f d) && all_from (λ i d. not (p i && f d)) (suc k) ds) (none k) ∙ never (suc k) p f ds none

abbrev so_by : List Bool → Option ℕ → Bool
so_by bs o = elim o [ None ↦ false | Some k ↦ is_so_at bs k ]

at_named : (f : Device → Bool) (ds : List Device) (o : Option ℕ) → all_from (λ i d. not (is_at o i && f d)) 0 ds ≡ not (so_by (map f ds) o)
at_named f ds None = never 0 (λ i. false) f ds (λ j. refl)
at_named f ds (Some k) = let place : k ≡ k + 0 = omega arith in ap (λ n. all_from (λ i d. not (n == i && f d)) 0 ds) place ∙ at_one k 0 f ds

at_all : (k : ℕ) (f : Device → Bool) (ds : List Device) → all_from (λ i d. not (f d)) k ds ≡ none_so (map f ds)
at_all k f [] = refl
at_all k f (d ∷ ds) = ap (λ b. not (f d) && b) (at_all (suc k) f ds)

-- ---- an item

own_part : (s : Setup) (a name : List ℕ) (item : Item) (r : Registry) → bytes_eq name a ≡ true
    → all_from (is_met s a (Heard name item)) 0 r.devices ≡ may_part (opens_of s.desc (stance_of a r)) item
own_part s a name (Said (Ok (Close device))) r is =
    ap (λ b. all_from (λ k d. not ((b && is_at (find_device s.desc device) k) && has_others a d)) 0 r.devices) is
    ∙ at_named (has_others a) r.devices (find_device s.desc device)
own_part s a name (Said (Ok (Remask device text))) r is =
    ap (λ b. all_from (λ k d. not ((b && is_at (find_device s.desc device) k) && has_others a d)) 0 r.devices) is
    ∙ at_named (has_others a) r.devices (find_device s.desc device)
own_part s a name (End refusal) r is = ap (λ b. all_from (λ k d. not (b && has_others a d)) 0 r.devices) is ∙ at_all 0 (has_others a) r.devices
own_part s a name item r is = never 0 (λ i. false) (has_others a) r.devices (λ j. refl)

open_by_stance : (r : Registry) (a : List ℕ) (o : Option ℕ) → open_by r a o ≡ so_by (map (has_input a) r.devices) o
open_by_stance r a o = search (rules, open_at_is)

open_is : (s : Setup) (r : Registry) (a device : List ℕ) → has_open s r a device ≡ is_so s.desc (map (has_input a) r.devices) device
open_is s r a device = open_by_stance r a (find_device s.desc device)

pub say_same : (f g : List ℕ → Bool) (item : Item) → ((device : List ℕ) → f device ≡ g device) → may_say f item ≡ may_say g item
say_same f g item same = search rules

and_true : (b : Bool) → (b && true) ≡ b
and_true b = search rules

pub stance_decides : (s : Setup) (r : Registry) (a name : List ℕ) (item : Item)
    → meets_by s r a name item ≡ item_meets (opens_of s.desc (stance_of a r)) (bytes_eq name a) item
stance_decides s r a name item = by_speaker (bytes_eq name a) refl
  where
    by_speaker : (b : Bool) → bytes_eq name a ≡ b → meets_by s r a name item ≡ item_meets (opens_of s.desc (stance_of a r)) b item
    by_speaker true is = ap (λ b. (b || is_neutral s r a item) && all_from (is_met s a (Heard name item)) 0 r.devices) is ∙ own_part s a name item r is
    by_speaker false is =
        ap (λ b. (bytes_eq name a || is_neutral s r a item) && b) (all_unparted s a name item 0 r.devices is)
        ∙ and_true (bytes_eq name a || is_neutral s r a item)
        ∙ ap (λ b. b || is_neutral s r a item) is
        ∙ say_same (has_open s r a) (is_so s.desc (map (has_input a) r.devices)) item (open_is s r a)

items_decided : (s : Setup) (r : Registry) (a name : List ℕ) (items : List Item)
    → all_meet_by s r a name items ≡ items_meet (opens_of s.desc (stance_of a r)) (bytes_eq name a) items
items_decided s r a name [] = refl
items_decided s r a name (item ∷ items) = simp (stance_decides, items_decided s r a name items)

-- ---- events that meet the rules whatever is open

pub record IsPlain (s : Setup) (a : List ℕ) (e : Event) : Type 0 where
  pub neutral : (r : Registry) → others_are_neutral s r a e ≡ true
  pub parts : (k : ℕ) → ends_membership s a e k ≡ false

AllPlain : Setup → List ℕ → List Event → Type 0
AllPlain s a [] = Unit {0}
AllPlain s a (e ∷ es) = IsPlain s a e × AllPlain s a es

unparted : (s : Setup) (a : List ℕ) (e : Event) (k : ℕ) (ds : List Device) → ((j : ℕ) → ends_membership s a e j ≡ false)
    → all_from (is_unparted s a e) k ds ≡ true
unparted s a e k [] none = refl
unparted s a e k (d ∷ ds) none = search (rules, all_from, unparted s a e (suc k) ds none)

plain_meets : (s : Setup) (r : Registry) (a : List ℕ) (e : Event) → IsPlain s a e → is_bystander s r a e ≡ true
plain_meets s r a e is = ap (λ b. b && all_from (is_unparted s a e) 0 r.devices) (is.neutral r) ∙ unparted s a e 0 r.devices is.parts

plain_next : (s : Setup) (a : List ℕ) (h : List Event) (e : Event) → IsPlain s a e → only_bystanders s a h ≡ true → only_bystanders s a (e ∷ h) ≡ true
plain_next s a h e is only = and_from (is_bystander s (registry_after s h) a e) (only_bystanders s a h) (plain_meets s (registry_after s h) a e is) only

plain_all : (s : Setup) (a : List ℕ) (es h : List Event) → AllPlain s a es → only_bystanders s a h ≡ true → only_bystanders s a (and_then h es) ≡ true
unfolding AllPlain
plain_all s a [] h are only = only
plain_all s a (e ∷ es) h are only = plain_all s a es (e ∷ h) are.1 (plain_next s a h e are.0 only)

handled_plain : (s : Setup) (a : List ℕ) (trigger : ℕ) (es : List Handed) → AllPlain s a (map (λ (e : Handed). Handled trigger e.dev) es)
unfolding AllPlain
handled_plain s a trigger [] = tt
handled_plain s a trigger (e ∷ es) = (record { neutral = λ r. refl; parts = λ k. refl }, handled_plain s a trigger es)

-- ---- a step

-- an arrival makes nobody join or leave
stance_arrived : (s : Setup) (a : List ℕ) (h : List Event) (name bytes : List ℕ)
    → stance_of a (registry_after s (Arrived name bytes ∷ h)) ≡ stance_of a (registry_after s h)
stance_arrived s a h name bytes = simp (each_kept)

feed_decides : (s : Setup) (a : List ℕ) (h : List Event) (name bytes : List ℕ) → only_bystanders s a h ≡ true
    → only_bystanders s a (with_step s h (Feed name bytes)) ≡ step_meets s a (told s h) (Feed name bytes)
feed_decides s a h name bytes only = by_end (has_ended name (registry_of (told s h)).users)
  where
    items : List Item
    items = items_from (begun_by name (told s h).lines) bytes

    stance_is : stance_of a (registry_after s h) ≡ stance_of a (registry_of (told s h))
    stance_is = ap (stance_of a) (sym (registry_is s h))

    live : only_bystanders s a (and_then (Arrived name bytes ∷ h) (heard name items))
        ≡ items_meet (opens_of s.desc (stance_of a (registry_of (told s h)))) (bytes_eq name a) items
    live =
        start_decides s a name items (Arrived name bytes ∷ h) (plain_next s a h (Arrived name bytes) (record { neutral = λ r. refl; parts = λ k. refl }) only)
        ∙ items_decided s (registry_after s (Arrived name bytes ∷ h)) a name items
        ∙ ap (λ (x : Stance). items_meet (opens_of s.desc x) (bytes_eq name a) items) (stance_arrived s a h name bytes ∙ stance_is)

    by_end : (b : Bool) → only_bystanders s a (and_then h (cond b [] (Arrived name bytes ∷ heard name items)))
        ≡ (b || items_meet (opens_of s.desc (stance_of a (registry_of (told s h)))) (bytes_eq name a) items)
    by_end true = only
    by_end false = live

drop_decides : (s : Setup) (a : List ℕ) (h : List Event) (name : List ℕ) → only_bystanders s a h ≡ true
    → only_bystanders s a (with_step s h (Drop name)) ≡ step_meets s a (told s h) (Drop name)
drop_decides s a h name only =
    ap (λ b. all_from (is_unparted s a (Dropped name)) 0 (registry_after s h).devices && b) only
    ∙ and_true (all_from (is_unparted s a (Dropped name)) 0 (registry_after s h).devices)
    ∙ all_met s a (Dropped name) 0 (registry_after s h).devices (quiet_all s a h (all_meet s a h only)).0
    ∙ by_name (bytes_eq name a)
    ∙ ap (λ (r : Registry). not (bytes_eq name a) || none_so (map (has_others a) r.devices)) (sym (registry_is s h))
  where
    by_name : (b : Bool) → all_from (λ k d. not (b && has_others a d)) 0 (registry_after s h).devices
        ≡ (not b || none_so (map (has_others a) (registry_after s h).devices))
    by_name true = at_all 0 (has_others a) (registry_after s h).devices
    by_name false = never 0 (λ i. false) (has_others a) (registry_after s h).devices (λ j. refl)

pub step_decides : (s : Setup) (a : List ℕ) (h : List Event) (t : Step) → only_bystanders s a h ≡ true
    → only_bystanders s a (with_step s h t) ≡ step_meets s a (told s h) t
unfolding AllPlain
step_decides s a h (Feed name bytes) only = feed_decides s a h name bytes only
step_decides s a h (Drop name) only = drop_decides s a h name only
step_decides s a h (Fire trigger moment) only =
    plain_all s a (Polled trigger moment ∷ map (λ (e : Handed). Handled trigger e.dev) (poll_entries (told s h) trigger moment)) h
    (record { neutral = λ r. refl; parts = λ k. refl }, handled_plain s a trigger (poll_entries (told s h) trigger moment)) only
step_decides s a h (Poll trigger moment) only = plain_next s a h (Polled trigger moment) (record { neutral = λ r. refl; parts = λ k. refl }) only
step_decides s a h (Handle trigger device) only = plain_next s a h (Handled trigger device) (record { neutral = λ r. refl; parts = λ k. refl }) only
step_decides s a h (Sense device moment) only = plain_next s a h (Sensed device moment) (record { neutral = λ r. refl; parts = λ k. refl }) only
step_decides s a h (SetClock moment) only = plain_next s a h (Clock moment) (record { neutral = λ r. refl; parts = λ k. refl }) only
step_decides s a h (Unplug device) only = plain_next s a h (Unplugged device) (record { neutral = λ r. refl; parts = λ k. refl }) only

-- ---- by the clients

is_some_map : {A B : Type 0} (f : A → B) (o : Option A) → is_some (option_map f o) ≡ is_some o
is_some_map f o = search rules

seated : (w : Who) (xs : List Seat) → is_member w (map member_of_seat xs) ≡ is_some (seat_of w xs)
seated w [] = refl
seated w (x ∷ xs) = search (rules, same, seated w xs)

pub seats_tell : (m : Told) (name : List ℕ) (client : ClientRecord) (k : ℕ) (st : Station) → IsClientOf m name client → slice_get m.stations k ≡ Some st
    → is_member (Conn name) (device_of st).members ≡ has_seat k client
seats_tell m name client k st is here = search (rules, seated, is_some_map)

-- each member is a connection that is there, or nobody's
abbrev pub AllThere : List (List ℕ) → List Member → Type 0
AllThere names [] = Unit {0}
AllThere names (x ∷ ms) = IsThere names x.who × AllThere names ms

pub seats_there : (names : List (List ℕ)) (st : Station) (xs : List Seat) → Every (IsSeat names st.shape) xs → AllThere names (map member_of_seat xs)
seats_there names st [] are = tt
seats_there names st (x ∷ xs) are = (are.0.there, seats_there names st xs are.1)

pub station_there : (P : Station → Type 0) (xs : List Station) (k : ℕ) (st : Station) → Every P xs → slice_get xs k ≡ Some st → P st
station_there P [] k st are is = cc
station_there P (x ∷ xs) zero st are is = let one : x ≡ st = cc in subst P one are.0
station_there P (x ∷ xs) (suc k) st are is = station_there P xs k st are.1 is

-- whether one of these names but `a` is this one
abbrev one_is : List ℕ → List (List ℕ) → List ℕ → Bool
one_is a [] name = false
one_is a (n ∷ ns) name = (not (bytes_eq n a) && bytes_eq n name) || one_is a ns name

one_among : (a name : List ℕ) (ns : List (List ℕ)) → bytes_eq a name ≡ false → is_in ns name ≡ true → one_is a ns name ≡ true
one_among a name [] apart is = cc
one_among a name (n ∷ ns) apart is = search (rules, same, is_in, or_left, and_from, not_from_false, or_right, one_among a name ns apart)

not_one : (a name : List ℕ) (ns : List (List ℕ)) → bytes_eq a name ≡ true → one_is a ns name ≡ false
not_one a name [] is = refl
not_one a name (n ∷ ns) is = search (rules, not_one a name ns is)

-- member by member
abbrev one_of : List ℕ → List (List ℕ) → List Member → Bool
one_of a [] ms = false
one_of a (n ∷ ns) ms = (not (bytes_eq n a) && is_member (Conn n) ms) || one_of a ns ms

abbrev one_at : List ℕ → List (List ℕ) → Who → Bool
one_at a ns (Conn name) = one_is a ns name
one_at a ns (Inner device) = false

shuffled : (p q u v w : Bool) → ((p && (q || u)) || (v || w)) ≡ (((p && q) || v) || ((p && u) || w))
shuffled p q u v w = search rules

no_others : (a : List ℕ) (ns : List (List ℕ)) → one_of a ns [] ≡ false
no_others a [] = refl
no_others a (n ∷ ns) = search (rules, no_others a ns)

one_first : (a : List ℕ) (ns : List (List ℕ)) (m : Member) (ms : List Member) → one_of a ns (m ∷ ms) ≡ (one_at a ns m.who || one_of a ns ms)
one_first a [] m ms = search rules
one_first a (n ∷ ns) m ms = search (rules, same, shuffled, one_first a ns m ms)

one_member : (a : List ℕ) (ns : List (List ℕ)) (w : Who) → IsThere ns w → not (mine (Conn a) w) ≡ one_at a ns w
one_member a ns w is = search (rules, same, not_one, one_among)

others_are : (a : List ℕ) (ns : List (List ℕ)) (ms : List Member) → AllThere ns ms → has_other (Conn a) ms ≡ one_of a ns ms
others_are a ns [] are = sym (no_others a ns)
others_are a ns (m ∷ ms) are = search (rules, one_member, one_first, others_are a ns ms are.1)

one_of_is : (a : List ℕ) (ns : List (List ℕ)) (d : Device) → one_of a ns d.members ≡ one_has a ns d
one_of_is a [] d = refl
one_of_is a (n ∷ ns) d = ap (λ b. (not (bytes_eq n a) && is_member (Conn n) d.members) || b) (one_of_is a ns d)

pub others_are_there : (s : Setup) (m : Told) (a : List ℕ) (k : ℕ) (st : Station) → IsBench s m → slice_get m.stations k ≡ Some st
    → has_others a (device_of st) ≡ one_has a (names_of m) (device_of st)
others_are_there s m a k st bench here =
    others_are a (names_of m) (device_of st).members
    (seats_there (names_of m) st st.seats (station_there (IsStation (names_of m)) m.stations k st bench.stations here).seats)
    ∙ one_of_is a (names_of m) (device_of st)
