-- What was open when a feed began decides whether its items meet the rules.
use Rattle.std.proofs.Common.{◌≡◌, ℕ, suc, ◌&&◌, ◌||◌, not, Bool, true, false, List, [], ◌∷◌, ◌++◌, map, Option, Some, None, Result, Ok, option_map, slice_get, cond, refl, sym, ap, ◌∙◌, subst, is_ok, ◌==◌, rules, arith}
use Rattle.std.proofs.lemmas.Grind.{common_steps}
use Rattle.std.specs.Str.{bytes_eq}
use Rattle.std.proofs.lemmas.Slice.Eq.{bytes_eq-Decides}
use Rattle.std.proofs.lemmas.Bool.{false_from_ne_true, true≢false}
use Rattle.iio_base.specs.Refusals.{unless_refused}
use Rattle.iio_text.specs.declared.errors.Errno.{Errno}
use Rattle.iio_desc.specs.Description.{find_device}
use Rattle.iiod_grammar.specs.Command.{Open, Close, Read, ReadBuf, SetTrig, Remask, EvOpen, EvRead, EvClose}
use Rattle.iiod_grammar.specs.Stream.{Item, Said, Written, Streamed, End}
use Rattle.iio_core.specs.Lists.{map_from}
use Rattle.iio_history.specs.Who.{Who, Conn, Inner, same, is_among}
use Rattle.iio_history.specs.Event.{Event, Arrived, Heard, Dropped}
use Rattle.iio_history.specs.Registry.{Setup, Member, Device, Registry, buffers_of, is_member, is_named, without_members}
use Rattle.iio_history.specs.Opening.{member_asked, open_answer}
use Rattle.iio_history.specs.Act.{Act, Nothing, inner_member, inner_joins, inner_joining, inners_left, open_act, close_act, end_act, Joining, Leaving, Ending, Reading, Asking, only, accepted, asking, found, item_act, act_of}
use Rattle.iio_history.specs.Fold.{members_after, device_after, registry_after, registry_next}
use Rattle.iio_history.specs.Transcript.{and_then}
use Rattle.iio_history.proofs.WhoLaws.{same_is, same_sym}
use Rattle.iio_worlds.specs.Bystanders.{mine, has_open_at, has_open, is_neutral, ends_membership, has_other, is_unparted, all_from, is_bystander, only_bystanders, meets_by, all_meet_by}
use Rattle.iio_worlds.proofs.Alone.{get_map, Led}
use Rattle.iio_worlds.proofs.OwnLaws.{member_left, member_masked, other_joined, other_masked}
use Rattle.iio_desc.specs.Kind.{is_input, is_output, is_over}
use Rattle.iio_worlds.proofs.ActLaws.{AllEven, IsOwn}
use Rattle.iio_worlds.proofs.OthersLaws.{IsForeign}
use Rattle.iio_worlds.proofs.QuietLaws.{IsQuiet, rules_met, quiet_own, quiet_foreign, quiet_first}
use Rattle.iio_worlds.proofs.TwoWorldsLaws.{OnlyBystanders, all_meet, meet_all, before_events}

-- ---- after events that meet the rules, the connection doesn't see whether it is alone

speaks : List ℕ → Event → Bool
speaks a (Arrived name bytes) = bytes_eq name a
speaks a (Heard name item) = bytes_eq name a
speaks a (Dropped name) = bytes_eq name a
speaks a e = true

own_by : (a : List ℕ) (e : Event) → speaks a e ≡ true → IsOwn a e
unfolding speaks
own_by a e is = search rules

foreign_by : (a : List ℕ) (e : Event) → speaks a e ≡ false → IsForeign a e
unfolding speaks
foreign_by a e is = search rules

pub quiet_all : (s : Setup) (a : List ℕ) (h : List Event) → OnlyBystanders s a h → IsQuiet a (registry_after s h)
quiet_all s a [] only = quiet_first s a
quiet_all s a (e ∷ h) only = by_who (speaks a e) refl (quiet_all s a h only.1)
  where
    by_who : (b : Bool) → speaks a e ≡ b → IsQuiet a (registry_after s h) → IsQuiet a (registry_after s (e ∷ h))
    by_who true is quiet = quiet_own s a (registry_after s h) e (own_by a e is) (rules_met s a (registry_after s h) e only.0 quiet.0).1 quiet
    by_who false is quiet = quiet_foreign s a (registry_after s h) e (foreign_by a e is) (rules_met s a (registry_after s h) e only.0 quiet.0).0 quiet

-- ---- then the second rule depends only on another member

abbrev pub is_met : Setup → List ℕ → Event → ℕ → Device → Bool
is_met s a e k d = not (ends_membership s a e k && has_other (Conn a) d.members)

met_by : (w : Who) (p m : Bool) (ms : List Member) → Led w ms → is_member w ms ≡ m → not (p && m && has_other w ms) ≡ not (p && has_other w ms)
met_by w p m ms led is = search rules

pub all_met : (s : Setup) (a : List ℕ) (e : Event) (k : ℕ) (ds : List Device) → AllEven (Conn a) ds
    → all_from (is_unparted s a e) k ds ≡ all_from (is_met s a e) k ds
all_met s a e k [] even = refl
all_met s a e k (d ∷ ds) even =
    ap (λ b. b && all_from (is_unparted s a e) (suc k) ds)
    (met_by (Conn a) (ends_membership s a e k) (is_member (Conn a) d.members) d.members (even 0 d refl).led refl)
    ∙ ap (λ b. is_met s a e k d && b) (all_met s a e (suc k) ds (λ j x here. even (suc j) x here))

by_start : (s : Setup) (a name : List ℕ) (item : Item) (h : List Event) → OnlyBystanders s a h
    → is_bystander s (registry_after s h) a (Heard name item) ≡ meets_by s (registry_after s h) a name item
by_start s a name item h only = search (rules, only, all_met, quiet_all)

-- ---- an item makes nobody join or leave but its speaker

-- whose membership it is: its own, or an inner one
abbrev IsHis : Who → Who → Type 0
IsHis w (Conn name) = Conn name ≡ w
IsHis w (Inner device) = Unit {0}

abbrev AreHis : Who → List Who → Type 0
AreHis w [] = Unit {0}
AreHis w (x ∷ gone) = IsHis w x × AreHis w gone

abbrev IsBy : Who → Act → Type 0
IsBy w (Joining m) = IsHis w m.who
IsBy w (Leaving gone) = AreHis w gone
IsBy w (Ending gone) = AreHis w gone
IsBy w act = Unit {0}

by_only : (w : Who) (b : Bool) (act : Act) → IsBy w act → IsBy w (only b act)
by_only w b act is = search rules

by_accepted : {A : Type 0} (w : Who) (act : A → Act) (answer : Result A Errno) → ((x : A) → IsBy w (act x)) → IsBy w (accepted act answer)
by_accepted w act answer is = search rules

by_open : (w : Who) (m : Member) (o : Option Errno) → IsHis w m.who → IsBy w (accepted (λ m. Joining m) (unless_refused m o))
by_open w m o is = search rules

by_opening : (s : Setup) (r : Registry) (name : List ℕ) (samples : ℕ) (text : List ℕ) (cyclic : Bool) (o : Option ℕ) (k : ℕ) (d : Device)
    → IsBy (Conn name) (open_act s r name samples text cyclic o k d)
by_opening s r name samples text cyclic None k d = tt
by_opening s r name samples text cyclic (Some j) k d = by (j == k)
  where
    inner : (x : Option Device)
        → IsBy (Conn name) (elim x
        [ None ↦ Nothing | Some y ↦ inner_joins y.kind j k d (is_ok (open_answer s r y (Conn name) (buffers_of r.users name j) samples text cyclic)) ])
    inner None = tt
    inner (Some y) = by_only (Conn name) _ (Joining (inner_member j d)) tt

    by : (b : Bool) → IsBy (Conn name)
        (cond b (accepted (λ m. Joining m) (open_answer s r d (Conn name) (buffers_of r.users name k) samples text cyclic))
        (inner_joining s r name samples text cyclic j k d))
    by true = by_open (Conn name) (member_asked d (Conn name) (buffers_of r.users name k) samples text cyclic) _ refl
    by false = inner (slice_get r.devices j)

by_closing : (r : Registry) (name : List ℕ) (o : Option ℕ) (k : ℕ) (d : Device) → IsBy (Conn name) (close_act r name o k d)
by_closing r name o k d = search rules

his_joined : (w : Who) (b : Bool) (j : ℕ) (more : List Who) → AreHis w more → AreHis w (cond b (Inner j ∷ []) [] ++ more)
his_joined w b j more are = search rules

his_lefts : (w : Who) (gone : List Who) (k j : ℕ) (ds : List Device) → AreHis w (inners_left gone k j ds)
his_lefts w gone k j [] = tt
his_lefts w gone k j (d ∷ ds) = grind (arith, common_steps, his_joined, is_over, his_lefts w gone k (suc j) ds)

by_ending : (r : Registry) (name : List ℕ) (k : ℕ) (d : Device) → IsBy (Conn name) (end_act r name k d)
by_ending r name k d = (refl, by (is_input d.kind))
  where
    by : (b : Bool) → AreHis (Conn name) (cond b (inners_left (Conn name ∷ []) k 0 r.devices) [])
    by true = his_lefts (Conn name) (Conn name ∷ []) k 0 r.devices
    by false = tt

by_item : (s : Setup) (r : Registry) (name : List ℕ) (item : Item) (k : ℕ) (d : Device) → IsBy (Conn name) (item_act s r name item k d)
by_item s r name (Said (Ok (Open device samples text cyclic))) k d = by_opening s r name samples text cyclic (find_device s.desc device) k d
by_item s r name (Said (Ok (Close device))) k d = by_closing r name (find_device s.desc device) k d
by_item s r name (Said (Ok (ReadBuf device bytes))) k d = by_only (Conn name) (is_named s device k && not (is_output d.kind)) (Reading (Conn name) bytes) tt
by_item s r name (Said (Ok (Read device place attribute))) k d =
    by_only (Conn name) (is_named s device k) _
    (by_accepted (Conn name) (asking d) (found d (Conn name) place attribute) (λ target. by_only (Conn name) _ Asking tt))
by_item s r name (Written device (Some target) payload) k d = grind (arith, common_steps)
by_item s r name (Streamed device payload) k d = search rules
by_item s r name (Said (Ok (SetTrig device trigger))) k d = search rules
by_item s r name (Said (Ok (Remask device text))) k d = search rules
by_item s r name (Said (Ok (EvOpen device))) k d = search rules
by_item s r name (Said (Ok (EvRead device))) k d = search rules
by_item s r name (Said (Ok (EvClose device))) k d = search rules
by_item s r name (End refusal) k d = by_ending r name k d
by_item s r name item k d = tt

-- ---- what another's act leaves as it is: whether the connection is a member

joined_member : (v : Who) (ms : List Member) (m : Member) → same v m.who ≡ false → is_member v (ms ++ m ∷ []) ≡ is_member v ms
joined_member v [] m is = ap (λ b. b || false) is
joined_member v (x ∷ ms) m is = ap (λ b. same v x.who || b) (joined_member v ms m is)

his_apart : (a : List ℕ) (w x : Who) → same (Conn a) w ≡ false → IsHis w x → same (Conn a) x ≡ false
his_apart a w x apart is = search rules

among_apart : (a : List ℕ) (w : Who) (gone : List Who) → same (Conn a) w ≡ false → AreHis w gone → is_among (Conn a) gone ≡ false
among_apart a w [] apart are = refl
among_apart a w (x ∷ gone) apart are = ap (λ b. b || is_among (Conn a) gone) (his_apart a w x apart are.0) ∙ among_apart a w gone apart are.1

asked_kept : (a : List ℕ) (w : Who) (act : Act) (ms : List Member) → same (Conn a) w ≡ false → IsBy w act
    → is_member (Conn a) (members_after act ms) ≡ is_member (Conn a) ms
asked_kept a w act ms apart by = search (rules, joined_member, his_apart, member_masked, member_left, among_apart)

-- ---- what one's own act leaves as it is: whether another is a member

his_mine : (w x : Who) → IsHis w x → mine w x ≡ true
his_mine w x is = search rules

-- none of those that leave is another connection
his_among : (w x : Who) (gone : List Who) → AreHis w gone → is_among x gone ≡ true → mine w x ≡ true
his_among w x [] are is = cc
his_among w x (y ∷ gone) are is = search (rules, same, same_is, his_mine, his_among w x gone are.1)

left_other_by : (g : Bool) (w : Who) (m : Member) (zs ms : List Member) → (g ≡ true → mine w m.who ≡ true) → has_other w zs ≡ has_other w ms
    → has_other w (cond g zs (m ∷ zs)) ≡ (not (mine w m.who) || has_other w ms)
left_other_by g w m zs ms own h = search rules

left_other : (w : Who) (gone : List Who) (ms : List Member) → AreHis w gone → has_other w (without_members gone ms) ≡ has_other w ms
left_other w gone [] are = refl
left_other w gone (m ∷ ms) are = search (rules, left_other_by, his_among, left_other w gone ms are)

others_kept : (w : Who) (act : Act) (ms : List Member) → IsBy w act → has_other w (members_after act ms) ≡ has_other w ms
others_kept w act ms by = search (rules, other_joined, his_mine, other_masked, left_other)

pub each_kept : (v : Device → Bool) (f : ℕ → Device → Device) (k : ℕ) (ds : List Device) → ((j : ℕ) (d : Device) → v (f j d) ≡ v d)
    → map v (map_from f k ds) ≡ map v ds
each_kept v f k [] all = refl
each_kept v f k (d ∷ ds) all = ap (λ b. b ∷ map v (map_from f (suc k) ds)) (all k d) ∙ ap (λ bs. v d ∷ bs) (each_kept v f (suc k) ds all)

-- ---- the rules, by what they need to know of the devices

abbrev pub asked_of : List ℕ → Device → Bool
asked_of a d = is_input d.kind && is_member (Conn a) d.members

abbrev pub others_of : List ℕ → Device → Bool
others_of a d = has_other (Conn a) d.members

abbrev pub held_in : Option Bool → Bool
held_in x = elim x [ None ↦ false | Some b ↦ b ]

opened_in : (a : List ℕ) (x : Option Device)
    → elim x [ None ↦ false | Some d ↦ is_input d.kind && is_member (Conn a) d.members ] ≡ held_in (option_map (asked_of a) x)
opened_in a x = search rules

pub open_at_is : (r : Registry) (a : List ℕ) (k : ℕ) → has_open_at r a k ≡ held_in (slice_get (map (asked_of a) r.devices) k)
open_at_is r a k = opened_in a (slice_get r.devices k) ∙ ap held_in (sym (get_map (asked_of a) r.devices k))

abbrev pub open_by : Registry → List ℕ → Option ℕ → Bool
open_by r a o = elim o [ None ↦ false | Some k ↦ has_open_at r a k ]

open_by_same : (r q : Registry) (a : List ℕ) (o : Option ℕ) → map (asked_of a) r.devices ≡ map (asked_of a) q.devices → open_by r a o ≡ open_by q a o
open_by_same r q a o alike = search (rules, open_at_is)

open_same : (s : Setup) (r q : Registry) (a device : List ℕ) → map (asked_of a) r.devices ≡ map (asked_of a) q.devices
    → has_open s r a device ≡ has_open s q a device
open_same s r q a device alike = open_by_same r q a (find_device s.desc device) alike

neutral_same : (s : Setup) (r q : Registry) (a : List ℕ) (item : Item) → map (asked_of a) r.devices ≡ map (asked_of a) q.devices
    → is_neutral s r a item ≡ is_neutral s q a item
neutral_same s r q a item alike = search (rules, open_same)

met_is : (s : Setup) (a : List ℕ) (e : Event) (k : ℕ) (ds : List Device)
    → all_from (is_met s a e) k ds ≡ all_from (λ j b. not (ends_membership s a e j && b)) k (map (others_of a) ds)
met_is s a e k [] = refl
met_is s a e k (d ∷ ds) = ap (λ b. is_met s a e k d && b) (met_is s a e (suc k) ds)

met_same : (s : Setup) (r q : Registry) (a : List ℕ) (e : Event) → map (others_of a) r.devices ≡ map (others_of a) q.devices
    → all_from (is_met s a e) 0 r.devices ≡ all_from (is_met s a e) 0 q.devices
met_same s r q a e alike = met_is s a e 0 r.devices ∙ ap (all_from (λ j b. not (ends_membership s a e j && b)) 0) alike ∙ sym (met_is s a e 0 q.devices)

-- another's item ends no membership
never_parts : (s : Setup) (a name : List ℕ) (item : Item) (k : ℕ) → bytes_eq name a ≡ false → ends_membership s a (Heard name item) k ≡ false
never_parts s a name item k apart = search rules

pub all_unparted : (s : Setup) (a name : List ℕ) (item : Item) (k : ℕ) (ds : List Device) → bytes_eq name a ≡ false
    → all_from (is_met s a (Heard name item)) k ds ≡ true
all_unparted s a name item k [] apart = refl
all_unparted s a name item k (d ∷ ds) apart = simp (never_parts, all_unparted s a name item (suc k) ds apart)

-- ---- the items of a feed

-- what the rules need to know of the devices for a speaker's items is the same in two registries
abbrev AreSame : List ℕ → List ℕ → Registry → Registry → Type 0
AreSame a name r q =
    (bytes_eq name a ≡ false → map (asked_of a) r.devices ≡ map (asked_of a) q.devices)
    × (bytes_eq name a ≡ true → map (others_of a) r.devices ≡ map (others_of a) q.devices)

meets_same : (s : Setup) (a name : List ℕ) (item : Item) (r q : Registry) (t : Bool) → bytes_eq name a ≡ t → AreSame a name r q
    → meets_by s r a name item ≡ meets_by s q a name item
meets_same s a name item r q true is alike =
    ap (λ b. (b || is_neutral s r a item) && all_from (is_met s a (Heard name item)) 0 r.devices) is ∙ met_same s r q a (Heard name item) (alike.1 is)
    ∙ ap (λ b. (b || is_neutral s q a item) && all_from (is_met s a (Heard name item)) 0 q.devices) (sym is)
meets_same s a name item r q false is alike =
    ap (λ b. (bytes_eq name a || b) && all_from (is_met s a (Heard name item)) 0 r.devices) (neutral_same s r q a item (alike.0 is))
    ∙ ap (λ b. (bytes_eq name a || is_neutral s q a item) && b) (all_unparted s a name item 0 r.devices is ∙ sym (all_unparted s a name item 0 q.devices is))

still_same : (s : Setup) (a name : List ℕ) (item : Item) (r q : Registry) → AreSame a name r q → AreSame a name (registry_next s r (Heard name item)) q
still_same s a name item r q alike = (
  λ apart. each_kept (asked_of a) (device_after s r (Heard name item)) 0 r.devices
      (λ j d. ap (λ b. is_input d.kind && b)
      (asked_kept a (Conn name) (act_of s r (Heard name item) j d) d.members (same_sym (Conn a) (Conn name) ∙ apart) (by_item s r name item j d)))
      ∙ alike.0 apart,
  λ is. each_kept (others_of a) (device_after s r (Heard name item)) 0 r.devices
      (λ j d. others_kept (Conn a) (act_of s r (Heard name item) j d) d.members
      (subst (λ w. IsBy (Conn w) (act_of s r (Heard name item) j d)) ((bytes_eq-Decides name a).0 is) (by_item s r name item j d))) ∙ alike.1 is,
)

abbrev pub heard : List ℕ → List Item → List Event
heard name items = map (λ item. Heard name item) items

decided : (s : Setup) (a name : List ℕ) (items : List Item) (h : List Event) (q : Registry) → OnlyBystanders s a h → AreSame a name (registry_after s h) q
    → only_bystanders s a (and_then h (heard name items)) ≡ all_meet_by s q a name items
decided s a name [] h q only alike = meet_all s a h only
decided s a name (item ∷ items) h q only alike =
    by_rule (is_bystander s (registry_after s h) a (Heard name item)) refl
    (λ next. decided s a name items (Heard name item ∷ h) q next (still_same s a name item (registry_after s h) q alike))
  where
    it : is_bystander s (registry_after s h) a (Heard name item) ≡ meets_by s q a name item
    it = by_start s a name item h only ∙ meets_same s a name item (registry_after s h) q (bytes_eq name a) refl alike

    by_rule : (b : Bool) → is_bystander s (registry_after s h) a (Heard name item) ≡ b
        → (OnlyBystanders s a (Heard name item ∷ h) → only_bystanders s a (and_then (Heard name item ∷ h) (heard name items)) ≡ all_meet_by s q a name items)
        → only_bystanders s a (and_then (Heard name item ∷ h) (heard name items)) ≡ (meets_by s q a name item && all_meet_by s q a name items)
    by_rule true is rest = rest (is, only) ∙ ap (λ b. b && all_meet_by s q a name items) (sym is ∙ it)
    by_rule false is rest =
        false_from_ne_true (only_bystanders s a (and_then (Heard name item ∷ h) (heard name items)))
        (λ all.
        let met = (before_events s a (heard name items) (Heard name item ∷ h) (all_meet s a (and_then (Heard name item ∷ h) (heard name items)) all)).0 in
        true≢false (sym met ∙ is))
        ∙ ap (λ b. b && all_meet_by s q a name items) (sym is ∙ it)

pub start_decides : (s : Setup) (a name : List ℕ) (items : List Item) (h : List Event) → only_bystanders s a h ≡ true
    → only_bystanders s a (and_then h (heard name items)) ≡ all_meet_by s (registry_after s h) a name items
start_decides s a name items h only = decided s a name items h (registry_after s h) (all_meet s a h only) ((λ apart. refl), (λ is. refl))
