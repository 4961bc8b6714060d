-- An input device's inner members: what the calls of the device make of it, if these are told as inner ones.
use Rattle.std.proofs.Common.{◌≡◌, ℕ, ◌-◌, Bool, true, false, List, [], ◌∷◌, map, take, drop, Option, None, Result, refl, sym, ap, subst, ◌∙◌, option_map, rules}
use Rattle.std.specs.Prelude.{◌==◌, ◌&&◌, ◌||◌, is_none, is_some, ℤ}
use Rattle.std.specs.List.{AllByRecursion, list_any}
use Rattle.std.proofs.Math.Seq.{drop-nil}
use Rattle.iio_text.specs.declared.errors.Errno.{Errno}
use Rattle.iio_attr.specs.declared.attributes.Attr.{Attr}
use Rattle.iio_attr.specs.declared.attributes.Attr.TheVariants as attr
use Rattle.iio_attr.specs.declared.values.Value.{Value}
use Rattle.iio_desc.specs.Description.{DeviceHead}
use Rattle.iio_desc.specs.Kind.{Kind}
use Rattle.iio_layout.specs.Shape.{ShapeRecord}
use Rattle.iio_kfifo.specs.Queue.{Queue}
use Rattle.iio_trigger.specs.Trigger.{State}
use Rattle.iio_derive.specs.Window.{full_mask}
use Rattle.iio_device.specs.declared.membership.Membership.{Membership}
use Rattle.iio_device.specs.Members.{is_live}
use Rattle.iio_device.specs.Site.{is_empty}
use Rattle.iiod_commands.specs.declared.iio.No.{No}
use Rattle.iiod_commands.specs.declared.iio.Took.{Took}
use Rattle.iiod_commands.specs.declared.iio.Took.TheVariants.{Scan, Empty, Gone}
use Rattle.iio_core.specs.Calls.{station_after_leave, station_after_remask, with_mask}
use Rattle.iio_core.specs.Machine.{Member, MemberId, Station, is_id_of, is_seat_of, lost_by, masks_of, member_in, scans_in, with_scans, without}
use Rattle.iio_core.specs.Moves.{station_after_look}
use Rattle.iio_kinds.specs.declared.in_device.Inner.{Inner}
use Rattle.iio_kinds.specs.Acting.{Acts, Reads, TakesAt, TakesScansAt, lost_in}
use Rattle.iio_kinds.specs.Faults.{HostsAny, any_refusals}
use Rattle.iio_kinds.specs.Inner.{AreIdle, AreThere, HasInners, inner_at, with_inner_name}
use Rattle.iio_kinds.specs.Places.{is_hosted, place_left}
use Rattle.iio_kinds.specs.Remasking.{remask_answer}
use Rattle.iio_kinds.specs.Station.{member_of}

-- ---- a device with its inner members told as inner ones

abbrev pub named : List Inner → Station → Station
named inners st = record st { members = map (with_inner_name inners) st.members }

module _ (inners : List Inner) where
  pub empty_named : (ms : List Member) → is_empty (map (with_inner_name inners) ms) ≡ is_empty ms
  empty_named ms = search rules

  pub masks_named : (ms : List Member) → masks_of (map (with_inner_name inners) ms) ≡ masks_of ms
  masks_named [] = refl
  masks_named (x ∷ xs) = ap (λ (ns : List ℕ). x.mask ∷ ns) (masks_named xs)

-- a number that is no inner member's
module _ (inners : List Inner) (number : ℕ) (free : inner_at inners number ≡ None) where
  seat_named : (m : Membership Queue) → is_seat_of number (with_inner_name inners (member_of m)) ≡ (m.number == number)
  seat_named m = search rules

  id_named : (mask : ℕ) (m : Membership Queue)
      → is_id_of (record { number = number; mask = mask }) (with_inner_name inners (member_of m))
      ≡ is_id_of (record { number = number; mask = mask }) (member_of m)
  id_named mask m = ap (λ (b : Bool). b && (m.mask.bits == mask)) (seat_named m)

  pub scans_named : (mask : ℕ) (ms : List (Membership Queue))
      → scans_in (record { number = number; mask = mask }) (map (with_inner_name inners) (map member_of ms))
      ≡ scans_in (record { number = number; mask = mask }) (map member_of ms)
  scans_named mask [] = refl
  scans_named mask (m ∷ ms) = simp (id_named, scans_named mask ms)

  pub found_named : (mask : ℕ) (ms : List (Membership Queue))
      → member_in (record { number = number; mask = mask }) (map (with_inner_name inners) (map member_of ms))
      ≡ option_map (with_inner_name inners) (member_in (record { number = number; mask = mask }) (map member_of ms))
  found_named mask [] = refl
  found_named mask (m ∷ ms) = search (rules, found_named mask ms)

  pub lost_named : (mask : ℕ) (ms : List (Membership Queue))
      → lost_in (record { number = number; mask = mask }) (map (with_inner_name inners) (map member_of ms))
      ≡ lost_in (record { number = number; mask = mask }) (map member_of ms)
  lost_named mask ms = search (rules, found_named)

  pub none_named : (mask : ℕ) (ms : List (Membership Queue))
      → is_none (member_in (record { number = number; mask = mask }) (map (with_inner_name inners) (map member_of ms)))
      ≡ is_none (member_in (record { number = number; mask = mask }) (map member_of ms))
  none_named mask ms = search (rules, found_named)

  pub scans_given : (mask : ℕ) (scans : List (List ℕ)) (ms : List (Membership Queue))
      → map (with_inner_name inners) (with_scans (record { number = number; mask = mask }) scans (map member_of ms))
      ≡ with_scans (record { number = number; mask = mask }) scans (map (with_inner_name inners) (map member_of ms))
  scans_given mask scans [] = refl
  scans_given mask scans (m ∷ ms) = search (rules, scans_given mask scans ms)

  pub without_named : (ms : List (Membership Queue))
      → without number (map (with_inner_name inners) (map member_of ms)) ≡ map (with_inner_name inners) (without number (map member_of ms))
  without_named [] = refl
  without_named (m ∷ ms) = search (rules, without_named ms)

  pub lost_by_named : (ms : List (Membership Queue)) → lost_by number (map (with_inner_name inners) (map member_of ms)) ≡ lost_by number (map member_of ms)
  lost_by_named [] = refl
  lost_by_named (m ∷ ms) = search (rules, lost_by_named ms)

  pub mask_named : (mask capacity : ℕ) (ms : List (Membership Queue))
      → map (with_mask number mask capacity) (map (with_inner_name inners) (map member_of ms))
      ≡ map (with_inner_name inners) (map (with_mask number mask capacity) (map member_of ms))
  mask_named mask capacity [] = refl
  mask_named mask capacity (m ∷ ms) = search (rules, mask_named mask capacity ms)

-- a number that is an inner member's: no seat has it
module _ (inners : List Inner) (number : ℕ) (own : is_some (inner_at inners number) ≡ true) where
  seat_none : (m : Membership Queue) → is_seat_of number (with_inner_name inners (member_of m)) ≡ false
  seat_none m = search rules

  pub scans_none : (mask : ℕ) (ms : List (Membership Queue))
      → scans_in (record { number = number; mask = mask }) (map (with_inner_name inners) (map member_of ms)) ≡ []
  scans_none mask [] = refl
  scans_none mask (m ∷ ms) = rw (seat_none m) (scans_none mask ms)

  pub found_none : (mask : ℕ) (ms : List (Membership Queue))
      → member_in (record { number = number; mask = mask }) (map (with_inner_name inners) (map member_of ms)) ≡ None
  found_none mask [] = refl
  found_none mask (m ∷ ms) = rw (seat_none m) (found_none mask ms)

  pub without_none : (ms : List (Membership Queue))
      → without number (map (with_inner_name inners) (map member_of ms)) ≡ map (with_inner_name inners) (map member_of ms)
  without_none [] = refl
  without_none (m ∷ ms) = rw (seat_none m) (ap (λ (ys : List Member). with_inner_name inners (member_of m) ∷ ys) (without_none ms))

  pub lost_by_none : (ms : List (Membership Queue)) → lost_by number (map (with_inner_name inners) (map member_of ms)) ≡ None
  lost_by_none [] = refl
  lost_by_none (m ∷ ms) = rw (seat_none m) (lost_by_none ms)

  -- hence no leaving of it changes anything
  pub nobody_leaves : (st : Station) (ms : List (Membership Queue)) → st.members ≡ map member_of ms
      → named inners st ≡ station_after_leave number (named inners st)
  nobody_leaves st ms is = search (rules, lost_by_none, without_none)

module _ (inners : List Inner) where
  -- ---- calls

  -- a call that does the same to both, if it is answered alike
  pub acts_named : {A : Type 0} (change : Station → Station) (r r' : Result A Errno) (result : Result A No) (old new : Station) → r' ≡ r
      → change (named inners old) ≡ named inners (change old)
      → Acts change r result old new → Acts change r' result (named inners old) (named inners new)
  acts_named change r r' result old new same natural acts = search rules

  -- the trigger by which a member can join
  pub refusals_named : (lacks : Bool) (kind : Kind) (shape : ShapeRecord) (st : Station) (mask : ℕ)
      → any_refusals lacks kind shape (named inners st) mask ≡ any_refusals lacks kind shape st mask
  refusals_named lacks kind shape st mask = rw (empty_named inners st.members, masks_named inners st.members) refl

  pub hosts_named : (states : List State) (kind : Kind) (number : ℕ) (shape : ShapeRecord) (st : Station) (mask : ℕ) (result : Result ℕ No)
      → HostsAny states kind number shape st mask result
      → HostsAny states kind number shape (named inners st) mask result
  hosts_named states kind number shape st mask result h = search (rules, refusals_named)

  pub hosted_named : (count : ℕ) (st : Station) → is_hosted count (named inners st) ≡ is_hosted count st
  hosted_named count st = rw (empty_named inners st.members) refl

  pub place_left_named : (number : ℕ) (before after : Station) (s : State)
      → place_left number (named inners before) (named inners after) s ≡ place_left number before after s
  place_left_named number before after s = rw (empty_named inners before.members, empty_named inners after.members) refl

-- ---- the calls of seats, for a number that is no inner member's

module _ (inners : List Inner) (number : ℕ) (free : inner_at inners number ≡ None) (st : Station) (ms : List (Membership Queue))
    (of : st.members ≡ map member_of ms) where
  scans_same : (mask : ℕ) → scans_in (record { number = number; mask = mask }) (map (with_inner_name inners) st.members)
      ≡ scans_in (record { number = number; mask = mask }) st.members
  scans_same mask = search (rules, scans_named)

  given_same : (mask : ℕ) (scans : List (List ℕ))
      → map (with_inner_name inners) (with_scans (record { number = number; mask = mask }) scans st.members)
      ≡ with_scans (record { number = number; mask = mask }) scans (map (with_inner_name inners) st.members)
  given_same mask scans = search (rules, scans_given)

  without_same : without number (map (with_inner_name inners) st.members) ≡ map (with_inner_name inners) (without number st.members)
  without_same = search (rules, without_named)

  lost_same : lost_by number (map (with_inner_name inners) st.members) ≡ lost_by number st.members
  lost_same = subst (λ (xs : List Member). lost_by number (map (with_inner_name inners) xs) ≡ lost_by number xs) (sym of) (lost_by_named inners number free ms)

  pub take_named : (mask : ℕ) (took : Took) (scan : List ℕ) (new : Station) → TakesAt (record { number = number; mask = mask }) took scan st new
      → TakesAt (record { number = number; mask = mask }) took scan (named inners st) (named inners new)
  take_named mask took scan new h = search (rules, scans_same, given_same)

  pub takes_named : (mask most : ℕ) (took : Took) (before after : List ℕ) (new : Station)
      → TakesScansAt (record { number = number; mask = mask }) most took before after st new
      → TakesScansAt (record { number = number; mask = mask }) most took before after (named inners st) (named inners new)
  takes_named mask most took before after new h = search (rules, scans_same, given_same)

  pub left_named : named inners (station_after_leave number st) ≡ station_after_leave number (named inners st)
  left_named = rw (lost_same, without_same, empty_named inners st.members, empty_named inners (without number st.members)) refl

  pub remasked_named : (mask capacity : ℕ)
      → station_after_remask number mask capacity (named inners st) ≡ named inners (station_after_remask number mask capacity st)
  remasked_named mask capacity = search (rules, mask_named, lost_same)

  pub remask_answer_named : (shape : ShapeRecord) (own mask : ℕ)
      → remask_answer shape (named inners st) (record { number = number; mask = own }) mask
      ≡ remask_answer shape st (record { number = number; mask = own }) mask
  remask_answer_named shape own mask = search (rules, none_named, scans_same, without_same, masks_named)

-- ---- what always holds of inner members

-- an idle member as it is told
pub record IsIdleTold (shape : ShapeRecord) (x : Member) : Type 0 where
  pub whole : x.mask ≡ full_mask shape
  pub one : x.capacity ≡ 1
  pub none : x.scans ≡ []

abbrev pub AreIdleTold : ShapeRecord → List Inner → List Member → Type 0
AreIdleTold shape inners ms = AllByRecursion (λ (x : Member). is_some (inner_at inners x.number) ≡ true → IsIdleTold shape x) ms

abbrev pub has_number : ℕ → List Member → Bool
has_number number ms = list_any (λ (x : Member). x.number == number) ms

abbrev pub AreThereTold : List Member → List Inner → Type 0
AreThereTold ms inners = AllByRecursion (λ (i : Inner). has_number i.number ms ≡ true) inners

pub idle_told : (shape : ShapeRecord) (inners : List Inner) (ms : List (Membership Queue)) → AreIdle shape inners ms
    → AreIdleTold shape inners (map member_of ms)
idle_told shape inners [] all = tt
idle_told shape inners (m ∷ ms) all = search (rules, idle_told shape inners ms all.1)

pub told_idle : (shape : ShapeRecord) (inners : List Inner) (ms : List (Membership Queue)) → AreIdleTold shape inners (map member_of ms)
    → AreIdle shape inners ms
told_idle shape inners [] all = tt
told_idle shape inners (m ∷ ms) all = search (rules, told_idle shape inners ms all.1)

live_told : (number : ℕ) (ms : List (Membership Queue)) → has_number number (map member_of ms) ≡ is_live number ms
live_told number [] = refl
live_told number (m ∷ ms) = ap (λ (b : Bool). (m.number == number) || b) (live_told number ms)

pub there_told : (ms : List (Membership Queue)) (inners : List Inner) → AreThere ms inners → AreThereTold (map member_of ms) inners
there_told ms [] all = tt
there_told ms (i ∷ is) all = (live_told i.number ms ∙ all.0, there_told ms is all.1)

pub told_there : (ms : List (Membership Queue)) (inners : List Inner) → AreThereTold (map member_of ms) inners → AreThere ms inners
told_there ms [] all = tt
told_there ms (i ∷ is) all = (sym (live_told i.number ms) ∙ all.0, told_there ms is all.1)

-- the members that are told keep it so
pub facts_by : (shape shape' : ShapeRecord) (inners : List Inner) (room : List ℕ) (ms ms' : List (Membership Queue)) → shape' ≡ shape
    → HasInners shape ms inners room
    → (AreIdleTold shape inners (map member_of ms) → AreIdleTold shape inners (map member_of ms'))
    → (AreThereTold (map member_of ms) inners → AreThereTold (map member_of ms') inners)
    → HasInners shape' ms' inners room
facts_by shape shape' inners room ms ms' same sound idle there = search (rules, told_idle, idle_told, told_there, there_told)

pub facts_same : (shape shape' : ShapeRecord) (inners : List Inner) (room : List ℕ) (ms ms' : List (Membership Queue)) → shape' ≡ shape
    → map member_of ms' ≡ map member_of ms → HasInners shape ms inners room
    → HasInners shape' ms' inners room
facts_same shape shape' inners room ms ms' same told sound =
    facts_by shape shape' inners room ms ms' same sound (λ h. subst (AreIdleTold shape inners) (sym told) h)
    (λ h. subst (λ (xs : List Member). AreThereTold xs inners) (sym told) h)

-- a call that leaves the members as they are
pub acts_stay : {A : Type 0} (change : Station → Station) (r : Result A Errno) (result : Result A No) (old new : Station)
    → ((st : Station) → (change st).members ≡ st.members) → Acts change r result old new → new.members ≡ old.members
acts_stay change r result old new stays h = search rules

-- scans of a member are taken: none waits for an inner one
module _ (shape : ShapeRecord) (inners : List Inner) (id : MemberId) (n : ℕ) where
  drop_none : (scans : List (List ℕ)) → scans ≡ [] → drop n scans ≡ []
  drop_none scans e = ap (λ (xs : List (List ℕ)). drop n xs) e ∙ drop-nil n

  pub idle_taken : (ms : List Member) → AreIdleTold shape inners ms → AreIdleTold shape inners (with_scans id (drop n (scans_in id ms)) ms)
  idle_taken [] all = tt
  idle_taken (x ∷ xs) all = search (rules, drop_none, idle_taken xs all.1)

pub number_taken : (number : ℕ) (id : MemberId) (scans : List (List ℕ)) (ms : List Member) → has_number number (with_scans id scans ms) ≡ has_number number ms
number_taken number id scans [] = refl
number_taken number id scans (x ∷ xs) = search (rules, number_taken number id scans xs)

pub there_by : (ms ms' : List Member) (inners : List Inner) → ((i : ℕ) → has_number i ms ≡ true → has_number i ms' ≡ true) → AreThereTold ms inners
    → AreThereTold ms' inners
there_by ms ms' [] keeps all = tt
there_by ms ms' (i ∷ is) keeps all = (keeps i.number all.0, there_by ms ms' is keeps all.1)

module _ (shape shape' : ShapeRecord) (inners : List Inner) (room : List ℕ) (ms ms' : List (Membership Queue)) (same : shape' ≡ shape)
    (sound : HasInners shape ms inners room) where
  taken_facts : (id : MemberId) (n : ℕ) → map member_of ms' ≡ with_scans id (drop n (scans_in id (map member_of ms))) (map member_of ms)
      → HasInners shape' ms' inners room
  taken_facts id n told =
      facts_by shape shape' inners room ms ms' same sound
      (λ h. subst (AreIdleTold shape inners) (sym told) (idle_taken shape inners id n (map member_of ms) h))
      (λ h. subst (λ (xs : List Member). AreThereTold xs inners) (sym told)
      (there_by (map member_of ms) (with_scans id (drop n (scans_in id (map member_of ms))) (map member_of ms)) inners
      (λ i e. number_taken i id (drop n (scans_in id (map member_of ms))) (map member_of ms) ∙ e) h))

  -- a take keeps what always holds
  pub take_facts : (id : MemberId) (took : Took) (scan : List ℕ) (old new : Station) → old.members ≡ map member_of ms → new.members ≡ map member_of ms'
      → TakesAt id took scan old new → HasInners shape' ms' inners room
  take_facts id Scan scan old new was is h =
      taken_facts id 1 (sym is ∙ ap (λ (st : Station). st.members) h.1 ∙ ap (λ (xs : List Member). with_scans id (drop 1 (scans_in id xs)) xs) was)
  take_facts id Empty scan old new was is h = facts_same shape shape' inners room ms ms' same (sym is ∙ ap (λ (st : Station). st.members) h.2 ∙ was) sound
  take_facts id Gone scan old new was is h = facts_same shape shape' inners room ms ms' same (sym is ∙ ap (λ (st : Station). st.members) h.2 ∙ was) sound

  pub takes_facts : (id : MemberId) (most : ℕ) (took : Took) (before after : List ℕ) (old new : Station) → old.members ≡ map member_of ms
      → new.members ≡ map member_of ms' → TakesScansAt id most took before after old new
      → HasInners shape' ms' inners room
  takes_facts id most Scan before after old new was is h = search (rules, taken_facts)
  takes_facts id most Empty before after old new was is h =
      facts_same shape shape' inners room ms ms' same (sym is ∙ ap (λ (st : Station). st.members) h.3 ∙ was) sound
  takes_facts id most Gone before after old new was is h =
      facts_same shape shape' inners room ms ms' same (sym is ∙ ap (λ (st : Station). st.members) h.3 ∙ was) sound

-- ---- looks at thresholds

pub sensed_named : (inners : List Inner) (shape : ShapeRecord) (t : ℤ) (st : Station)
    → named inners (station_after_look shape t st) ≡ station_after_look shape t (named inners st)
sensed_named inners shape t st = search rules

pub sensed_stay : (shape : ShapeRecord) (t : ℤ) (st : Station) → (station_after_look shape t st).members ≡ st.members
sensed_stay shape t st = search rules

-- ---- reads of attributes

module _ (inners : List Inner) (d : DeviceHead) (t : ℤ) (channel : Option ℕ) (a : Attr) (result : Result Value No) (old new : Station) where
  pub reads_named : Reads d t channel a old result new → Reads d t channel a (named inners old) result (named inners new)
  reads_named h = search rules

  pub reads_stay : Reads d t channel a old result new → new.members ≡ old.members
  reads_stay h = search rules

pub none_there : (o : Option ℕ) → is_some o ≡ false → o ≡ None
none_there o e = search rules

-- no member has left
pub place_stays : (number : ℕ) (st : Station) (s : State) → s ≡ place_left number st st s
place_stays number st s = search rules
