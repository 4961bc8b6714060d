-- A bench with several devices changed.
use Rattle.std.proofs.Common.{◌≡◌, ◌⊎◌, ℕ, zero, suc, ◌+◌, ◌-◌, ◌^◌, ◌<◌, ◌≤◌, ℤ, Bool, true, false, All, List, [], ◌∷◌, map, length, set, slice_get, Option, Some, None, inl, inr, refl, sym, ap, subst, ◌∙◌, arith, cond, rules}
use Rattle.std.specs.Prelude.{◌==◌, ◌&&◌, not}
use Rattle.std.specs.List.{list_any}
use Rattle.std.specs.Option.{option_map_or}
use Rattle.iio_sensor.specs.Driver.{Driver, ask_fails, values_of}
use Rattle.iio_layout.specs.Shape.{ShapeRecord}
use Rattle.iio_desc.specs.Description.{DeviceHead, no_shape, shape_of_means}
use Rattle.iio_desc.specs.declared.description.TriggerDesc.{TriggerDesc}
use Rattle.iio_desc.specs.Kind.{Kind, Input, Average, is_average, is_unplugged_by}
use Rattle.iio_trigger.specs.Trigger.{Handed, State}
use Rattle.iio_device.specs.declared.plug.Plug.{Plug}
use Rattle.iio_device.specs.declared.handling.Handled.TheVariants.{Captured, Fault, Idle}
use Rattle.iio_device.specs.Site.{is_empty, no_driver, unplugged}
use Rattle.iio_core.specs.Trigger.{Trigger}
use Rattle.iio_core.specs.Calls.{is_inner_of}
use Rattle.iio_core.specs.Front.{Front, kind_at, shape_at}
use Rattle.iio_core.specs.Machine.{Machine, Member, Station, station_in, with_site}
use Rattle.iio_core.specs.Moves.{Capture, unplugs, machine_after_unplugging, entry_at, capture_at, capture_in, entry_answer, station_after_entry, is_due, machine_after_entry}
use Rattle.iio_core.proofs.PlaceLists.{itself, same_number}
use Rattle.iio_kinds.specs.declared.any_device.AnyDevice.{AnyDevice}
use Rattle.iio_core.specs.declared.became.Became.{Became}
use Rattle.iio_core.specs.declared.became.Became.TheVariants.{Asked, Gave}
use Rattle.iio_bench.specs.Averages.{HasBases, IsAveraged, kind_in, shape_in}
use Rattle.iio_kinds.specs.Handling.{IsRoom, IsScanOf, IsTakenWhole, entry_capture, entry_station, has_inner, is_last, entry_became, unless_ended}
use Rattle.iio_bench.specs.Triggers.{IsBench, IsNumbered}
use Rattle.iio_kinds.specs.declared.any_device.AnyDevice.TheVariants as any
use Rattle.iio_kinds.specs.Station.{KeepsFront, KeepsHead, any_front, any_station, captures_by, full_scan_by, number_by, room_by, stations_by}
use Rattle.iio_bench.specs.Together.{AfterEntry, AreGathered, AreUnplugged, CanGather, IsReady, OnCapture, gathers, scan_at, with_capture}
use Rattle.iio_bench.proofs.ListLemmas.{after_set, length_after, length_map_is, map_at, map_same, numbered_after}
use Rattle.iio_bench.proofs.FiringLemmas.{room_is}
use Rattle.iio_bench.proofs.AnyLemmas.{kept_from}
use Rattle.iio_bench.proofs.AverageLemmas.{here_is, same_or}
use Rattle.iio_bench.proofs.GatherLemmas.{averaged_handled, averaged_unplugged, bench_handled, bench_unplugged}
use Rattle.iio_bench.proofs.OpenLemmas.{averaged_as, kind_there, sound_any, sound_as}
use Rattle.iio_bench.proofs.TogetherLemmas.{map_together, map_unmoved, numbered_together}
use Rattle.iio_bench.proofs.ToldLemmas.{fronts_by, kind_is, machine_by, shape_is, station_is}

-- ---- one device in a handling

-- the device itself
entry_own : (o : Option Handed) (c : Option Capture) (k : ℕ) (kind : Kind) (shape : ShapeRecord) (st : Station) → (c ≡ capture_in kind shape o st)
    → entry_at o c k kind shape k st ≡ station_after_entry kind shape o st
entry_own o c k kind shape st is = search rules

-- another device, if there was a capture
entry_other : (o : Option Handed) (c : Capture) (k : ℕ) (kind : Kind) (shape : ShapeRecord) (j : ℕ) (st : Station) → (k == j) ≡ false
    → with_capture k c kind shape st ≡ entry_at o (Some c) k kind shape j st
entry_other o c k kind shape j st other = search rules

-- another device, if there was none
entry_none : (o : Option Handed) (k : ℕ) (kind : Kind) (shape : ShapeRecord) (j : ℕ) (st : Station) → (k == j) ≡ false
    → st ≡ entry_at o None k kind shape j st
entry_none o k kind shape j st other = search rules

-- ---- which answers are captures

-- only an input device that can make more captures makes one
pub record IsCaptured (kind : Kind) (o : Option Handed) (ended : Bool) (shape : ShapeRecord) (st : Station) : Type 0 where
  pub input : kind ≡ Input
  pub goes_on : ended ≡ false
  pub capture : Capture
  pub is : capture_in kind shape o st ≡ Some capture

captured_by : (e : Handed) (shape : ShapeRecord) (st : Station) (n : ℕ) → entry_became Input (Some e) false st ≡ Some (Asked (Captured n))
    → IsCaptured Input (Some e) false shape st
captured_by e shape st n is = by (is_due e st) (ask_fails st.site.driver) refl refl is
  where
    by : (a b : Bool) → is_due e st ≡ a → ask_fails st.site.driver ≡ b
        → entry_became Input (Some e) false st ≡ Some (Asked (Captured n)) → IsCaptured Input (Some e) false shape st
    by false b p q is = absurd (let h = rw p at is in cc)
    by true true p q is = absurd (let h = rw (p, q) at is in cc)
    by true false p q is =
        record { input = refl; goes_on = refl; capture = record { moment = e.t; values = values_of st.site.driver shape e.t }; is = rw (p, q) refl }

pub captured_is : (kind : Kind) (o : Option Handed) (ended : Bool) (shape : ShapeRecord) (st : Station) (n : ℕ)
    → Some (Asked (Captured n)) ≡ entry_became kind o ended st → IsCaptured kind o ended shape st
captured_is kind o ended shape st n is = search (rules, captured_by)

-- whether an answer is a capture
abbrev pub is_capture : Option Became → Bool
is_capture (Some (Asked (Captured n))) = true
is_capture became = false

-- another answer made no capture
none_captured : (kind : Kind) (o : Option Handed) (shape : ShapeRecord) (st : Station) (r : Option Became) → r ≡ entry_answer kind o st
    → is_capture r ≡ false → capture_in kind shape o st ≡ None
none_captured kind o shape st r is other = search rules

-- ---- all devices

module _ {X : Type 0} {V : X → Type 0} (drive : Plug X V → Driver) (context : List ℕ) (triggers : List TriggerDesc)
    (ds : List (AnyDevice X V)) (clock : ℤ) (ts : List Trigger) (k : ℕ) (d d' : AnyDevice X V) (at : slice_get ds k ≡ Some d)
    (o : Option Handed) (station : any_station drive d' ≡ station_after_entry (any_front d).kind (any_front d).shape o (any_station drive d)) where
  abbrev front : Front
  front = fronts_by any_front context triggers ds

  abbrev machine : Machine
  machine = machine_by (any_station drive) clock ts ds

  abbrev own_capture : Option Capture
  own_capture = capture_in (any_front d).kind (any_front d).shape o (any_station drive d)

  capture_own : capture_at front o k machine ≡ own_capture
  capture_own =
      rw (kind_is any_front context triggers ds k d at, shape_is any_front context triggers ds k d at, station_is (any_station drive) clock ts ds k d at) refl

  -- device j, as the plain state has it after a handling with that capture
  abbrev made : Option Capture → ℕ → AnyDevice X V → Station
  made c j x = entry_at o c k (any_front x).kind (any_front x).shape j (any_station drive x)

  at_machine : (c : Option Capture) (j : ℕ) (x : AnyDevice X V) → slice_get ds j ≡ Some x → own_capture ≡ c
      → made c j x ≡ entry_at o (capture_at front o k machine) k (kind_at front j) (shape_at front j) j (any_station drive x)
  at_machine c j x there is =
      ap (λ (y : Option Capture). made y j x) (sym is ∙ sym capture_own)
      ∙ ap (λ (kind : Kind). entry_at o (capture_at front o k machine) k kind (any_front x).shape j (any_station drive x))
      (sym (kind_is any_front context triggers ds j x there))
      ∙ ap (λ (shape : ShapeRecord). entry_at o (capture_at front o k machine) k (kind_at front j) shape j (any_station drive x))
      (sym (shape_is any_front context triggers ds j x there))

  -- all devices
  told_by : (c : Option Capture) (ds' : List (AnyDevice X V)) → own_capture ≡ c → length ds' ≡ length ds
      → ((j : ℕ) (x x' : AnyDevice X V) → slice_get ds j ≡ Some x → slice_get ds' j ≡ Some x' → any_station drive x' ≡ made c j x)
      → machine_by (any_station drive) clock ts ds' ≡ machine_after_entry front o k machine
  told_by c ds' is same each =
      ap (λ (sts : List Station). (let m : Machine = record { clock = clock; triggers = ts; stations = sts } in m))
      (map_together (any_station drive) (λ j st. entry_at o (capture_at front o k machine) k (kind_at front j) (shape_at front j) j st) 0 ds ds'
      same
      (λ j x x' there there'. (
      let place : j ≡ 0 + j = omega arith in
      each j x x' there there' ∙ at_machine c j x there is
      ∙ ap (λ (i : ℕ). entry_at o (capture_at front o k machine) k (kind_at front i) (shape_at front i) i (any_station drive x)) place
      )))

  own_made : (c : Option Capture) → own_capture ≡ c → any_station drive d' ≡ made c k d
  own_made c is = station ∙ sym (entry_own o c k (any_front d).kind (any_front d).shape (any_station drive d) (sym is))

  apart : (j : ℕ) → (j ≡ k → ⊥) → (k == j) ≡ false
  apart j other = search rules

  -- if there was no capture, only the device has changed
  pub told_alone : own_capture ≡ None → machine_by (any_station drive) clock ts (set ds k d') ≡ machine_after_entry front o k machine
  told_alone none = told_by None (set ds k d') none (length_after ds k d') (λ j x x' there there'. each j x x' there (after_set ds k j d' x' there'))
    where
      each : (j : ℕ) (x x' : AnyDevice X V) → slice_get ds j ≡ Some x → ((j ≡ k) × (x' ≡ d')) ⊎ ((j ≡ k → ⊥) × (slice_get ds j ≡ Some x'))
          → any_station drive x' ≡ made None j x
      each j x x' there h1 = search (rules, own_made, entry_none, any_front, apart)

  -- if there was one, each averaging device over it takes it
  pub told_gathered : (c : Capture) (scan : List ℕ) (ds' : List (AnyDevice X V)) → own_capture ≡ Some c → (any_front d).kind ≡ Input → KeepsHead d d'
      → AreGathered drive k scan (set ds k d') ds'
      → ((j : ℕ) (x : AnyDevice X V) → slice_get ds j ≡ Some x → (j ≡ k → ⊥) → gathers k (any_front x).kind (any_station drive x) ≡ true
      → IsScanOf (any_front x).shape c scan)
      → machine_by (any_station drive) clock ts ds' ≡ machine_after_entry front o k machine
  told_gathered c scan ds' is input keeps gathered taken =
      told_by (Some c) ds' is (gathered.same ∙ length_after ds k d') (λ j x x' there there'. by j x x' there there' (same_or j k))
    where
      plain : (kind : Kind) (shape : ShapeRecord) (st : Station) → kind ≡ Input → with_capture k c kind shape st ≡ st
      plain kind shape st e = ap (λ (y : Kind). with_capture k c y shape st) e

      idle : (kind : Kind) (st : Station) → kind ≡ Input → gathers k kind st ≡ false
      idle kind st e = ap (λ (y : Kind). gathers k y st) e

      by : (j : ℕ) (x x' : AnyDevice X V) → slice_get ds j ≡ Some x → slice_get ds' j ≡ Some x' → (j ≡ k) ⊎ (j ≡ k → ⊥)
          → any_station drive x' ≡ made (Some c) j x
      by j x x' there there' (inl e) =
          let one : d ≡ x = (let h : Some d ≡ Some x = sym at ∙ ap (λ (i : ℕ). slice_get ds i) (sym e) ∙ there in cc) in
          let its : (any_front d').kind ≡ Input = ap (λ (h : DeviceHead). h.kind) keeps.front ∙ input in
          let own = gathered.each j d' x' (ap (λ (i : ℕ). slice_get (set ds k d') i) e ∙ own_there ds k d d' at) there' in
          own.station c (λ g. absurd (let none = idle (any_front d').kind (any_station drive d') its in cc))
          ∙ plain (any_front d').kind (any_front d').shape (any_station drive d') its
          ∙ own_made (Some c) is ∙ ap (λ (y : AnyDevice X V). made (Some c) k y) one ∙ ap (λ (i : ℕ). made (Some c) i x) (sym e)
        where
          own_there : (xs : List (AnyDevice X V)) (i : ℕ) (y y' : AnyDevice X V) → slice_get xs i ≡ Some y → slice_get (set xs i y') i ≡ Some y'
          own_there [] i y y' there = absurd (cc)
          own_there (z ∷ zs) zero y y' there = refl
          own_there (z ∷ zs) (suc i) y y' there = own_there zs i y y' there
      by j x x' there there' (inr other) =
          let own = gathered.each j x x' (away ds k j d' x other there) there' in
          own.station c (λ g. taken j x there other g) ∙ entry_other o c k (any_front x).kind (any_front x).shape j (any_station drive x) (apart j other)
        where
          away : (xs : List (AnyDevice X V)) (k j : ℕ) (y x : AnyDevice X V) → (j ≡ k → ⊥) → slice_get xs j ≡ Some x → slice_get (set xs k y) j ≡ Some x
          away [] k j y x other there = there
          away (z ∷ zs) zero zero y x other there = absurd (other refl)
          away (z ∷ zs) zero (suc j) y x other there = there
          away (z ∷ zs) (suc k) zero y x other there = there
          away (z ∷ zs) (suc k) (suc j) y x other there = away zs k j y x (λ e. other (ap (λ (n : ℕ). suc n) e)) there

-- ---- what averaging devices over a device can take

-- a scan of all channels of a device is also one by the shape of its means
scan_means : (shape : ShapeRecord) (c : Capture) (scan : List ℕ) → IsScanOf shape c scan → IsScanOf (shape_of_means (Some shape)) c scan
scan_means shape c scan x = search rules

all_from : {A : Type 0} (P : A → Type 0) (xs : List A) → ((i : ℕ) (x : A) → slice_get xs i ≡ Some x → P x) → All P xs
all_from P [] each i d within = absurd (omega (arith, within))
all_from P (y ∷ ys) each zero d within = each zero y refl
all_from P (y ∷ ys) each (suc i) d within = all_from P ys (λ j x at. each (suc j) x at) i d (omega (arith, within))

some_inner : (j : ℕ) (ms : List Member) → list_any (is_inner_of j) ms ≡ true → has_inner ms ≡ true
some_inner j [] e = absurd (cc)
some_inner j (m ∷ ms) e = search (rules, some_inner j ms)

-- a device that takes captures of device k is an averaging one over it, with a member
pub record IsOver (k : ℕ) (kind : Kind) (st : Station) : Type 0 where
  pub window : ℕ
  pub is : kind ≡ Average k window
  pub member : not (is_empty st.members) ≡ true

over_is : (k : ℕ) (kind : Kind) (st : Station) → gathers k kind st ≡ true → IsOver k kind st
over_is k kind st e = search rules

module _ {X : Type 0} {V : X → Type 0} (drive : Plug X V → Driver) (triggers first : ℕ) (ds : List (AnyDevice X V))
    (averaged : IsAveraged triggers first (map any_front ds) (stations_by drive ds))
    (k : ℕ) (d d' : AnyDevice X V) (at : slice_get ds k ≡ Some d) (c : Capture) (scan : List ℕ)
    (whole : IsTakenWhole (any_front d).shape (Some c) (any_station drive d).members scan) where
  module _ (j : ℕ) (x : AnyDevice X V) (there : slice_get ds j ≡ Some x) (over : IsOver k (any_front x).kind (any_station drive x)) where
    kind_is_over : kind_in (map any_front ds) j ≡ Average k over.window
    kind_is_over = kind_there ds j x there ∙ over.is

    shape_there : (i : ℕ) (y : AnyDevice X V) → slice_get ds i ≡ Some y → shape_in (map any_front ds) i ≡ (any_front y).shape
    shape_there i y e = ap (λ (o : Option DeviceHead). option_map_or (λ (h : DeviceHead). h.shape) o no_shape) (map_at any_front ds i y e)

    shape_means : (any_front x).shape ≡ shape_of_means (Some (any_front d).shape)
    shape_means = search (rules, shape_there, kind_is_over)

    own_is : station_in (map (any_station drive) ds) j ≡ any_station drive x
    own_is = here_is (map (any_station drive) ds) j (any_station drive x) (map_at (any_station drive) ds j x there)

    base_is : station_in (map (any_station drive) ds) k ≡ any_station drive d
    base_is = here_is (map (any_station drive) ds) k (any_station drive d) (map_at (any_station drive) ds k d at)

    inner_there : list_any (is_inner_of j) (any_station drive d).members ≡ true
    inner_there = search (rules, base_is, kind_is_over, own_is)

    taken_scan : IsScanOf (any_front x).shape c scan
    taken_scan = search (rules, shape_means, scan_means, any_front, some_inner, inner_there)

    fewer_there : is_last (any_station drive d).captures ≡ false → is_last (any_station drive x).captures ≡ false
    fewer_there last =
        let fewer : (any_station drive x).captures ≤ (any_station drive d).captures
        = search (rules, own_is, base_is, kind_is_over) in
        let most : (any_station drive d).captures ≤ 2 ^ 64 - 1 = search (rules, base_is, kind_is_over) in
        less (any_station drive x).captures (any_station drive d).captures fewer most last
      where
        less : (a b : ℕ) → a ≤ b → b ≤ 2 ^ 64 - 1 → is_last b ≡ false → is_last a ≡ false
        less a b fewer most last = search rules

  pub taken_all : (any_front d).kind ≡ Input → (j : ℕ) (x : AnyDevice X V) → slice_get ds j ≡ Some x → (j ≡ k → ⊥)
      → gathers k (any_front x).kind (any_station drive x) ≡ true → IsScanOf (any_front x).shape c scan
  taken_all input j x there other g = taken_scan j x there (over_is k (any_front x).kind (any_station drive x) g)

  pub ready_all : (any_front d').kind ≡ Input → is_last (any_station drive d).captures ≡ false → All (IsReady drive k scan) (set ds k d')
  ready_all input last = all_from (IsReady drive k scan) (set ds k d') (λ j x there. by j x (after_set ds k j d' x there))
    where
      by : (j : ℕ) (x : AnyDevice X V) → ((j ≡ k) × (x ≡ d')) ⊎ ((j ≡ k → ⊥) × (slice_get ds j ≡ Some x)) → IsReady drive k scan x
      by j x (inl p) = search rules
      by j x (inr p) = λ g. (
          let over = over_is k (any_front x).kind (any_station drive x) g in
          let taken = taken_scan j x p.1 over in
          record { size = taken.size; fewer = fewer_there j x p.1 over last }
          )

-- ---- after an entry

scan_there : {X : Type 0} {V : X → Type 0} (ds : List (AnyDevice X V)) (k : ℕ) (d d' : AnyDevice X V) → slice_get ds k ≡ Some d
    → scan_at k (set ds k d') ≡ full_scan_by d'
scan_there [] k d d' at = absurd (cc)
scan_there (x ∷ xs) zero d d' at = refl
scan_there (x ∷ xs) (suc k) d d' at = scan_there xs k d d' at

pub made_by : {X : Type 0} {V : X → Type 0} (drive : Plug X V → Driver) (d : AnyDevice X V) → (any_front d).kind ≡ Input
    → captures_by d ≡ (any_station drive d).captures
made_by drive d input = search rules

module _ {X : Type 0} {V : X → Type 0} (drive : Plug X V → Driver) (context : List ℕ) (triggers : List TriggerDesc) (ds ds' : List (AnyDevice X V)) (clock : ℤ)
    (first k : ℕ) (d d' : AnyDevice X V) (at : slice_get ds k ≡ Some d)
    (averaged : IsAveraged (length triggers) first (map any_front ds) (stations_by (λ p. no_driver) ds)) (o : Option Handed)
    (station : any_station drive d' ≡ entry_station (any_front d).kind o (is_last (captures_by d)) (any_front d).shape (any_station drive d))
    (keeps : KeepsHead d d')
    (whole : IsTakenWhole (any_front d).shape (entry_capture (any_front d).kind o (is_last (captures_by d)) (any_front d).shape (any_station drive d))
    (any_station drive d).members (full_scan_by d')) where
  abbrev ended : Bool
  ended = is_last (captures_by d)

  averaged_now : IsAveraged (length triggers) first (map any_front ds) (stations_by drive ds)
  averaged_now = averaged_as (λ p. no_driver) drive (length triggers) first (map any_front ds) ds averaged

  fronts_now : map any_front (set ds k d') ≡ map any_front ds
  fronts_now = map_same any_front ds k d d' at keeps.front

  taken_whole : (x : IsCaptured (any_front d).kind o ended (any_front d).shape (any_station drive d))
      → IsTakenWhole (any_front d).shape (Some x.capture) (any_station drive d).members (full_scan_by d')
  taken_whole x = search rules

  -- the averaging devices can take a capture
  pub can_gather : (r : Option Became) → r ≡ entry_became (any_front d).kind o ended (any_station drive d) → OnCapture r (CanGather drive first k (set ds k d'))
  can_gather (Some (Asked (Captured n))) is =
      let x = captured_is (any_front d).kind o ended (any_front d).shape (any_station drive d) n is in
      let input' : (any_front d').kind ≡ Input = ap (λ (h : DeviceHead). h.kind) keeps.front ∙ x.input in
      record {
        before = below (same_side k);
        bases = subst (λ (hs : List DeviceHead). HasBases first hs) (sym fronts_now) averaged.bases;
        ready =
            subst (λ (scan : List ℕ). All (IsReady drive k scan) (set ds k d')) (sym (scan_there ds k d d' at))
            (ready_all drive (length triggers) first ds averaged_now k d d' at x.capture (full_scan_by d') (taken_whole x) input'
            (ap is_last (sym (made_by drive d x.input)) ∙ x.goes_on));
      }
    where
      same_side : (i : ℕ) → (i < first) ⊎ (first ≤ i)
      same_side i = search rules

      there : (xs : List (AnyDevice X V)) (i : ℕ) (y : AnyDevice X V) → slice_get xs i ≡ Some y → i < length xs
      there [] i y e = absurd (cc)
      there (z ∷ zs) zero y e = omega arith
      there (z ∷ zs) (suc i) y e = let more = there zs i y e in omega (arith, more)

      below : (k < first) ⊎ (first ≤ k) → k < first
      below (inl less) = less
      below (inr past) = absurd (
          let x = captured_is (any_front d).kind o ended (any_front d).shape (any_station drive d) n is in
          let within : k < length (map any_front ds) = (let a = there ds k d at in let b = length_map_is any_front ds in omega (arith, a, b)) in
          let average : is_average (kind_in (map any_front ds) k) ≡ true = averaged.bases.averages k past within in
          let plain : is_average (kind_in (map any_front ds) k) ≡ false = ap is_average (kind_there ds k d at ∙ x.input) in
          cc
          )
  can_gather (Some (Asked Fault)) is = tt
  can_gather (Some (Asked Idle)) is = tt
  can_gather (Some (Gave answer)) is = tt
  can_gather None is = tt

  -- if there may be another capture
  made_at : (b : Bool) → ended ≡ b → any_station drive d' ≡ entry_station (any_front d).kind o b (any_front d).shape (any_station drive d)
  made_at b e = station ∙ ap (λ (x : Bool). entry_station (any_front d).kind o x (any_front d).shape (any_station drive d)) e

  module _ (ts : List Trigger) where
    abbrev machine_was : Machine
    machine_was = machine_by (any_station drive) clock ts ds

    alone : (r : Option Became) → r ≡ entry_became (any_front d).kind o ended (any_station drive d) → is_capture r ≡ false → ds' ≡ set ds k d'
        → machine_by (any_station drive) clock ts ds'
        ≡ unless_ended ended machine_was (machine_after_entry (fronts_by any_front context triggers ds) o k machine_was)
    alone r is other same = ap (λ (xs : List (AnyDevice X V)). machine_by (any_station drive) clock ts xs) same ∙ by ended refl
      where
        by : (b : Bool) → ended ≡ b → machine_by (any_station drive) clock ts (set ds k d')
            ≡ unless_ended b machine_was (machine_after_entry (fronts_by any_front context triggers ds) o k machine_was)
        by true e = search (rules, map_same, made_at)
        by false e =
            told_alone drive context triggers ds clock ts k d d' at o (made_at false e)
            (none_captured (any_front d).kind o (any_front d).shape (any_station drive d) r
            (is ∙ ap (λ (x : Bool). entry_became (any_front d).kind o x (any_station drive d)) e) other)

    pub told_after : (r : Option Became) → r ≡ entry_became (any_front d).kind o ended (any_station drive d) → AfterEntry drive r k (set ds k d') ds'
        → machine_by (any_station drive) clock ts ds'
        ≡ unless_ended ended machine_was (machine_after_entry (fronts_by any_front context triggers ds) o k machine_was)
    told_after (Some (Asked (Captured n))) is after =
        let x = captured_is (any_front d).kind o ended (any_front d).shape (any_station drive d) n is in
        told_gathered drive context triggers ds clock ts k d d' at o (made_at false x.goes_on) x.capture (full_scan_by d') ds' x.is x.input keeps
        (subst (λ (scan : List ℕ). AreGathered drive k scan (set ds k d') ds') (scan_there ds k d d' at) after)
        (taken_all drive (length triggers) first ds averaged_now k d d' at x.capture (full_scan_by d') (taken_whole x) x.input)
        ∙ ap (λ (b : Bool). unless_ended b machine_was (machine_after_entry (fronts_by any_front context triggers ds) o k machine_was)) (sym x.goes_on)
    told_after (Some (Asked Fault)) is after = alone (Some (Asked Fault)) is refl after
    told_after (Some (Asked Idle)) is after = alone (Some (Asked Idle)) is refl after
    told_after (Some (Gave answer)) is after = alone (Some (Gave answer)) is refl after
    told_after None is after = alone None is refl after

  -- what no such step changes
  each_same : {B : Type 0} (f : AnyDevice X V → B) → ((x y : AnyDevice X V) → KeepsFront x y → f y ≡ f x) → (r : Option Became)
      → AfterEntry drive r k (set ds k d') ds' → map f ds' ≡ map f (set ds k d')
  each_same f same (Some (Asked (Captured n))) after =
      map_unmoved f (set ds k d') ds' after.same (λ j x y there there'. same x y (after.each j x y there there').keeps)
  each_same f same (Some (Asked Fault)) after = ap (map f) after
  each_same f same (Some (Asked Idle)) after = ap (map f) after
  each_same f same (Some (Gave answer)) after = ap (map f) after
  each_same f same None after = ap (map f) after

  pub fronts_after : (r : Option Became) → AfterEntry drive r k (set ds k d') ds' → map any_front ds' ≡ map any_front ds
  fronts_after r after = each_same any_front (λ x y keep. keep.head.front) r after ∙ fronts_now

  pub captures_after : (r : Option Became) → AfterEntry drive r k (set ds k d') ds' → map captures_by ds' ≡ map captures_by (set ds k d')
  captures_after r after = each_same captures_by (λ x y keep. keep.captures) r after

  pub numbered_after_entry : (r : Option Became) → IsNumbered number_by ds → AfterEntry drive r k (set ds k d') ds' → IsNumbered number_by ds'
  numbered_after_entry r numbered after = by r after
    where
      now : IsNumbered number_by (set ds k d')
      now = numbered_after number_by ds k d d' numbered at keeps.number

      by : (r : Option Became) → AfterEntry drive r k (set ds k d') ds' → IsNumbered number_by ds'
      by (Some (Asked (Captured n))) after =
          numbered_together number_by (set ds k d') ds' after.same now (λ j x y there there'. (after.each j x y there there').keeps.head.number)
      by (Some (Asked Fault)) after = subst (λ (xs : List (AnyDevice X V)). IsNumbered number_by xs) (sym after) now
      by (Some (Asked Idle)) after = subst (λ (xs : List (AnyDevice X V)). IsNumbered number_by xs) (sym after) now
      by (Some (Gave answer)) after = subst (λ (xs : List (AnyDevice X V)). IsNumbered number_by xs) (sym after) now
      by None after = subst (λ (xs : List (AnyDevice X V)). IsNumbered number_by xs) (sym after) now

  -- the room of the device itself
  pub room_after : (r : Option Became) → (members : List Member) → IsRoom r members (room_by d') → AfterEntry drive r k (set ds k d') ds'
      → IsRoom r members (option_map_or room_by (slice_get ds' k) [])
  room_after r members is after = search (rules, room_by, room_is)

-- ---- what holds afterwards

module _ {X : Type 0} {V : X → Type 0} (drive : Plug X V → Driver) (context : List ℕ) (triggers : List TriggerDesc)
    (ds ds' : List (AnyDevice X V)) (clock : ℤ) (ts : List Trigger) (fronts : map any_front ds' ≡ map any_front ds) where
  abbrev told_front : Front
  told_front = fronts_by any_front context triggers ds

  abbrev told_before : Machine
  told_before = machine_by (any_station drive) clock ts ds

  whole_by : (states : List State) (first : ℕ) (m : Machine) → machine_by (any_station drive) clock ts ds' ≡ m → IsBench triggers states m.stations
      → IsAveraged (length triggers) first (map any_front ds) m.stations
      → IsBench triggers states (stations_by (λ p. no_driver) ds') × IsAveraged (length triggers) first (map any_front ds') (stations_by (λ p. no_driver) ds')
  whole_by states first m told sound averaged = (
    sound_as drive (λ p. no_driver) triggers states ds' (subst (λ (x : Machine). IsBench triggers states x.stations) (sym told) sound),
    subst (λ (hs : List DeviceHead). IsAveraged (length triggers) first hs (stations_by (λ p. no_driver) ds')) (sym fronts)
        (averaged_as drive (λ p. no_driver) (length triggers) first (map any_front ds) ds'
        (subst (λ (x : Machine). IsAveraged (length triggers) first (map any_front ds) x.stations) (sym told) averaged)),
  )

  pub whole_handled : (states : List State) (first : ℕ) (o : Option Handed) (ended : Bool) (k : ℕ) (d : AnyDevice X V) → slice_get ds k ≡ Some d
      → IsBench triggers states (stations_by (λ p. no_driver) ds) → IsAveraged (length triggers) first (map any_front ds) (stations_by (λ p. no_driver) ds)
      → machine_by (any_station drive) clock ts ds' ≡ unless_ended ended told_before (machine_after_entry told_front o k told_before)
      → ((any_front d).kind ≡ Input → is_last (any_station drive d).captures ≡ ended)
      → IsBench triggers states (stations_by (λ p. no_driver) ds') × IsAveraged (length triggers) first (map any_front ds') (stations_by (λ p. no_driver) ds')
  whole_handled states first o true k d at sound averaged told is_ended =
      whole_by states first told_before told (sound_any drive triggers states ds sound)
      (averaged_as (λ p. no_driver) drive (length triggers) first (map any_front ds) ds averaged)
  whole_handled states first o false k d at sound averaged told is_ended =
      whole_by states first (machine_after_entry told_front o k told_before) told
      (bench_handled told_front o k told_before triggers states (sound_any drive triggers states ds sound))
      (averaged_handled told_front o k told_before (length triggers) first
      (averaged_as (λ p. no_driver) drive (length triggers) first (map any_front ds) ds averaged)
      (length_map_is (any_station drive) ds ∙ sym (length_map_is any_front ds))
      (λ input. (
      ap (λ (st : Station). is_last st.captures) (here_is (map (any_station drive) ds) k (any_station drive d) (map_at (any_station drive) ds k d at))
      ∙ is_ended (sym (kind_is any_front context triggers ds k d at) ∙ input)
      )))

  pub whole_unplugged : (states : List State) (first dev : ℕ) → IsBench triggers states (stations_by (λ p. no_driver) ds)
      → IsAveraged (length triggers) first (map any_front ds) (stations_by (λ p. no_driver) ds)
      → machine_by (any_station drive) clock ts ds' ≡ machine_after_unplugging told_front dev told_before
      → IsBench triggers states (stations_by (λ p. no_driver) ds') × IsAveraged (length triggers) first (map any_front ds') (stations_by (λ p. no_driver) ds')
  whole_unplugged states first dev sound averaged told =
      whole_by states first (machine_after_unplugging told_front dev told_before) told
      (bench_unplugged told_front dev told_before triggers states (sound_any drive triggers states ds sound))
      (averaged_unplugged told_front dev told_before (length triggers) first
      (averaged_as (λ p. no_driver) drive (length triggers) first (map any_front ds) ds averaged))

-- ---- unpluggings

module _ {X : Type 0} {V : X → Type 0} (drive : Plug X V → Driver) (context : List ℕ) (triggers : List TriggerDesc)
    (ds ds' : List (AnyDevice X V)) (clock : ℤ) (ts : List Trigger) (dev : ℕ) where
  pub told_unplugged : AreUnplugged drive dev ds ds'
      → machine_by (any_station drive) clock ts ds'
      ≡ machine_after_unplugging (fronts_by any_front context triggers ds) dev (machine_by (any_station drive) clock ts ds)
  told_unplugged all =
      ap (λ (sts : List Station). (let m : Machine = record { clock = clock; triggers = ts; stations = sts } in m))
      (map_together (any_station drive) (unplugs (fronts_by any_front context triggers ds) dev) 0 ds ds' all.same
      (λ j x x' there there'. (
      let place : j ≡ 0 + j = omega arith in
      (all.each j x x' there there').station
      ∙ ap (λ (kind : Kind). cond (is_unplugged_by kind dev j) (with_site unplugged (any_station drive x)) (any_station drive x))
      (sym (kind_is any_front context triggers ds j x there))
      ∙ ap (λ (i : ℕ). unplugs (fronts_by any_front context triggers ds) dev i (any_station drive x)) place
      )))

-- an averaging device isn't unplugged by itself
pub none_unplugged : (front : Front) (dev : ℕ) (m : Machine) (first : ℕ) → HasBases first front.devices → is_average (kind_at front dev) ≡ true
    → machine_after_unplugging front dev m ≡ m
unfolding kind_at
none_unplugged front dev m first bases average = search (rules, kept_from, same_number)

pub and_false : (a b : Bool) → b ≡ true → (a && not b) ≡ false
and_false a b e = search rules

pub plain_and : (a b : Bool) → b ≡ false → (a && not b) ≡ a
plain_and a b e = search rules
