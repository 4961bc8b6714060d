-- OPEN and CLOSE at a bench.
use Rattle.std.proofs.Common.{◌≡◌, ℕ, zero, suc, ◌+◌, ◌*◌, ◌<◌, ◌≤◌, ◌^◌, Bool, true, false, List, [], ◌∷◌, ◌++◌, map, filter, length, set, slice_get, Option, Some, None, IfOk, Result, Ok, Err, refl, sym, ap, subst, ◌∙◌, arith, cond, rules}
use Rattle.std.proofs.lemmas.Grind.{common_steps}
use Rattle.std.specs.Prelude.{◌&&◌, ◌||◌, ◌-◌, is_none, not, ℤ}
use Rattle.std.specs.List.{list_any}
use Rattle.std.specs.Option.{option_map_or}
use Rattle.std.proofs.lemmas.Nat.{pow_pos}
use Rattle.std.proofs.lemmas.Nat.Bits.{bit_at_ones}
use Rattle.iio_base.specs.Refusals.{first_refusal, unless_refused}
use Rattle.iio_text.specs.declared.errors.Errno.{Errno}
use Rattle.iio_mask.specs.declared.Mask.{Mask}
use Rattle.iio_mask.specs.Mask.{has}
use Rattle.iio_layout.specs.Active.{has_data}
use Rattle.iio_layout.specs.Layout.{scan_size}
use Rattle.iio_layout.specs.Shape.{ShapeRecord, count_of}
use Rattle.iio_derive.specs.Window.{full_mask}
use Rattle.iio_desc.specs.declared.description.TriggerDesc.{TriggerDesc}
use Rattle.iio_kfifo.specs.declared.limits.TheConstants.{MAX_BYTES}
use Rattle.iio_sensor.specs.Driver.{Driver}
use Rattle.iio_trigger.specs.declared.rows.Place.{Place}
use Rattle.iio_trigger.specs.Trigger.{State, with_place, without_place}
use Rattle.iio_device.specs.declared.plug.Plug.{Plug}
use Rattle.iio_device.specs.Device.{has_no_place}
use Rattle.iio_device.specs.Site.{Site, attached, is_empty, no_driver}
use Rattle.iiod_commands.specs.declared.iio.No.{No}
use Rattle.iiod_commands.specs.declared.iio.No.TheVariants.{Errno as NoErrno, Mem as NoMem}
use Rattle.iio_core.specs.Opening.{own_host}
use Rattle.iio_core.specs.Trigger.{Trigger}
use Rattle.iio_core.specs.Front.{Front, kind_at, shape_at}
use Rattle.iio_desc.specs.Description.{DeviceHead}
use Rattle.iio_desc.specs.Kind.{Kind, Input, Output, Average, is_average}
use Rattle.iio_core.specs.Machine.{Machine, Member, Station, is_seat_of, no_station, station_at, station_in, with_station, masks_of}
use Rattle.iio_core.specs.Calls.{machine_after_close, inner_gone, is_inner_of, station_after_join, station_after_leave, newcomer, open_of, open_refusals, trigger_by, trigger_of as trigger_told_of, unless}
use Rattle.iiod_commands.specs.Seat.{Answers, IsNew, MayOpen, number_by as number_of}
use Rattle.iio_kinds.specs.declared.any_device.AnyDevice.{AnyDevice}
use Rattle.iio_kinds.specs.declared.any_device.AnyDevice.TheVariants as any
use Rattle.iio_kinds.specs.declared.seat.Seat.{Seat}
use Rattle.iio_kinds.specs.Faults.{HostsAny, JoinsAny, any_refusals, joining_of, lacks_place}
use Rattle.iio_bench.specs.Averages.{IsAveraged, kind_in}
use Rattle.iio_kinds.specs.Inner.{has_inner}
use Rattle.iio_bench.specs.Triggers.{IsBench, IsNumbered, places_from}
use Rattle.iio_kinds.specs.Places.{hosts, is_hosted, place_left, trigger_of}
use Rattle.iio_bench.specs.Seat.{seen_of}
use Rattle.iio_kinds.specs.Station.{KeepsHead, any_front, any_station, base_of, number_by, stations_by}
use Rattle.iio_bench.proofs.ListLemmas.{at_place_same, length_map_is, map_at, same_element}
use Rattle.iio_kinds.proofs.EmptyLemmas.{empty_list}
use Rattle.iio_kinds.proofs.StandingLemmas.{KeepsPlace, KeepsStanding}
use Rattle.iio_bench.proofs.BenchLemmas.{KeepsRest, bench_attached, bench_by, bench_detached, bench_stays, hosted_is, stands_same}
use Rattle.iio_bench.proofs.AverageLemmas.{KeepsBase, averaged_by, averaged_each, averaged_plain, averaged_stands, here_is}
use Rattle.iio_bench.proofs.RefusalLemmas.{refusals_any}
use Rattle.iio_bench.proofs.AnyLemmas.{closed_alone, hosted_as, open_alone}
use Rattle.iio_bench.proofs.ToldLemmas.{fronts_by, kind_is, machine_by, shape_is, station_is, told_changed, told_same}

-- ---- the mask of all channels

-- it is a mask of the device
pub full_below : (c : ℕ) → 2 ^ c - 1 < 2 ^ c
full_below c = let some : 1 ≤ 2 ^ c = pow_pos c in omega (arith, some)

-- the channels of a device include a data channel
pub full_has : (shape : ShapeRecord) → 0 < length shape.channels → has_data shape (full_mask shape) ≡ true
full_has shape some = grind (arith, common_steps, bit_at_ones)

pub as_many : (triggers : List TriggerDesc) (states : List State) → map (λ (s : State). s.places) states ≡ map (λ (t : TriggerDesc). t.places) triggers
    → length states ≡ length triggers
as_many triggers states e = grind (arith, common_steps)

-- ---- places

places_left : (b : Bool) (places : List Place) (s s' : State) → s' ≡ cond b s (record s { attached = places }) → trigger_of s' ≡ trigger_of s
places_left b places s s' e = search rules

pub joins_tell : (mask : Mask) (capacity : ℕ) (cyclic : Bool) (inner : Option ℕ) (number : ℕ) (shape : ShapeRecord) (r : Result Seat No) (st st' : Station)
    (s s' : State) → JoinsAny (joining_of number shape mask capacity cyclic inner) r st st' s s' → trigger_of s' ≡ trigger_of s
joins_tell mask capacity cyclic inner number shape r st st' s s' j = search rules

pub leaves_tell : (number : ℕ) (st st' : Station) (s s' : State) → s' ≡ place_left number st st' s → trigger_of s' ≡ trigger_of s
leaves_tell number st st' s s' e = places_left (is_empty st.members || not (is_empty st'.members)) _ s s' e

-- a site that is attached
pub attached_trigger : (b : Bool) (site : Site ℕ) → (attached b site).trigger ≡ site.trigger
attached_trigger b site = search rules

pub attached_plugged : (b : Bool) (site : Site ℕ) → (attached b site).plugged ≡ site.plugged
attached_plugged b site = search rules

-- another member, which isn't the inner one of averaging device j
pub inner_more : (j : ℕ) (ms : List Member) (m : Member) → is_inner_of j m ≡ false → list_any (is_inner_of j) (ms ++ m ∷ []) ≡ list_any (is_inner_of j) ms
inner_more j [] m none = ap (λ (b : Bool). b || false) none
inner_more j (x ∷ ms) m none = ap (λ (b : Bool). is_inner_of j x || b) (inner_more j ms m none)

-- a seat can't take an inner member away
pub inner_left : (n j : ℕ) (ms : List Member) → list_any (is_inner_of j) (filter (λ (x : Member). not (is_seat_of n x)) ms) ≡ list_any (is_inner_of j) ms
inner_left n j [] = refl
inner_left n j (x ∷ ms) = search (rules, is_none, inner_left n j ms)

pub some_more : (ms : List Member) (m : Member) → is_empty (ms ++ m ∷ []) ≡ false
some_more ms m = grind (arith, common_steps)

-- a device that has a member and keeps one keeps its place
members_kept : (st st' : Station) → is_empty st.members ≡ false → is_empty st'.members ≡ false → st'.site.trigger ≡ st.site.trigger
    → st'.site.attachment ≡ st.site.attachment → KeepsPlace st st'
members_kept st st' some some' trigger attachment = search rules

-- a device that has no member and gets none keeps its place
none_kept : (st st' : Station) → is_empty st.members ≡ true → is_empty st'.members ≡ true → st'.site.attachment ≡ st.site.attachment → KeepsPlace st st'
none_kept st st' none none' attachment = search rules

-- a device without a trigger has no member
pub hosted_none : (n : ℕ) (st : Station) → st.site.trigger ≡ None → is_hosted n st ≡ true → is_empty st.members ≡ true
hosted_none n st none h = sym (ap (λ (o : Option ℕ). hosts n (is_empty st.members) o) none) ∙ h

-- a device with a trigger has one of those that are there
pub hosted_within : (n t : ℕ) (st : Station) → st.site.trigger ≡ Some t → is_hosted n st ≡ true → t < n
hosted_within n t st on h = search rules

none_filtered : (p : Member → Bool) (ms : List Member) → is_empty ms ≡ true → is_empty (filter p ms) ≡ true
none_filtered p ms e = search rules

-- no member leaves a device without one
left_none : (n : ℕ) (st : Station) → st.members ≡ [] → station_after_leave n st ≡ st
left_none n st none = search rules

-- no inner member leaves a device without a member
pub gone_none : (j : ℕ) (st : Station) → is_empty st.members ≡ true → inner_gone j st ≡ st
gone_none j st empty = search rules

-- ---- what holds after a joining and a leaving

module _ (triggers : List TriggerDesc) (states : List State) (sts : List Station) (k t : ℕ) (st st' : Station) (s s' : State)
    (bench : IsBench triggers states sts) (at : slice_get sts k ≡ Some st) (there : slice_get states t ≡ Some s)
    (own : st.site.trigger ≡ Some t) (within : t < length states) where
  inside : t < length triggers
  inside = rw (sym (as_many triggers states bench.places)) within

  same_bench : st' ≡ st → s' ≡ s → IsBench triggers (set states t s') (set sts k st')
  same_bench e same = bench_stays triggers states sts k t st st' s s' bench at there (stands_same st st' e).inner.place same

  joined_by : (mask capacity : ℕ) (cyclic : Bool) (inner : Option ℕ) (b : Bool) → is_empty st.members ≡ b
      → st' ≡ station_after_join mask capacity cyclic inner st
      → s' ≡ cond b (record s { attached = with_place k (st.site.attachment + 1) s.attached }) s → IsBench triggers (set states t s') (set sts k st')
  joined_by mask capacity cyclic inner true e is after =
      bench_attached triggers states sts k t st st' s s' bench at there (st.site.attachment + 1) inside e
      (ap (λ (x : Station). x.site.trigger) is ∙ attached_trigger (is_empty st.members) st.site ∙ own)
      (ap (λ (x : Station). is_empty x.members) is ∙ some_more st.members (newcomer mask capacity cyclic inner st))
      (ap (λ (x : Station). x.site.attachment) is ∙ ap (λ (b : Bool). (attached b st.site).attachment) e)
      after
  joined_by mask capacity cyclic inner false e is after =
      bench_stays triggers states sts k t st st' s s' bench at there
      (members_kept st st' e
      (ap (λ (x : Station). is_empty x.members) is ∙ some_more st.members (newcomer mask capacity cyclic inner st))
      (ap (λ (x : Station). x.site.trigger) is ∙ attached_trigger (is_empty st.members) st.site)
      (ap (λ (x : Station). x.site.attachment) is ∙ ap (λ (b : Bool). (attached b st.site).attachment) e))
      after

  pub bench_joined : (mask : Mask) (capacity : ℕ) (cyclic : Bool) (inner : Option ℕ) (shape : ShapeRecord) (r : Result Seat No)
      → JoinsAny (joining_of k shape mask capacity cyclic inner) r st st' s s' → IsBench triggers (set states t s') (set sts k st')
  bench_joined mask capacity cyclic inner shape (Ok seat) j = joined_by mask.bits capacity cyclic inner (is_empty st.members) refl j.1 j.2
  bench_joined mask capacity cyclic inner shape (Err x) j = same_bench j.1 j.2

  gone_by : (b b' : Bool) → is_empty st.members ≡ b → is_empty st'.members ≡ b' → (is_empty st.members ≡ true → is_empty st'.members ≡ true)
      → st'.site ≡ st.site → s' ≡ cond (b || not b') s (record s { attached = without_place k s.attached })
      → IsBench triggers (set states t s') (set sts k st')
  gone_by true b' none e fewer site after =
      bench_stays triggers states sts k t st st' s s' bench at there (none_kept st st' none (fewer none) (ap (λ (x : Site ℕ). x.attachment) site)) after
  gone_by false true some none fewer site after =
      bench_detached triggers states sts k t st st' s s' bench at there inside own (ap (λ (x : Site ℕ). x.trigger) site ∙ own) none after
  gone_by false false some some' fewer site after =
      bench_stays triggers states sts k t st st' s s' bench at there
      (members_kept st st' some some' (ap (λ (x : Site ℕ). x.trigger) site) (ap (λ (x : Site ℕ). x.attachment) site)) after

  pub bench_left : (n : ℕ) → st' ≡ station_after_leave n st → s' ≡ place_left k st st' s → IsBench triggers (set states t s') (set sts k st')
  bench_left n is after = search (rules, gone_by, none_filtered)

  -- the inner member of averaging device j leaves it
  pub bench_gone : (j : ℕ) → st' ≡ inner_gone j st → s' ≡ place_left k st st' s → IsBench triggers (set states t s') (set sts k st')
  bench_gone j is after = search (rules, gone_by, none_filtered)

-- ---- what holds of the devices holds whichever driver they sample by

module _ {X : Type 0} {V : X → Type 0} (p q : Plug X V → Driver) where
  places_as : (t dev : ℕ) (ds : List (AnyDevice X V)) → places_from dev t (map (any_station p) ds) ≡ places_from dev t (map (any_station q) ds)
  places_as t dev [] = refl
  places_as t dev (any.Input d ∷ ds) = simp (places_as t (suc dev) ds)
  places_as t dev (any.Output x ∷ ds) = simp (places_as t (suc dev) ds)
  places_as t dev (any.Average a ∷ ds) = simp (places_as t (suc dev) ds)

  pub sound_as : (triggers : List TriggerDesc) (states : List State) (ds : List (AnyDevice X V)) → IsBench triggers states (stations_by p ds)
      → IsBench triggers states (stations_by q ds)
  sound_as triggers states ds sound = record {
    few = sound.few;
    devices = rw (length_map_is (any_station q) ds) (rw (length_map_is (any_station p) ds) at sound.devices);
    places = sound.places;
    each = λ t s e. record { attached = (sound.each t s e).attached ∙ places_as t 0 ds; idle = (sound.each t s e).idle };
  }

  each_as : (ds : List (AnyDevice X V)) (i : ℕ) → KeepsStanding (station_in (map (any_station p) ds) i) (station_in (map (any_station q) ds) i)
  each_as [] i = stands_same no_station no_station refl
  each_as (d ∷ ds) zero = search rules
  each_as (d ∷ ds) (suc i) = each_as ds i

  pub averaged_as : (triggers first : ℕ) (heads : List DeviceHead) (ds : List (AnyDevice X V)) → IsAveraged triggers first heads (stations_by p ds)
      → IsAveraged triggers first heads (stations_by q ds)
  averaged_as triggers first heads ds a = search (rules, averaged_each, each_as)

pub kind_there : {X : Type 0} {V : X → Type 0} (ds : List (AnyDevice X V)) (k : ℕ) (d : AnyDevice X V) → slice_get ds k ≡ Some d
    → kind_in (map any_front ds) k ≡ (any_front d).kind
kind_there ds k d at = ap (λ (o : Option DeviceHead). option_map_or (λ (x : DeviceHead). x.kind) o Input) (map_at any_front ds k d at)

-- an averaging device by its base
pub record IsMean (kind : Kind) (base : ℕ) : Type 0 where
  pub window : ℕ
  pub is : kind ≡ Average base window

pub mean_of : (kind : Kind) (base : ℕ) → base_of kind ≡ Some base → IsMean kind base
mean_of kind base e = search rules

pub plain_of : (kind : Kind) → base_of kind ≡ None → is_average kind ≡ false
plain_of kind e = search rules

-- only a writer may have a cycle
pub cycle_written : (cyclic b : Bool) → b ≡ true → (cyclic && not b) ≡ false
cycle_written cyclic b e = search rules

pub average_of : (kind : Kind) (base : ℕ) → base_of kind ≡ Some base → is_average kind ≡ true
average_of kind base e = let mean = mean_of kind base e in ap is_average mean.is

-- its base is there
pub base_within : {X : Type 0} {V : X → Type 0} (triggers first : ℕ) (sts : List Station) (ds : List (AnyDevice X V)) (k base : ℕ) (d : AnyDevice X V)
    → IsAveraged triggers first (map any_front ds) sts → slice_get ds k ≡ Some d
    → base_of (any_front d).kind ≡ Some base → base < length ds
base_within triggers first sts ds k base d a at e = search (rules, mean_of, any_front, kind_there, length_map_is)

pub mean_trigger : (front : Front) (m : Machine) (k base window : ℕ) → kind_at front k ≡ Average base window
    → trigger_told_of front m k ≡ (station_at m base).site.trigger
unfolding trigger_told_of
mean_trigger front m k base window is = ap (λ (kind : Kind). trigger_by kind m k) is

-- a device that isn't an averaging one, by its number
pub plain_at : {X : Type 0} {V : X → Type 0} (context : List ℕ) (triggers : List TriggerDesc) (ds : List (AnyDevice X V)) (k : ℕ) (d : AnyDevice X V)
    → slice_get ds k ≡ Some d
    → is_average (kind_at (fronts_by any_front context triggers ds) k) ≡ false → is_average (any_front d).kind ≡ false
plain_at context triggers ds k d at plain = ap is_average (sym (kind_is any_front context triggers ds k d at)) ∙ plain

module _ {X : Type 0} {V : X → Type 0} (drive : Plug X V → Driver) where
  pub sound_any : (triggers : List TriggerDesc) (states : List State) (ds : List (AnyDevice X V)) → IsBench triggers states (stations_by (λ p. no_driver) ds)
      → IsBench triggers states (stations_by drive ds)
  sound_any triggers states ds sound = sound_as (λ p. no_driver) drive triggers states ds sound

  -- a device that isn't an averaging one is hosted

  module _ (triggers first : ℕ) (ds : List (AnyDevice X V)) (averaged : IsAveraged triggers first (map any_front ds) (stations_by (λ p. no_driver) ds)) (k : ℕ)
      (d : AnyDevice X V) (at : slice_get ds k ≡ Some d)
      (plain : is_average (any_front d).kind ≡ false) where
    pub hosted_at : is_hosted triggers (any_station drive d) ≡ true
    hosted_at = search (rules, hosted_as, here_is, map_at, kind_there)

  pub hosted_by_states : (triggers : List TriggerDesc) (states : List State) (ds : List (AnyDevice X V)) (first : ℕ)
      → IsBench triggers states (stations_by (λ p. no_driver) ds)
      → IsAveraged (length triggers) first (map any_front ds) (stations_by (λ p. no_driver) ds) → (k : ℕ) (d : AnyDevice X V) → slice_get ds k ≡ Some d
      → is_average (any_front d).kind ≡ false
      → is_hosted (length states) (any_station drive d) ≡ true
  hosted_by_states triggers states ds first sound averaged k d at plain =
      rw (as_many triggers states sound.places) (hosted_at (length triggers) first ds averaged k d at plain)

  -- the device's trigger is there
  pub within_states : (triggers : List TriggerDesc) (states : List State) (ds : List (AnyDevice X V)) (first : ℕ)
      → IsBench triggers states (stations_by (λ p. no_driver) ds)
      → IsAveraged (length triggers) first (map any_front ds) (stations_by (λ p. no_driver) ds) → (k t : ℕ) (d : AnyDevice X V) → slice_get ds k ≡ Some d
      → is_average (any_front d).kind ≡ false → Some t ≡ (any_station drive d).site.trigger → t < length states
  within_states triggers states ds first sound averaged k t d at plain own =
      hosted_within (length states) t (any_station drive d) (sym own) (hosted_by_states triggers states ds first sound averaged k d at plain)

  -- ---- OPEN

  module _ (context : List ℕ) (triggers : List TriggerDesc) (states : List State) (ds : List (AnyDevice X V)) (clock : ℤ) (k capacity : ℕ) (cyclic : Bool)
      (d : AnyDevice X V)
      (sound : IsBench triggers states (stations_by (λ p. no_driver) ds)) (numbered : IsNumbered number_by ds) (at : slice_get ds k ≡ Some d) where
    shaped : shape_at (fronts_by any_front context triggers ds) k ≡ (any_front d).shape
    shaped = shape_is any_front context triggers ds k d at

    pub open_fits : (mask : ℕ) → MayOpen (fronts_by any_front context triggers ds) k mask capacity → (mask < 2 ^ count_of (any_front d).shape)
        × (has_data (any_front d).shape mask ≡ true)
    open_fits mask may = (rw shaped at may.below, rw shaped at may.channel)

    pub open_bytes : (mask : ℕ) → MayOpen (fronts_by any_front context triggers ds) k mask capacity → capacity * scan_size (any_front d).shape mask ≤ MAX_BYTES
    open_bytes mask may = rw shaped at may.bytes

    refusals : (mask : ℕ) (r : Option Errno)
        → first_refusal (any_refusals (lacks_place (number_by d) states (any_station drive d).site.trigger) (any_front d).kind (any_front d).shape
        (any_station drive d) mask) ≡ r
        → first_refusal (open_refusals (fronts_by any_front context triggers ds) (map (any_station drive) ds) (any_front d).kind
        (own_host (any_station drive d) (any_front d).shape mask (masks_of (any_station drive d).members)) (any_station drive d)) ≡ r
    refusals mask r e =
        refusals_any (fronts_by any_front context triggers ds) states (map (any_station drive) ds) k (any_front d).kind (any_front d).shape
        (any_station drive d) mask (sound_any triggers states ds sound) (map_at (any_station drive) ds k d at)
        ∙ ap (λ (n : ℕ). first_refusal
        (any_refusals (lacks_place n states (any_station drive d).site.trigger) (any_front d).kind (any_front d).shape (any_station drive d) mask))
        (sym (numbered k d at)) ∙ e

    opens : (ts : List Trigger) (mask : ℕ) (r : Option Errno) → is_average (any_front d).kind ≡ false
        → first_refusal (any_refusals (lacks_place (number_by d) states (any_station drive d).site.trigger) (any_front d).kind (any_front d).shape
        (any_station drive d) mask) ≡ r
        → open_of (fronts_by any_front context triggers ds) (machine_by (any_station drive) clock ts ds) k mask capacity cyclic
        ≡ unless (station_after_join mask capacity cyclic None) k (machine_by (any_station drive) clock ts ds) (unless_refused (any_station drive d).next r)
    opens ts mask r plain e =
        open_alone (fronts_by any_front context triggers ds) k (ap is_average (kind_is any_front context triggers ds k d at) ∙ plain)
        (machine_by (any_station drive) clock ts ds) mask capacity cyclic (any_station drive d) (any_front d).shape
        (station_is (any_station drive) clock ts ds k d at) shaped (any_front d).kind r (kind_is any_front context triggers ds k d at) (refusals mask r e)

    pub open_refused : (ts : List Trigger) (mask : ℕ) (no : No) → is_average (any_front d).kind ≡ false
        → HostsAny states (any_front d).kind (number_by d) (any_front d).shape (any_station drive d) mask (Err no)
        → Answers (open_of (fronts_by any_front context triggers ds) (machine_by (any_station drive) clock ts ds) k mask capacity cyclic)
        (machine_by (any_station drive) clock ts ds) (Err no) (Some (machine_by (any_station drive) clock ts ds))
    open_refused ts mask (NoErrno e) plain hosts = rw (opens ts mask (Some e) plain hosts) (refl, refl)
    open_refused ts mask NoMem plain hosts = refl

    pub open_joins : (ts : List Trigger) (mask : Mask) (t : ℕ) (d' : AnyDevice X V) (s s' : State) (r : Result Seat No) → is_average (any_front d).kind ≡ false
        → HostsAny states (any_front d).kind (number_by d) (any_front d).shape (any_station drive d) mask.bits (Ok t)
        → JoinsAny (joining_of (number_by d) (any_front d).shape mask capacity cyclic None) r (any_station drive d) (any_station drive d') s s'
        → Answers (open_of (fronts_by any_front context triggers ds) (machine_by (any_station drive) clock ts ds) k mask.bits capacity cyclic)
        (machine_by (any_station drive) clock ts ds) (number_of seen_of r) (Some (machine_by (any_station drive) clock ts (set ds k d')))
    open_joins ts mask t d' s s' (Ok seat) plain hosts j =
        rw (opens ts mask.bits None plain hosts.2) (
          ap (λ (x : Seat). Ok x.number) (sym j.0),
          ap (λ (m : Machine). Some m) (told_changed (any_station drive) clock ts ds k d d' at (station_after_join mask.bits capacity cyclic None) j.1),
        )
    open_joins ts mask t d' s s' (Err x) plain hosts j =
        subst (λ (y : No). Answers (open_of (fronts_by any_front context triggers ds) (machine_by (any_station drive) clock ts ds) k mask.bits capacity cyclic)
        (machine_by (any_station drive) clock ts ds) (Err y) (Some (machine_by (any_station drive) clock ts (set ds k d')))) (sym j.0)
        (ap (λ (m : Machine). Some m) (told_same (any_station drive) clock ts ds k d d' at j.1))

    pub open_seat : (mask : Mask) (st st' : Station) (s s' : State) (r : Result Seat No)
        → JoinsAny (joining_of (number_by d) (any_front d).shape mask capacity cyclic None) r st st' s s'
        → IfOk r (λ x. IsNew (fronts_by any_front context triggers ds) k mask.bits capacity (seen_of x))
    open_seat mask st st' s s' r j = search (rules, shaped)

    -- if it is hosted by a trigger that is there, that has a place for it
    pub open_may : (mask t : ℕ) (s : State) → HostsAny states (any_front d).kind (number_by d) (any_front d).shape (any_station drive d) mask (Ok t)
        → slice_get states t ≡ Some s
        → first_refusal (any_refusals (has_no_place (number_by d) s) (any_front d).kind (any_front d).shape (any_station drive d) mask) ≡ None
    open_may mask t s hosts there = search rules

  -- ---- what holds after a joining and a leaving

  module _ (triggers : List TriggerDesc) (states : List State) (ds : List (AnyDevice X V)) (k t : ℕ) (d d' : AnyDevice X V) (s s' : State)
      (sound : IsBench triggers states (stations_by (λ p. no_driver) ds)) (numbered : IsNumbered number_by ds) (at : slice_get ds k ≡ Some d)
      (there : slice_get states t ≡ Some s)
      (own : (any_station drive d).site.trigger ≡ Some t) (within : t < length states) where
    back : IsBench triggers (set states t s') (set (stations_by drive ds) k (any_station drive d'))
        → IsBench triggers (set states t s') (stations_by (λ p. no_driver) (set ds k d'))
    back b = sound_as drive (λ p. no_driver) triggers (set states t s') (set ds k d') (bench_by (any_station drive) triggers (set states t s') ds k d' b)

    pub sound_joins : (mask : Mask) (capacity : ℕ) (cyclic : Bool) (inner : Option ℕ) (r : Result Seat No)
        → JoinsAny (joining_of (number_by d) (any_front d).shape mask capacity cyclic inner) r (any_station drive d) (any_station drive d') s s'
        → IsBench triggers (set states t s') (stations_by (λ p. no_driver) (set ds k d'))
    sound_joins mask capacity cyclic inner r j =
        back (bench_joined triggers states (stations_by drive ds) k t (any_station drive d) (any_station drive d') s s' (sound_any triggers states ds sound)
        (map_at (any_station drive) ds k d at) there own within mask capacity cyclic inner (any_front d).shape r
        (subst (λ (n : ℕ). JoinsAny (joining_of n (any_front d).shape mask capacity cyclic inner) r (any_station drive d) (any_station drive d') s s')
        (numbered k d at) j))

    pub sound_leaves : (n : ℕ) → any_station drive d' ≡ station_after_leave n (any_station drive d)
        → s' ≡ place_left (number_by d) (any_station drive d) (any_station drive d') s
        → IsBench triggers (set states t s') (stations_by (λ p. no_driver) (set ds k d'))
    sound_leaves n is after =
        back (bench_left triggers states (stations_by drive ds) k t (any_station drive d) (any_station drive d') s s' (sound_any triggers states ds sound)
        (map_at (any_station drive) ds k d at) there own within n is
        (subst (λ (i : ℕ). s' ≡ place_left i (any_station drive d) (any_station drive d') s) (numbered k d at) after))

  -- ---- what concerns averaging devices, after a call at a device that isn't one

  module _ (triggers first : ℕ) (ds : List (AnyDevice X V)) (k : ℕ) (d d' : AnyDevice X V)
      (averaged : IsAveraged triggers first (map any_front ds) (stations_by (λ p. no_driver) ds)) (at : slice_get ds k ≡ Some d)
      (plain : is_average (any_front d).kind ≡ false) (keeps : KeepsHead d d') where
    averaged_back : IsAveraged triggers first (map any_front ds) (set (stations_by drive ds) k (any_station drive d'))
        → IsAveraged triggers first (map any_front (set ds k d')) (stations_by (λ p. no_driver) (set ds k d'))
    averaged_back a =
        averaged_as drive (λ p. no_driver) triggers first (map any_front (set ds k d')) (set ds k d')
        (averaged_by triggers first any_front (any_station drive) ds k d d' at keeps.front a)

    by_base : is_hosted triggers (any_station drive d') ≡ true → KeepsBase triggers first (map any_front ds) (any_station drive d) (any_station drive d')
        → IsAveraged triggers first (map any_front (set ds k d')) (stations_by (λ p. no_driver) (set ds k d'))
    by_base hosted kept =
        averaged_back
        (averaged_plain triggers first (map any_front ds) (stations_by drive ds) k (any_station drive d) (any_station drive d')
        (averaged_as (λ p. no_driver) drive triggers first (map any_front ds) ds averaged)
        (map_at (any_station drive) ds k d at) (ap is_average (kind_there ds k d at) ∙ plain) hosted kept)

    -- another trigger
    pub averaged_set : KeepsRest triggers (any_station drive d) (any_station drive d')
        → IsAveraged triggers first (map any_front (set ds k d')) (stations_by (λ p. no_driver) (set ds k d'))
    averaged_set kept =
        by_base (kept.hosted (hosted_at triggers first ds averaged k d at plain))
        (record { plugged = kept.plugged; inner = kept.inner; captures = kept.captures })

  -- a joining and a leaving of a connection's member

  module _ (triggers first : ℕ) (ds : List (AnyDevice X V)) (k t : ℕ) (d d' : AnyDevice X V)
      (averaged : IsAveraged triggers first (map any_front ds) (stations_by (λ p. no_driver) ds)) (at : slice_get ds k ≡ Some d)
      (plain : is_average (any_front d).kind ≡ false) (keeps : KeepsHead d d') (own : (any_station drive d).site.trigger ≡ Some t) (within : t < triggers) where
    pub averaged_joins : (mask : Mask) (capacity : ℕ) (cyclic : Bool) (r : Result Seat No) (s s' : State)
        → JoinsAny (joining_of (number_by d) (any_front d).shape mask capacity cyclic None) r (any_station drive d) (any_station drive d') s s'
        → IsAveraged triggers first (map any_front (set ds k d')) (stations_by (λ p. no_driver) (set ds k d'))
    averaged_joins mask capacity cyclic (Ok seat) s s' j =
        by_base triggers first ds k d d' averaged at plain keeps (hosted_is t triggers (any_station drive d')
        (ap (λ (x : Station). x.site.trigger) j.1 ∙ attached_trigger (is_empty (any_station drive d).members) (any_station drive d).site ∙ own) within)
        (record {
          plugged = ap (λ (x : Station). x.site.plugged) j.1 ∙ attached_plugged (is_empty (any_station drive d).members) (any_station drive d).site;
          inner = search (rules, inner_more);
          captures = ap (λ (x : Station). x.captures) j.1;
        })
    averaged_joins mask capacity cyclic (Err x) s s' j =
        averaged_back triggers first ds k d d' averaged at plain keeps
        (averaged_stands triggers first (map any_front ds) (stations_by drive ds) k (any_station drive d) (any_station drive d')
        (averaged_as (λ p. no_driver) drive triggers first (map any_front ds) ds averaged)
        (map_at (any_station drive) ds k d at) (stands_same (any_station drive d) (any_station drive d') j.1))

    pub averaged_leaves : (n : ℕ) → any_station drive d' ≡ station_after_leave n (any_station drive d)
        → IsAveraged triggers first (map any_front (set ds k d')) (stations_by (λ p. no_driver) (set ds k d'))
    averaged_leaves n is =
        by_base triggers first ds k d d' averaged at plain keeps
        (hosted_is t triggers (any_station drive d') (ap (λ (x : Station). x.site.trigger) is ∙ own) within)
        (record {
          plugged = ap (λ (x : Station). x.site.plugged) is;
          inner = λ i. ap (λ (x : Station). has_inner i x) is ∙ inner_left n i (any_station drive d).members;
          captures = ap (λ (x : Station). x.captures) is;
        })

  -- ---- CLOSE

  module _ (context : List ℕ) (triggers : List TriggerDesc) (ds : List (AnyDevice X V)) (clock : ℤ) (ts : List Trigger) (k : ℕ) (d : AnyDevice X V)
      (at : slice_get ds k ≡ Some d) (plain : is_average (any_front d).kind ≡ false) (n : ℕ) where
    closed_is : machine_after_close (fronts_by any_front context triggers ds) (machine_by (any_station drive) clock ts ds) k n
        ≡ with_station (station_after_leave n) k (machine_by (any_station drive) clock ts ds)
    closed_is = search (rules, closed_alone, any_front, kind_is)

    pub told_leaves : (d' : AnyDevice X V) → any_station drive d' ≡ station_after_leave n (any_station drive d)
        → Some (machine_by (any_station drive) clock ts (set ds k d'))
        ≡ Some (machine_after_close (fronts_by any_front context triggers ds) (machine_by (any_station drive) clock ts ds) k n)
    told_leaves d' is = ap (λ (m : Machine). Some m) (told_changed (any_station drive) clock ts ds k d d' at (station_after_leave n) is ∙ sym closed_is)

    told_stays : is_empty (any_station drive d).members ≡ true
        → Some (machine_by (any_station drive) clock ts ds)
        ≡ Some (machine_after_close (fronts_by any_front context triggers ds) (machine_by (any_station drive) clock ts ds) k n)
    unfolding with_station
    told_stays e =
        ap (λ (m : Machine). Some m)
        (ap (λ (sts : List Station). (let m : Machine = record { clock = clock; triggers = ts; stations = sts } in m))
        (sym (at_place_same (map (any_station drive) ds) k (any_station drive d) (station_after_leave n) (map_at (any_station drive) ds k d at)
        (left_none n (any_station drive d) (empty_list (any_station drive d).members e))))
        ∙ sym closed_is)

    pub told_none : (first : ℕ) → IsAveraged (length triggers) first (map any_front ds) (stations_by (λ p. no_driver) ds)
        → None ≡ (any_station drive d).site.trigger
        → Some (machine_by (any_station drive) clock ts ds)
        ≡ Some (machine_after_close (fronts_by any_front context triggers ds) (machine_by (any_station drive) clock ts ds) k n)
    told_none first averaged own =
        told_stays (hosted_none (length triggers) (any_station drive d) (sym own) (hosted_at (length triggers) first ds averaged k d at plain))

  pub hosts_along : (xs states : List State) (ds : List (AnyDevice X V)) (k : ℕ) (e d : AnyDevice X V) (mask : ℕ) (r : Result ℕ No)
      → xs ≡ states → slice_get ds k ≡ Some e → slice_get ds k ≡ Some d
      → HostsAny xs (any_front e).kind (number_by e) (any_front e).shape (any_station drive e) mask r
      → HostsAny states (any_front d).kind (number_by d) (any_front d).shape (any_station drive d) mask r
  hosts_along xs states ds k e d mask r same at_e at_d h = search rules

  pub own_along : (ds : List (AnyDevice X V)) (k t : ℕ) (e d : AnyDevice X V) → slice_get ds k ≡ Some e → slice_get ds k ≡ Some d
      → Some t ≡ (any_station drive e).site.trigger → (any_station drive d).site.trigger ≡ Some t
  own_along ds k t e d at_e at_d h = ap (λ (x : AnyDevice X V). (any_station drive x).site.trigger) (same_element ds k d e at_d at_e) ∙ sym h

pub sized_along : (xs states : List State) (b : ℕ → Bool) → xs ≡ states → b (length states) ≡ true → b (length xs) ≡ true
sized_along xs states b same h = rw same h
