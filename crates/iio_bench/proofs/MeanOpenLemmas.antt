-- OPEN at an averaging device of a bench.
use Rattle.std.proofs.Common.{◌≡◌, ℕ, zero, suc, ◌<◌, ◌^◌, Bool, true, false, List, [], ◌∷◌, map, length, set, get_or, slice_get, Option, Some, None, Result, Ok, Err, refl, sym, ap, subst, ◌∙◌, arith, cond, rules}
use Rattle.std.proofs.lemmas.Grind.{common_steps}
use Rattle.std.specs.Prelude.{◌==◌, ◌&&◌, ◌-◌, ◌≤◌, ◌*◌, IfOk, is_none, not}
use Rattle.std.specs.List.{list_any}
use Rattle.std.proofs.lemmas.List.{map-set}
use Rattle.std.proofs.lemmas.Option.{slice_get_read}
use Rattle.iio_base.specs.Refusals.{first_refusal, unless_refused}
use Rattle.iio_text.specs.declared.errors.Errno.{Errno}
use Rattle.iio_text.specs.declared.errors.Errno.TheVariants.{EBUSY, ENODEV, ENOSPC}
use Rattle.iio_mask.specs.declared.Mask.{Mask}
use Rattle.iio_layout.specs.Layout.{scan_size}
use Rattle.iio_layout.specs.Shape.{ShapeRecord, count_of}
use Rattle.iio_desc.specs.Description.{DeviceHead}
use Rattle.iio_desc.specs.declared.description.TriggerDesc.{TriggerDesc}
use Rattle.iio_desc.specs.Kind.{Kind, Input, Output, Average, is_average, is_output}
use Rattle.iio_derive.specs.Window.{full_mask}
use Rattle.iio_sensor.specs.Driver.{Driver}
use Rattle.iio_trigger.specs.Trigger.{State}
use Rattle.iio_device.specs.declared.plug.Plug.{Plug}
use Rattle.iio_device.specs.Active.{is_without_union}
use Rattle.iio_device.specs.Site.{is_empty, no_driver}
use Rattle.iiod_commands.specs.declared.iio.No.{No}
use Rattle.iiod_commands.specs.declared.iio.No.TheVariants.{Errno as NoErrno, Mem as NoMem}
use Rattle.iio_core.specs.Attached.{has_no_place}
use Rattle.iio_core.specs.Calls.{all_joined, machine_after_close, has_no_number, inner_gone, is_inner_of, station_after_join, station_after_leave, newcomer, open_of, open_refusals, CallResult, unless_made}
use Rattle.iio_core.specs.Front.{Front, kind_at, shape_at}
use Rattle.iio_core.specs.Machine.{Machine, Member, Station, masks_of, station_at, station_in, attachments_of}
use Rattle.iio_core.specs.Opening.{join_refusals, inner_host}
use Rattle.iiod_commands.specs.Seat.{Answers, IsNew, number_by as number_of}
use Rattle.iio_kinds.specs.declared.any_device.AnyDevice.{AnyDevice}
use Rattle.iio_kinds.specs.declared.any_device.AnyDevice.TheVariants as any
use Rattle.iio_bench.specs.declared.bench.Bench.{Bench}
use Rattle.iio_kinds.specs.declared.seat.Seat.{Seat}
use Rattle.iio_bench.specs.Averages.{HasInner, IsAveraged, kind_in}
use Rattle.iio_kinds.specs.Inner.{has_inner}
use Rattle.iio_bench.specs.Bench.{front_of, triggers_of}
use Rattle.iio_kinds.specs.Faults.{HasJoined, HostsAny, IsServedAlone, JoinsMean, MayHaveInner, any_refusals, lacks_place}
use Rattle.iio_bench.specs.Triggers.{IsBench, IsNumbered}
use Rattle.iio_kinds.specs.Places.{hosts, is_hosted, place_left, place_taken}
use Rattle.iio_bench.specs.Seat.{seen_of}
use Rattle.iio_kinds.specs.Station.{KeepsHead, any_front, any_station, base_of, number_by, stations_by}
use Rattle.iio_bench.proofs.ListLemmas.{element_at, map_at, map_same, numbered_after, same_element, set_same, within_map}
use Rattle.iio_bench.proofs.BenchLemmas.{bench_by, hosted_is}
use Rattle.iio_bench.proofs.AverageLemmas.{average_other, averaged_pair, get_here, get_there, got_there, here_is, input_plain, set_twice}
use Rattle.iio_bench.proofs.MeanLemmas.{base_is, base_list, bench_unattached, first_is, further_is, has_first, has_further, has_left, inner_stays, mean_closed, mean_full, mean_joined, mean_list, mean_may, mean_refused, open_mean}
use Rattle.iio_bench.proofs.OpenLemmas.{IsMean, as_many, attached_plugged, attached_trigger, averaged_as, base_within, bench_gone, bench_joined, full_below, gone_none, hosted_at, hosted_none, hosted_within, inner_more, kind_there, mean_of, sound_any, sound_as}
use Rattle.iio_bench.proofs.ToldLemmas.{kind_is, machine_by, shape_is, station_is, told_same}

-- refusals of a further member, by its plug and its numbers
further_gone : (full : Bool) → first_refusal ((true, ENODEV) ∷ (false, EBUSY) ∷ join_refusals false false full) ≡ Some ENODEV
further_gone full = refl

further_ends : first_refusal ((false, ENODEV) ∷ (false, EBUSY) ∷ join_refusals false false true) ≡ Some ENOSPC
further_ends = refl

further_goes : first_refusal ((false, ENODEV) ∷ (false, EBUSY) ∷ join_refusals false false false) ≡ None
further_goes = refl

inner_some : (j : ℕ) (ms : List Member) → list_any (is_inner_of j) ms ≡ true → is_empty ms ≡ false
inner_some j ms e = search rules

on_trigger : (n : ℕ) (st : Station) → is_empty st.members ≡ false → is_hosted n st ≡ true → is_none st.site.trigger ≡ false
on_trigger n st some h = search rules

-- if memory ran out, nothing changes
pub told_mem : {A : Type 0} (o : CallResult A) (m m' : Machine) (refusal : No) → refusal ≡ NoMem → m' ≡ m → Answers o m (Err refusal) (Some m')
told_mem {A = A} o m m' refusal e same = subst (λ (y : No). Answers {A = A} o m (Err y) (Some m')) (sym e) (ap (λ (x : Machine). Some x) same)

-- what an undoing requires
pub has_joined : (mask : Mask) (capacity : ℕ) (shape : ShapeRecord) (seat : Seat) (st st' : Station) → JoinsMean mask capacity shape (Ok seat) st st'
    → HasJoined seat.mask seat.capacity st'
has_joined mask capacity shape seat st st' j = search rules

pub joined_by_seat : (mask : Mask) (capacity : ℕ) (shape : ShapeRecord) (seat : Seat) (st st' : Station) → JoinsMean mask capacity shape (Ok seat) st st'
    → st' ≡ station_after_join seat.mask.bits seat.capacity false None st
joined_by_seat mask capacity shape seat st st' j = j.1 ∙ sym (ap (λ (s : Seat). station_after_join s.mask.bits s.capacity false None st) j.0)

-- the scans of an averaging device's members never come round again
pub never_cyclic : (kind : Kind) (cyclic : Bool) → is_average kind ≡ true → (cyclic && not (is_output kind)) ≡ false → cyclic ≡ false
never_cyclic kind cyclic is once = search rules

pub once_bytes : (n m : ℕ) → n ≤ m → 1 * n ≤ m
once_bytes n m h = omega (arith, h)

-- whether a member is left
pub empty_then : (b : Bool) → not b ≡ false → b ≡ true
empty_then b e = search rules

pub no_longer_empty : (b : Bool) → not b ≡ true → b ≡ false
no_longer_empty b e = search rules

-- an averaging device has no trigger
mean_off : {X : Type 0} {V : X → Type 0} (drive : Plug X V → Driver) (base : ℕ) (d : AnyDevice X V) → base_of (any_front d).kind ≡ Some base
    → (any_station drive d).site.trigger ≡ None
mean_off drive base d over = search rules

-- ---- an averaging device and its base, as the code reads them

-- an averaging device of a bench
pub record MeanAt {X : Type 0} {V : X → Type 0} (bench : Bench X V) (k base : ℕ) (d : AnyDevice X V) : Type 0 where
  pub at : slice_get bench.devices.items k ≡ Some d
  pub over : base_of (any_front d).kind ≡ Some base

-- an averaging device and its base
pub record PairAt {X : Type 0} {V : X → Type 0} (bench : Bench X V) (k base : ℕ) (d e : AnyDevice X V) : Type 0 where
  pub mean : MeanAt bench k base d
  pub under : slice_get bench.devices.items base ≡ Some e

-- an averaging device and some base
pub record MeanOver {X : Type 0} {V : X → Type 0} (bench : Bench X V) (k : ℕ) (d : AnyDevice X V) : Type 0 where
  pub base : ℕ
  pub device : AnyDevice X V
  pub pair : PairAt bench k base d device

-- the devices and triggers of a bench, as the bench requires them
pub record Holds {X : Type 0} {V : X → Type 0} (bench : Bench X V) (ss : List State) (xs : List (AnyDevice X V)) : Type 0 where
  pub sound : IsBench bench.described.items ss (stations_by (λ p. no_driver) xs)
  pub numbered : IsNumbered number_by xs
  pub averaged : IsAveraged (length bench.described.items) bench.first_average (map any_front xs) (stations_by (λ p. no_driver) xs)

base_some : (kind : Kind) → is_average kind ≡ true → (base : ℕ) × (base_of kind ≡ Some base)
base_some Input is = absurd (cc)
base_some Output is = absurd (cc)
base_some (Average base window) is = (base, refl)

element_there : {A : Type 0} (xs : List A) (i : ℕ) → i < length xs → (x : A) × (slice_get xs i ≡ Some x)
element_there [] i h = absurd (omega (arith, h))
element_there (x ∷ xs) zero h = (x, refl)
element_there (x ∷ xs) (suc i) h = element_there xs i (omega (arith, h))

within_set : {X : Type 0} {V : X → Type 0} (ds : List (AnyDevice X V)) (k i : ℕ) (d' : AnyDevice X V) → i < length ds
    → i < length (map any_front (set ds k d'))
within_set ds k i d' within = grind (arith, common_steps)

module _ {X : Type 0} {V : X → Type 0} {bench : Bench X V} {k base : ℕ} {d : AnyDevice X V} (m : MeanAt bench k base d) where
  abbrev there : List (AnyDevice X V)
  there = bench.devices.items

  pub base_inside : base < length there
  base_inside = search (rules, base_within)

  -- an averaging device is not its base
  base_apart : base ≡ k → ⊥
  base_apart e = search (rules, mean_of, any_front, kind_there, average_other, input_plain)

  -- a second read of it is the same
  pub same_mean : {d' : AnyDevice X V} → MeanAt bench k base d' → d ≡ d'
  same_mean {d' = d'} m' = same_element there k d d' m.at m'.at

  pub pair_there : (e : AnyDevice X V) × PairAt bench k base d e
  pair_there = let e = element_there there base base_inside in (e.0, record { mean = m; under = e.1 })

  -- the base, read after the averaging device has changed
  pub pair_read : (d' e : AnyDevice X V) → e ≡ get_or (set there k d') base e → PairAt bench k base d e
  pair_read d' e read = record {
    mean = m;
    under = got_there there k base d' e base_apart (element_at any_front (set there k d') base e (within_set there k base d' base_inside) read);
  }

module _ {X : Type 0} {V : X → Type 0} (bench : Bench X V) (k : ℕ) (known : k < length (map any_front bench.devices.items)) where
  kind_read : (d : AnyDevice X V) → d ≡ get_or bench.devices.items k d → (any_front d).kind ≡ kind_at (front_of bench) k
  kind_read d read =
      sym (kind_is any_front bench.context.items bench.described.items bench.devices.items k d (element_at any_front bench.devices.items k d known read))

  -- by the base that the front has
  pub mean_read : (base : ℕ) (d : AnyDevice X V) → d ≡ get_or bench.devices.items k d → base_of (kind_at (front_of bench) k) ≡ Some base
      → MeanAt bench k base d
  mean_read base d read over = record { at = element_at any_front bench.devices.items k d known read; over = ap base_of (kind_read d read) ∙ over }

  pub pair_after : (base : ℕ) (d d' e : AnyDevice X V) → base_of (kind_at (front_of bench) k) ≡ Some base → d ≡ get_or bench.devices.items k d
      → e ≡ get_or (set bench.devices.items k d') base e → PairAt bench k base d e
  pair_after base d d' e over read after = pair_read (mean_read base d read over) d' e after

  -- if it isn't read itself
  pub mean_unread : (base : ℕ) → base_of (kind_at (front_of bench) k) ≡ Some base → (d : AnyDevice X V) × MeanAt bench k base d
  mean_unread base over =
      let d = element_there bench.devices.items k (within_map any_front bench.devices.items k known) in (
        d.0,
        record {
          at = d.1;
          over = ap base_of (sym (kind_is any_front bench.context.items bench.described.items bench.devices.items k d.0 d.1)) ∙ over;
        },
      )

  pub base_first : (base : ℕ) (e : AnyDevice X V) → base_of (kind_at (front_of bench) k) ≡ Some base → e ≡ get_or bench.devices.items base e
      → (d : AnyDevice X V) × PairAt bench k base d e
  base_first base e over read =
      let d = mean_unread base over in (
        d.0,
        record {
          mean = d.1;
          under = slice_get_read bench.devices.items (length bench.devices.items) base e refl (base_inside d.1) read;
        },
      )

  -- by its kind alone
  pub over_read : (d : AnyDevice X V) → d ≡ get_or bench.devices.items k d → is_average (kind_at (front_of bench) k) ≡ true → MeanOver bench k d
  over_read d read average =
      let base = base_some (any_front d).kind (ap is_average (kind_read d read) ∙ average) in
      let mean : MeanAt bench k base.0 d = record { at = element_at any_front bench.devices.items k d known read; over = base.1 } in
      let pair = pair_there mean in
      record { base = base.0; device = pair.0; pair = pair.1 }

-- two reads of it are the same
pub same_read : {X : Type 0} {V : X → Type 0} {bench : Bench X V} {k : ℕ} {d d' : AnyDevice X V} → MeanOver bench k d → MeanOver bench k d' → d ≡ d'
same_read {bench = bench} {k = k} {d = d} {d' = d'} o o' = same_element bench.devices.items k d d' o.pair.mean.at o'.pair.mean.at

module _ {X : Type 0} {V : X → Type 0} (drive : Plug X V → Driver) {bench : Bench X V} {k base : ℕ} {d e : AnyDevice X V} (p : PairAt bench k base d e) where
  abbrev ds : List (AnyDevice X V)
  ds = bench.devices.items

  abbrev context : List ℕ
  context = bench.context.items

  abbrev triggers : List TriggerDesc
  triggers = bench.described.items

  abbrev states : List State
  states = bench.triggers.items

  abbrev front : Front
  front = front_of bench

  abbrev machine : Machine
  machine = machine_by (any_station drive) bench.clock (triggers_of bench) ds

  abbrev at_stations : List Station → Machine
  at_stations sts = record machine { stations = sts }

  abbrev told_by : List (AnyDevice X V) → Machine
  told_by xs = machine_by (any_station drive) bench.clock (triggers_of bench) xs

  abbrev st : Station
  st = any_station drive d

  abbrev b : Station
  b = any_station drive e

  here : slice_get (map (any_station drive) ds) k ≡ Some st
  here = map_at (any_station drive) ds k d p.mean.at

  below : slice_get (map (any_station drive) ds) base ≡ Some b
  below = map_at (any_station drive) ds base e p.under

  mean : IsMean (any_front d).kind base
  mean = mean_of (any_front d).kind base p.mean.over

  kind_here : kind_at front k ≡ Average base mean.window
  kind_here = kind_is any_front context triggers ds k d p.mean.at ∙ mean.is

  kind_over : kind_in (map any_front ds) k ≡ Average base mean.window
  kind_over = kind_there ds k d p.mean.at ∙ mean.is

  base_input : kind_in (map any_front ds) base ≡ Input
  base_input = (bench.averaged.bases.bases k base mean.window kind_over).input

  pub input_base : (any_front e).kind ≡ Input
  input_base = sym (kind_there ds base e p.under) ∙ base_input

  kind_base : kind_at front base ≡ Input
  kind_base = kind_is any_front context triggers ds base e p.under ∙ input_base

  apart_base : k ≡ base → ⊥
  apart_base same = base_apart p.mean (sym same)

  own_inner : HasInner k b st
  own_inner =
      subst (λ (x : Station). HasInner k x st) (here_is (map (any_station drive) ds) base b below)
      (subst (λ (x : Station). HasInner k (station_in (map (any_station drive) ds) base) x)
      (here_is (map (any_station drive) ds) k st here)
      ((averaged_as (λ p. no_driver) drive (length triggers) bench.first_average (map any_front ds) ds bench.averaged).inners k base mean.window kind_over))

  -- ---- a further member

  module _ (some : is_empty st.members ≡ false) where
    inner_here : has_inner k b ≡ true
    inner_here = own_inner.inner ∙ ap not some

    on : is_none b.site.trigger ≡ false
    on = search (rules, on_trigger, inner_some, inner_here, hosted_at, input_base)

    further_by : (mask capacity : ℕ) (r : Option Errno)
        → first_refusal ((not st.site.plugged, ENODEV) ∷ (false, EBUSY) ∷ join_refusals false false (has_no_number st)) ≡ r
        → first_refusal (open_refusals front machine.stations (Average base mean.window)
        (inner_host (is_empty st.members) b (shape_at front base)) st) ≡ r
    further_by mask capacity r is = ap first_refusal (further_is front base mean.window machine.stations st b some on) ∙ is

    further_refused : (mask capacity : ℕ) (err : Errno)
        → first_refusal ((not st.site.plugged, ENODEV) ∷ (false, EBUSY) ∷ join_refusals false false (has_no_number st)) ≡ Some err
        → Answers (open_of front machine k mask capacity false) machine (Err (NoErrno err)) (Some machine)
    further_refused mask capacity err is =
        rw (open_mean front k base mean.window kind_here kind_base apart_base machine mask capacity false st b (Some err) here
        below (further_by mask capacity (Some err) is)) (refl, refl)

    pub told_further_gone : (mask capacity : ℕ) → st.site.plugged ≡ false
        → Answers (open_of front machine k mask capacity false) machine (Err (NoErrno ENODEV)) (Some machine)
    told_further_gone mask capacity gone =
        further_refused mask capacity ENODEV
        (ap (λ (p : Bool). first_refusal ((not p, ENODEV) ∷ (false, EBUSY) ∷ join_refusals false false (has_no_number st))) gone
        ∙ further_gone (has_no_number st))

    pub told_further_ends : (mask capacity : ℕ) → st.site.plugged ≡ true → has_no_number st ≡ true
        → Answers (open_of front machine k mask capacity false) machine (Err (NoErrno ENOSPC)) (Some machine)
    told_further_ends mask capacity plugged ends =
        further_refused mask capacity ENOSPC
        (ap (λ (p : Bool). first_refusal ((not p, ENODEV) ∷ (false, EBUSY) ∷ join_refusals false false (has_no_number st))) plugged
        ∙ ap (λ (f : Bool). first_refusal ((false, ENODEV) ∷ (false, EBUSY) ∷ join_refusals false false f)) ends ∙ further_ends)

    pub told_further : (mask : Mask) (capacity : ℕ) (d' : AnyDevice X V) (r : Result Seat No) → st.site.plugged ≡ true → has_no_number st ≡ false
        → JoinsMean mask capacity (any_front d).shape r st (any_station drive d')
        → Answers (open_of front machine k mask.bits capacity false) machine (number_of seen_of r) (Some (told_by (set ds k d')))
    told_further mask capacity d' (Ok seat) plugged goes j =
        rw (open_mean front k base mean.window kind_here kind_base apart_base machine mask.bits capacity false st b None here
        below
        (further_by mask.bits capacity None
        (ap (λ (p : Bool). first_refusal ((not p, ENODEV) ∷ (false, EBUSY) ∷ join_refusals false false (has_no_number st))) plugged
        ∙ ap (λ (f : Bool). first_refusal ((false, ENODEV) ∷ (false, EBUSY) ∷ join_refusals false false f)) goes ∙ further_goes)))
        (ap (λ (x : Seat). Ok x.number) (sym j.0), ap (λ (m : Machine). Some m) told)
      where
        told : told_by (set ds k d') ≡ all_joined front k (station_after_join mask.bits capacity false None) machine
        told =
            ap at_stations
            (map-set (any_station drive) ds k d'
            ∙ sym (set_same (set machine.stations k (any_station drive d')) base b
            (get_there machine.stations k base (any_station drive d') b (base_apart p.mean) below)))
            ∙ mean_joined front k base mean.window kind_here kind_base apart_base machine st b (any_station drive d') b here
            below
            (station_after_join mask.bits capacity false None) j.1
            (sym (ap (λ (t : Bool). cond t b (station_after_join (full_mask (shape_at front base)) 1 false (Some k) b)) inner_here))
    told_further mask capacity d' (Err x) plugged goes j =
        subst (λ (y : No). Answers (open_of front machine k mask.bits capacity false) machine (Err y)
        (Some (told_by (set ds k d')))) (sym j.0)
        (ap (λ (m : Machine). Some m) (told_same (any_station drive) bench.clock _ ds k d d' p.mean.at j.1))

  -- ---- the first member

  -- the devices after both have joined
  module _ (none : is_empty st.members ≡ true) (mask : Mask) (capacity : ℕ) where
    told_first : (d' e' : AnyDevice X V) → any_station drive d' ≡ station_after_join mask.bits capacity false None st
        → any_station drive e' ≡ station_after_join (full_mask (shape_at front base)) 1 false (Some k) b
        → told_by (set (set ds k d') base e') ≡ all_joined front k (station_after_join mask.bits capacity false None) machine
    told_first d' e' j is =
        ap at_stations
        (map-set (any_station drive) (set ds k d') base e'
        ∙ ap (λ (sts : List Station). set sts base (any_station drive e')) (map-set (any_station drive) ds k d'))
        ∙ mean_joined front k base mean.window kind_here kind_base apart_base machine st b (any_station drive d') (any_station drive e')
        here below
        (station_after_join mask.bits capacity false None) j
        (is ∙ sym (ap (λ (t : Bool). cond t b (station_after_join (full_mask (shape_at front base)) 1 false (Some k) b)) (own_inner.inner ∙ ap not none)))

  -- ---- the base as it is told

  pub shape_base : shape_at front base ≡ (any_front e).shape
  shape_base = shape_is any_front context triggers ds base e p.under

  station_base : station_at machine base ≡ b
  station_base = station_is (any_station drive) bench.clock _ ds base e p.under

  pub none_told : (c : Bool) → is_empty (station_at machine k).members ≡ c → is_empty st.members ≡ c
  none_told c told = ap (λ (x : Station). is_empty x.members) (sym (station_is (any_station drive) bench.clock _ ds k d p.mean.at)) ∙ told

  module _ (full : ℕ) where
    abbrev pub HostsTold : Result ℕ No → Type 0
    HostsTold r = HostsAny states Input base (shape_at front base) (station_at machine base) full r

    pub hosts_told : (r : Result ℕ No) → HostsAny states (any_front e).kind (number_by e) (any_front e).shape b full r → HostsTold r
    hosts_told r h =
        subst (λ (x : Station). HostsAny states Input base (shape_at front base) x full r) (sym station_base)
        (subst (λ (shape : ShapeRecord). HostsAny states Input base shape b full r) (sym shape_base)
        (subst (λ (n : ℕ). HostsAny states Input n (any_front e).shape b full r) (bench.numbered base e p.under)
        (subst (λ (kind : Kind). HostsAny states kind (number_by e) (any_front e).shape b full r) input_base h)))

    pub hosts_triggers : (r : Result ℕ No) (xs : List State) → xs ≡ states
        → HostsAny xs (any_front e).kind (number_by e) (any_front e).shape b full r → HostsTold r
    hosts_triggers r xs same h = search (rules, hosts_told, any_front, number_by)

    pub hosts_here : (r : Result ℕ No) → HostsTold r → HostsAny states (any_front e).kind (number_by e) (any_front e).shape b full r
    hosts_here r h =
        subst (λ (kind : Kind). HostsAny states kind (number_by e) (any_front e).shape b full r) (sym input_base)
        (subst (λ (n : ℕ). HostsAny states Input n (any_front e).shape b full r) (sym (bench.numbered base e p.under))
        (subst (λ (shape : ShapeRecord). HostsAny states Input base shape b full r) shape_base
        (subst (λ (x : Station). HostsAny states Input base (shape_at front base) x full r) station_base h)))

    pub alone_told : IsServedAlone (any_front e).kind (any_front e).shape b full → IsServedAlone Input (shape_at front base) (station_at machine base) full
    alone_told h = search (rules, station_base, shape_base, any_front, input_base)

    pub alone_here : IsServedAlone Input (shape_at front base) (station_at machine base) full → IsServedAlone Input (shape_at front base) b full
    alone_here h = subst (λ (x : Station). IsServedAlone Input (shape_at front base) x full) station_base h

    -- a queue can hold a scan of all its channels
    pub full_fits : full ≡ full_mask (shape_at front base) → full < 2 ^ count_of (any_front e).shape
    full_fits whole = search (rules, any_front, shape_base, full_below)

    -- the inner member may be there
    pub may_have_inner : (capacity : ℕ) → is_empty st.members ≡ true → full ≡ full_mask (shape_at front base) → capacity ≡ 1
        → MayHaveInner (any_front e) full capacity b k
    may_have_inner capacity none whole one = search (rules, input_base, shape_base, own_inner)

  -- ---- the refusals of the first member

  module _ (empty : is_empty (station_at machine k).members ≡ true) (full : ℕ) (whole : full ≡ full_mask (shape_at front base))
      (served : IsServedAlone Input (shape_at front base) (station_at machine base) full) where
    none : is_empty st.members ≡ true
    none = none_told true empty

    abbrev whole_mask : ℕ
    whole_mask = full_mask (shape_at front base)

    -- by the refusals of the inner one
    base_refusals : first_refusal (any_refusals (lacks_place base states b.site.trigger) Input (shape_at front base) b full)
        ≡ first_refusal (base_list (not st.site.plugged) (is_none b.site.trigger) (is_without_union (shape_at front base) [] whole_mask)
        (is_empty b.members) (has_no_place front (attachments_of machine.stations) b.site.trigger) (has_no_number b))
    base_refusals =
        ap (λ (mask : ℕ). first_refusal (any_refusals (lacks_place base states b.site.trigger) Input (shape_at front base) b mask)) whole
        ∙ ap first_refusal (base_is front states machine.stations base (shape_at front base) b st.site.plugged
        (sound_any drive triggers states ds bench.sound) below (sym own_inner.plugged)
        (subst (λ (mask : ℕ). is_without_union (shape_at front base) (masks_of b.members) mask ≡ is_without_union (shape_at front base) [] mask) whole
        (alone_here full served refl whole)))

    hosts_by : (r : Result ℕ No) → HostsTold full r → HostsAny states Input base (shape_at front base) b full r
    hosts_by r h = subst (λ (x : Station). HostsAny states Input base (shape_at front base) x full r) station_base h

    first_by : (r : Option Errno)
        → first_refusal (mean_list (not st.site.plugged) (is_none b.site.trigger) (is_without_union (shape_at front base) [] whole_mask)
        (is_empty b.members) (has_no_place front (attachments_of machine.stations) b.site.trigger) (has_no_number st) (has_no_number b)) ≡ r
        → (mask capacity : ℕ)
        → open_of front machine k mask capacity false
        ≡ unless_made (all_joined front k (station_after_join mask capacity false None)) machine (unless_refused st.next r)
    first_by r is mask capacity =
        open_mean front k base mean.window kind_here kind_base apart_base machine mask capacity false st b r here
        below
        (ap first_refusal (first_is front base mean.window machine.stations st b none) ∙ is)

    pub told_first_refused : (mask capacity : ℕ) (refusal : No) → HostsTold full (Err refusal)
        → Answers (open_of front machine k mask capacity false) machine (Err refusal) (Some machine)
    told_first_refused mask capacity (NoErrno err) hosts =
        rw (first_by (Some err)
        (mean_refused (not st.site.plugged) (is_none b.site.trigger) (is_without_union (shape_at front base) [] whole_mask) (is_empty b.members)
        (has_no_place front (attachments_of machine.stations) b.site.trigger) (has_no_number st) (has_no_number b) err
        (sym base_refusals ∙ hosts_by (Err (NoErrno err)) hosts))
        mask capacity) (refl, refl)
    told_first_refused mask capacity NoMem hosts = refl

    module _ (t : ℕ) (hosts : HostsTold full (Ok t)) where
      pub told_first_ends : (mask capacity : ℕ) → has_no_number st ≡ true
          → Answers (open_of front machine k mask capacity false) machine (Err (NoErrno ENOSPC)) (Some machine)
      told_first_ends mask capacity ends =
          rw (first_by (Some ENOSPC)
          (ap (λ (ns : Bool). first_refusal (mean_list (not st.site.plugged) (is_none b.site.trigger) (is_without_union (shape_at front base) [] whole_mask)
          (is_empty b.members) (has_no_place front (attachments_of machine.stations) b.site.trigger) ns (has_no_number b))) ends
          ∙ mean_full (not st.site.plugged) (is_none b.site.trigger) (is_without_union (shape_at front base) [] whole_mask) (is_empty b.members)
          (has_no_place front (attachments_of machine.stations) b.site.trigger) (has_no_number b) (sym base_refusals ∙ (hosts_by (Ok t) hosts).2))
          mask capacity) (refl, refl)

      pub told_first_goes : (mask : Mask) (capacity : ℕ) (d' e' : AnyDevice X V) (seat : Seat) (shape : ShapeRecord) → has_no_number st ≡ false
          → JoinsMean mask capacity shape (Ok seat) st (any_station drive d')
          → any_station drive e' ≡ station_after_join full 1 false (Some k) b
          → Answers (open_of front machine k mask.bits capacity false) machine (number_of seen_of (Ok seat))
          (Some (told_by (set (set ds k d') base e')))
      told_first_goes mask capacity d' e' seat shape goes j is =
          rw (first_by None
          (ap (λ (ns : Bool). first_refusal (mean_list (not st.site.plugged) (is_none b.site.trigger) (is_without_union (shape_at front base) [] whole_mask)
          (is_empty b.members) (has_no_place front (attachments_of machine.stations) b.site.trigger) ns (has_no_number b))) goes
          ∙ mean_may (not st.site.plugged) (is_none b.site.trigger) (is_without_union (shape_at front base) [] whole_mask) (is_empty b.members)
          (has_no_place front (attachments_of machine.stations) b.site.trigger) (has_no_number b) (sym base_refusals ∙ (hosts_by (Ok t) hosts).2))
          mask.bits capacity)
          (ap (λ (x : Seat). Ok x.number) (sym j.0), ap (λ (m : Machine). Some m) (told_first none mask capacity d' e' j.1 whole_join))
        where
          whole_join : any_station drive e' ≡ station_after_join whole_mask 1 false (Some k) b
          whole_join = is ∙ ap (λ (m : ℕ). station_after_join m 1 false (Some k) b) whole

  -- ---- seats

  pub mean_seat : (mask : Mask) (capacity : ℕ) (st' : Station) (r : Result Seat No) → JoinsMean mask capacity (any_front d).shape r st st'
      → IfOk r (λ x. IsNew front k mask.bits capacity (seen_of x))
  mean_seat mask capacity st' r j = search (rules, shape_is, any_front)

  -- ---- what holds afterwards

  abbrev Stand : List State → List (AnyDevice X V) → Type 0
  Stand ss xs = IsBench triggers ss (stations_by (λ p. no_driver) xs)

  abbrev AreAveraged : List (AnyDevice X V) → Type 0
  AreAveraged xs = IsAveraged (length triggers) bench.first_average (map any_front xs) (stations_by (λ p. no_driver) xs)

  -- the base is where it was after a change of the averaging device
  pub base_there : (d' : AnyDevice X V) → slice_get (set ds k d') base ≡ Some e
  base_there d' = get_there ds k base d' e (base_apart p.mean) p.under

  -- the averaging device is where it was after a change of its base
  mean_there : (d' e' : AnyDevice X V) → slice_get (set (set ds k d') base e') k ≡ Some d'
  mean_there d' e' = get_there (set ds k d') base k e' d' apart_base (get_here ds k d d' p.mean.at)

  -- if it is read again
  pub mean_once : (d' x : AnyDevice X V) → k < length (map any_front ds) → x ≡ get_or (set ds k d') k x → x ≡ d'
  mean_once d' x known read = grind (arith, common_steps)

  pub read_again : (d' e' x : AnyDevice X V) → k < length (map any_front ds) → x ≡ get_or (set (set ds k d') base e') k x
      → slice_get (set (set ds k d') base e') k ≡ Some x
  read_again d' e' x known read =
      element_at any_front (set (set ds k d') base e') k x
      (within_set (set ds k d') base k e' (within_map any_front (set ds k d') k (within_set ds k k d' (within_map any_front ds k known)))) read

  pub mean_again : (d' e' x : AnyDevice X V) → k < length (map any_front ds) → x ≡ get_or (set (set ds k d') base e') k x → x ≡ d'
  mean_again d' e' x known read = same_element (set (set ds k d') base e') k x d' (read_again d' e' x known read) (mean_there d' e')

  seen : (d' e' : AnyDevice X V) → stations_by drive (set (set ds k d') base e')
      ≡ set (set (stations_by drive ds) k (any_station drive d')) base (any_station drive e')
  seen d' e' =
      map-set (any_station drive) (set ds k d') base e'
      ∙ ap (λ (sts : List Station). set sts base (any_station drive e')) (map-set (any_station drive) ds k d')

  heads : (d' e' : AnyDevice X V) → KeepsHead d d' → KeepsHead e e' → map any_front (set (set ds k d') base e') ≡ map any_front ds
  heads d' e' keeps keeps' = map_same any_front (set ds k d') base e e' (base_there d') keeps'.front ∙ map_same any_front ds k d d' p.mean.at keeps.front

  -- each has its number for its place
  numbered_mean : (d' : AnyDevice X V) → KeepsHead d d' → IsNumbered number_by (set ds k d')
  numbered_mean d' keeps = numbered_after number_by ds k d d' bench.numbered p.mean.at keeps.number

  numbered_both : (d' e' : AnyDevice X V) → KeepsHead d d' → KeepsHead e e' → IsNumbered number_by (set (set ds k d') base e')
  numbered_both d' e' keeps keeps' = numbered_after number_by (set ds k d') base e e' (numbered_mean d' keeps) (base_there d') keeps'.number

  -- if the base is as it was
  alone : (d' : AnyDevice X V) → set (set ds k d') base e ≡ set ds k d'
  alone d' = set_same (set ds k d') base e (base_there d')

  -- only the averaging device has changed
  bench_mean : (d' : AnyDevice X V) → KeepsHead d d' → IsBench triggers states (stations_by drive (set ds k d'))
  bench_mean d' keeps =
      bench_by (any_station drive) triggers states ds k d'
      (bench_unattached triggers states (stations_by drive ds) k (any_station drive d) (any_station drive d') (sound_any drive triggers states ds bench.sound)
      here (mean_off drive base d p.mean.over)
      (mean_off drive base d' (ap (λ (h : DeviceHead). base_of h.kind) keeps.front ∙ p.mean.over)))

  sound_mean : (d' : AnyDevice X V) → KeepsHead d d' → Stand states (set ds k d')
  sound_mean d' keeps = sound_as drive (λ p. no_driver) triggers states (set ds k d') (bench_mean d' keeps)

  base_hosted : is_hosted (length triggers) b ≡ true
  base_hosted = hosted_at drive (length triggers) bench.first_average ds bench.averaged base e p.under (ap is_average input_base)

  -- what averaging devices have of their bases, after both have changed
  averaged_both : (d' e' : AnyDevice X V) → KeepsHead d d' → KeepsHead e e' → is_hosted (length triggers) (any_station drive e') ≡ true
      → HasInner k (any_station drive e') (any_station drive d') → (any_station drive e').site.plugged ≡ b.site.plugged
      → (any_station drive e').captures ≡ b.captures
      → ((i : ℕ) → (i ≡ k → ⊥) → has_inner i (any_station drive e') ≡ has_inner i b)
      → AreAveraged (set (set ds k d') base e')
  averaged_both d' e' keeps keeps' hosted has plugged captures others =
      subst (λ (hs : List DeviceHead). IsAveraged (length triggers) bench.first_average hs (stations_by (λ p. no_driver) (set (set ds k d') base e')))
      (sym (heads d' e' keeps keeps'))
      (averaged_as drive (λ p. no_driver) (length triggers) bench.first_average (map any_front ds) (set (set ds k d') base e')
      (subst (λ (sts : List Station). IsAveraged (length triggers) bench.first_average (map any_front ds) sts) (sym (seen d' e'))
      (averaged_pair (length triggers) bench.first_average (map any_front ds) (stations_by drive ds) k base mean.window st (any_station drive d')
      b (any_station drive e')
      (averaged_as (λ p. no_driver) drive (length triggers) bench.first_average (map any_front ds) ds bench.averaged) (kind_there ds k d p.mean.at ∙ mean.is)
      here below hosted has plugged captures others)))

  -- after only the averaging device has changed
  averaged_alone : (d' : AnyDevice X V) → KeepsHead d d' → HasInner k b (any_station drive d') → AreAveraged (set ds k d')
  averaged_alone d' keeps has =
      subst (λ (xs : List (AnyDevice X V)). AreAveraged xs) (alone d')
      (averaged_both d' e keeps (record { front = refl; number = refl }) base_hosted has refl refl (λ i other. refl))

  holds_alone : (d' : AnyDevice X V) → KeepsHead d d' → HasInner k b (any_station drive d') → Holds bench states (set ds k d')
  holds_alone d' keeps has = record { sound = sound_mean d' keeps; numbered = numbered_mean d' keeps; averaged = averaged_alone d' keeps has }

  pub holds_same : (d' : AnyDevice X V) → KeepsHead d d' → any_station drive d' ≡ st → Holds bench states (set ds k d')
  holds_same d' keeps same = holds_alone d' keeps (subst (λ (x : Station). HasInner k b x) (sym same) own_inner)

  -- a further member, or none
  pub holds_further : (mask : Mask) (capacity : ℕ) (d' : AnyDevice X V) (shape : ShapeRecord) (r : Result Seat No) → KeepsHead d d'
      → is_empty st.members ≡ false → JoinsMean mask capacity shape r st (any_station drive d') → Holds bench states (set ds k d')
  holds_further mask capacity d' shape (Ok seat) keeps some j = search (rules, holds_alone, has_further, own_inner)
  holds_further mask capacity d' shape (Err refusal) keeps some j = holds_same d' keeps j.1

  -- ---- both change, the base by its trigger

  at_base : (d' : AnyDevice X V) → slice_get (stations_by drive (set ds k d')) base ≡ Some b
  at_base d' = map_at (any_station drive) (set ds k d') base e (base_there d')

  sound_both : (t : ℕ) (d' e' : AnyDevice X V) (s' : State)
      → IsBench triggers (set states t s') (set (stations_by drive (set ds k d')) base (any_station drive e'))
      → Stand (set states t s') (set (set ds k d') base e')
  sound_both t d' e' s' stands =
      sound_as drive (λ p. no_driver) triggers (set states t s') (set (set ds k d') base e')
      (bench_by (any_station drive) triggers (set states t s') (set ds k d') base e' stands)

  -- the first member, if the base hosts the inner one by trigger t
  module _ (full : Mask) (t : ℕ) (hosts : HostsTold full.bits (Ok t)) (s : State) (read : s ≡ get_or states t s) where
    on_base : b.site.trigger ≡ Some t
    on_base = (hosts_here full.bits (Ok t) hosts).0

    trigger_there : slice_get states t ≡ Some s
    trigger_there = slice_get_read states (length states) t s refl hosts.1 read

    sound_first : (d' e' : AnyDevice X V) (s' : State) → KeepsHead d d' → any_station drive e' ≡ station_after_join full.bits 1 false (Some k) b
        → s' ≡ place_taken (number_by e) b s → Stand (set states t s') (set (set ds k d') base e')
    sound_first d' e' s' keeps joins taken =
        sound_both t d' e' s'
        (bench_joined triggers states (stations_by drive (set ds k d')) base t b (any_station drive e') s s' (bench_mean d' keeps)
        (at_base d') trigger_there on_base hosts.1 full 1 false (Some k) (any_front e).shape
        (Ok (record { number = b.next; mask = full; size = scan_size (any_front e).shape full.bits; capacity = 1 }))
        (refl, joins, subst (λ (n : ℕ). s' ≡ place_taken n b s) (bench.numbered base e p.under) taken))

    averaged_first : (mask : Mask) (capacity : ℕ) (d' e' : AnyDevice X V) → KeepsHead d d' → KeepsHead e e'
        → full.bits ≡ full_mask (shape_at front base)
        → any_station drive d' ≡ station_after_join mask.bits capacity false None st
        → any_station drive e' ≡ station_after_join full.bits 1 false (Some k) b
        → AreAveraged (set (set ds k d') base e')
    averaged_first mask capacity d' e' keeps keeps' whole is joins =
        averaged_both d' e' keeps keeps'
        (hosted_is t (length triggers) (any_station drive e')
        (ap (λ (x : Station). x.site.trigger) joins ∙ attached_trigger (is_empty b.members) b.site ∙ on_base)
        (subst (λ (n : ℕ). t < n) (as_many triggers states bench.sound.places) hosts.1))
        (has_first k mask.bits capacity (any_front e).shape st b (any_station drive d') (any_station drive e') own_inner is
        (joins ∙ ap (λ (m : ℕ). station_after_join m 1 false (Some k) b) (whole ∙ ap full_mask shape_base)))
        (ap (λ (x : Station). x.site.plugged) joins ∙ attached_plugged (is_empty b.members) b.site)
        (ap (λ (x : Station). x.captures) joins)
        (λ i other. ap (λ (x : Station). has_inner i x) joins
        ∙ inner_more i b.members (newcomer full.bits 1 false (Some k) b) (none_of i other))
      where
        none_of : (i : ℕ) → (i ≡ k → ⊥) → (k == i) ≡ false
        none_of i other = search rules

    pub holds_first : (mask : Mask) (capacity : ℕ) (d' e' : AnyDevice X V) (s' : State) → KeepsHead d d' → KeepsHead e e'
        → full.bits ≡ full_mask (shape_at front base)
        → any_station drive d' ≡ station_after_join mask.bits capacity false None st
        → any_station drive e' ≡ station_after_join full.bits 1 false (Some k) b
        → s' ≡ place_taken (number_by e) b s
        → Holds bench (set states t s') (set (set ds k d') base e')
    holds_first mask capacity d' e' s' keeps keeps' whole is joins taken = search (rules, sound_first, numbered_both, averaged_first)

    -- if memory runs out for the inner member, the first one's joining is undone at x, the averaging device: all is as before
    module _ (mask : Mask) (capacity : ℕ) (seat : Seat) (d' e' x d'' : AnyDevice X V) (s' : State) (known : k < length (map any_front ds))
        (again : x ≡ get_or (set (set ds k d') base e') k x)
        (keeps : KeepsHead d d') (keeps' : KeepsHead e e') (keeps'' : KeepsHead x d'')
        (joins : JoinsMean mask capacity (any_front d).shape (Ok seat) st (any_station drive d')) (same : any_station drive e' ≡ b)
        (undoes : (before : Station) → any_station drive x ≡ station_after_join seat.mask.bits seat.capacity false None before → any_station drive d'' ≡ before)
        (still : s' ≡ s) where
      abbrev undone_devices : List (AnyDevice X V)
      undone_devices = set (set (set ds k d') base e') k d''

      undone : any_station drive d'' ≡ st
      undone = search (rules, mean_again, joined_by_seat, any_front)

      stations_undone : stations_by drive undone_devices ≡ stations_by drive ds
      stations_undone =
          map-set (any_station drive) (set (set ds k d') base e') k d''
          ∙ ap (λ (x : Station). set (stations_by drive (set (set ds k d') base e')) k x) undone
          ∙ ap (λ (sts : List Station). set sts k st)
          (seen d' e' ∙ ap (λ (x : Station). set (set (stations_by drive ds) k (any_station drive d')) base x) same
          ∙ set_same (set (stations_by drive ds) k (any_station drive d')) base b
          (get_there (stations_by drive ds) k base (any_station drive d') b (base_apart p.mean) below))
          ∙ set_twice (stations_by drive ds) k (any_station drive d') st
          ∙ set_same (stations_by drive ds) k st here

      keeps_mean : KeepsHead d' d''
      keeps_mean = subst (λ (y : AnyDevice X V). KeepsHead y d'') (mean_again d' e' x known again) keeps''

      heads_undone : map any_front undone_devices ≡ map any_front ds
      heads_undone = map_same any_front (set (set ds k d') base e') k d' d'' (mean_there d' e') keeps_mean.front ∙ heads d' e' keeps keeps'

      pub told_undone : told_by undone_devices ≡ machine
      told_undone = ap at_stations stations_undone

      pub holds_undone : Holds bench (set states t s') undone_devices
      holds_undone = record {
        sound =
            sound_as drive (λ p. no_driver) triggers (set states t s') undone_devices
            (subst (λ (sts : List Station). IsBench triggers (set states t s') sts) (sym stations_undone)
            (subst (λ (xs : List State). IsBench triggers xs (stations_by drive ds))
            (sym (ap (λ (x : State). set states t x) still ∙ set_same states t s trigger_there)) (sound_any drive triggers states ds bench.sound)));
        numbered =
            numbered_after number_by (set (set ds k d') base e') k d' d'' (numbered_both d' e' keeps keeps') (mean_there d' e') keeps_mean.number;
        averaged =
            subst (λ (hs : List DeviceHead). IsAveraged (length triggers) bench.first_average hs (stations_by (λ p. no_driver) undone_devices))
            (sym heads_undone)
            (averaged_as drive (λ p. no_driver) (length triggers) bench.first_average (map any_front ds) undone_devices
            (subst (λ (sts : List Station). IsAveraged (length triggers) bench.first_average (map any_front ds) sts) (sym stations_undone)
            (averaged_as (λ p. no_driver) drive (length triggers) bench.first_average (map any_front ds) ds bench.averaged)));
      }

  -- ---- a member leaves

  -- whether one is left, as it is asked of device x, which is the averaging device
  pub asked_left : (n : ℕ) (d' x : AnyDevice X V) (has c : Bool) → k < length (map any_front ds) → x ≡ get_or (set ds k d') k x
      → has ≡ not (is_empty (any_station drive x).members) → any_station drive d' ≡ station_after_leave n st → has ≡ c
      → is_empty (station_after_leave n st).members ≡ not c
  asked_left n d' x has c known read asked is answer =
      by (is_empty (station_after_leave n st).members) c
      (sym answer ∙ asked ∙ ap (λ (y : AnyDevice X V). not (is_empty (any_station drive y).members)) (mean_once d' x known read)
      ∙ ap (λ (y : Station). not (is_empty y.members)) is)
    where
      by : (a c : Bool) → c ≡ not a → a ≡ not c
      by a c q = search rules

  -- the base's trigger is there
  pub base_on : (t : ℕ) → Some t ≡ b.site.trigger → t < length states
  base_on t on = search (rules, on, as_many, hosted_within, base_hosted)

  -- the base keeps its inner member if there is still a member
  inner_needed : (n : ℕ) → is_empty (station_after_leave n st).members ≡ false → b ≡ cond (is_empty (station_after_leave n st).members) (inner_gone k b) b
  inner_needed n some = sym (ap (λ (c : Bool). cond c (inner_gone k b) b) some)

  -- the base has no inner member if it has no trigger
  inner_none : (n : ℕ) → b.site.trigger ≡ None → b ≡ cond (is_empty (station_after_leave n st).members) (inner_gone k b) b
  inner_none n none = search (rules, none, gone_none, hosted_none, base_hosted)

  -- what is told afterwards
  told_both : (n : ℕ) (d' e' : AnyDevice X V) → any_station drive d' ≡ station_after_leave n st
      → any_station drive e' ≡ cond (is_empty (station_after_leave n st).members) (inner_gone k b) b
      → Some (told_by (set (set ds k d') base e')) ≡ Some (machine_after_close front machine k n)
  told_both n d' e' is gone =
      ap (λ (m : Machine). Some m)
      (ap at_stations (seen d' e')
      ∙ mean_closed front k base mean.window kind_here kind_base apart_base machine st b (any_station drive d') (any_station drive e')
      here below n is gone)

  -- a member leaves, and the base stays as it is
  module _ (n : ℕ) (d' : AnyDevice X V) (is : any_station drive d' ≡ station_after_leave n st) where
    holds_beside : KeepsHead d d' → b ≡ cond (is_empty (station_after_leave n st).members) (inner_gone k b) b → Holds bench states (set ds k d')
    holds_beside keeps same = holds_alone d' keeps (has_left k n st b (any_station drive d') b own_inner is same)

    told_beside : b ≡ cond (is_empty (station_after_leave n st).members) (inner_gone k b) b
        → Some (told_by (set ds k d')) ≡ Some (machine_after_close front machine k n)
    told_beside same = ap (λ (xs : List (AnyDevice X V)). Some (told_by xs)) (sym (alone d')) ∙ told_both n d' e is same

    pub holds_left : KeepsHead d d' → is_empty (station_after_leave n st).members ≡ false → Holds bench states (set ds k d')
    holds_left keeps some = holds_beside keeps (inner_needed n some)

    pub told_left : is_empty (station_after_leave n st).members ≡ false → Some (told_by (set ds k d')) ≡ Some (machine_after_close front machine k n)
    told_left some = told_beside (inner_needed n some)

    pub holds_off : KeepsHead d d' → b.site.trigger ≡ None → Holds bench states (set ds k d')
    holds_off keeps none = holds_beside keeps (inner_none n none)

    pub told_off : b.site.trigger ≡ None → Some (told_by (set ds k d')) ≡ Some (machine_after_close front machine k n)
    told_off none = told_beside (inner_none n none)

    -- with the last member the inner one leaves, by trigger t
    module _ (e' : AnyDevice X V) (none : is_empty (station_after_leave n st).members ≡ true) (gone : any_station drive e' ≡ inner_gone k b) where
      whole : any_station drive e' ≡ cond (is_empty (station_after_leave n st).members) (inner_gone k b) b
      whole = gone ∙ sym (ap (λ (c : Bool). cond c (inner_gone k b) b) none)

      pub told_gone : Some (told_by (set (set ds k d') base e')) ≡ Some (machine_after_close front machine k n)
      told_gone = told_both n d' e' is whole

      pub holds_gone : (t : ℕ) (s s' : State) → slice_get states t ≡ Some s → b.site.trigger ≡ Some t → t < length states
          → KeepsHead d d' → KeepsHead e e' → s' ≡ place_left (number_by e) b (any_station drive e') s
          → Holds bench (set states t s') (set (set ds k d') base e')
      holds_gone t s s' there on within keeps keeps' after = record {
        sound =
            sound_both t d' e' s'
            (bench_gone triggers states (stations_by drive (set ds k d')) base t b (any_station drive e') s s' (bench_mean d' keeps)
            (at_base d') there on within k gone
            (subst (λ (number : ℕ). s' ≡ place_left number b (any_station drive e') s) (bench.numbered base e p.under) after));
        numbered = numbered_both d' e' keeps keeps';
        averaged =
            averaged_both d' e' keeps keeps'
            (hosted_is t (length triggers) (any_station drive e') (ap (λ (x : Station). x.site.trigger) gone ∙ on)
            (subst (λ (m : ℕ). t < m) (as_many triggers states bench.sound.places) within))
            (has_left k n st b (any_station drive d') (any_station drive e') own_inner is whole)
            (ap (λ (x : Station). x.site.plugged) gone) (ap (λ (x : Station). x.captures) gone)
            (λ i other. ap (λ (x : Station). has_inner i x) gone ∙ inner_stays k i b.members other);
      }
