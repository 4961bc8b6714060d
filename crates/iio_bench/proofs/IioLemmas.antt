-- A bench as an `Iio`: what each call leaves.
use Rattle.std.proofs.Common.{◌≡◌, ℕ, ◌<◌, Bool, true, false, List, [], ◌∷◌, map, length, set, slice_get, get_or, Option, Some, None, IfSome, Result, Ok, Err, refl, sym, ap, ◌∙◌, arith, cond, rules}
use Rattle.std.specs.Prelude.{◌==◌, not, nat_lt, ⊤, ℤ, position}
use Rattle.std.specs.List.{position_or_len, prefix_len}
use Rattle.std.proofs.lemmas.Bool.Decides.{nat_tests}
use Rattle.std.proofs.lemmas.List.Sums.{position_or_len_is}
use Rattle.iio_base.specs.Refusals.{ensure}
use Rattle.iio_text.specs.declared.errors.Errno.{Errno}
use Rattle.iio_text.specs.declared.errors.Errno.TheVariants.{EBADF, ENODEV}
use Rattle.iio_text.specs.declared.values.Fixed.{Fixed}
use Rattle.iio_attr.specs.declared.attributes.Attr.{Attr}
use Rattle.iio_attr.specs.declared.values.Value.{Value}
use Rattle.iio_desc.specs.declared.description.TriggerDesc.{TriggerDesc}
use Rattle.iio_event.specs.declared.event.EventData.{EventData}
use Rattle.iio_event.specs.Monitor.{after_close, after_open, after_read}
use Rattle.iio_sensor.specs.Driver.{Driver}
use Rattle.iio_trigger.specs.Trigger.{State}
use Rattle.iio_device.specs.declared.plug.Plug.{Plug}
use Rattle.iio_device.specs.Site.{no_driver, sampled, site_written, with_monitor}
use Rattle.iiod_commands.specs.declared.iio.No.{No}
use Rattle.iiod_commands.specs.declared.iio.No.TheVariants.{Errno as NoErrno, Mem as NoMem}
use Rattle.iiod_commands.specs.declared.iio.Took.{Took}
use Rattle.iio_desc.specs.Description.{DeviceHead}
use Rattle.iio_desc.specs.Kind.{is_input}
use Rattle.iio_attr.specs.declared.attributes.Attr.TheVariants as attr
use Rattle.iio_output.specs.Written.{scans_of}
use Rattle.iio_core.specs.Front.{Front, kind_at, shape_at}
use Rattle.iio_core.specs.Machine.{Member, MemberId, Station, with_site}
use Rattle.iio_core.specs.Calls.{ev_open_answer, ev_read_answer, holds_events, is_inner_of, trigger_answer, write_scans_at, writes}
use Rattle.iiod_commands.specs.Target.{MayRead, MayWrite}
use Rattle.iio_kinds.specs.Acting.{Acts, MayReadOf, Reads, TakesAt, TakesScansAt, Turns}
use Rattle.iio_bench.specs.Averages.{IsAveraged}
use Rattle.iio_bench.specs.Bench.{Kept}
use Rattle.iio_bench.specs.Triggers.{IsBench}
use Rattle.iio_kinds.specs.declared.any_device.AnyDevice.{AnyDevice}
use Rattle.iio_kinds.specs.Station.{KeepsFront, KeepsHead, any_front, any_station, captures_by, stations_by}
use Rattle.iio_kinds.proofs.EmptyLemmas.{is_empty-map}
use Rattle.iio_bench.proofs.ListLemmas.{length_map_is, map_at, map_same}
use Rattle.iio_bench.proofs.ToldLemmas.{fronts_by}
use Rattle.iio_bench.proofs.AnyLemmas.{attached_as, attachment_as, hosted_as, inner_as, made_as, members_as, plugged_as}
use Rattle.iio_kinds.proofs.StandingLemmas.{KeepsInner, KeepsPlace, KeepsStanding, standing}
use Rattle.iio_bench.proofs.BenchLemmas.{KeepsRest, acts_stand, bench_by, bench_kept, inner_mapped, monitor_stands, stands_same, take_scans_stand, take_stands, trigger_rests, write_stands}
use Rattle.iio_bench.proofs.AverageLemmas.{averaged_by, averaged_stands}

-- ---- positions

-- the position in a list as it is seen
prefix_map : {A B : Type 0} (f : A → B) (p : B → Bool) (xs : List A) → prefix_len p (map f xs) ≡ prefix_len (λ x. p (f x)) xs
prefix_map f p [] = refl
prefix_map f p (x ∷ xs) = rw (prefix_map f p xs) refl

pub position_map : {A B : Type 0} (f : A → B) (p : B → Bool) (xs : List A) → position p (map f xs) ≡ position (λ x. p (f x)) xs
position_map f p xs = rw (prefix_map f (λ x. not (p x)) xs, length_map_is f xs) refl

pub position_seen : {A B : Type 0} (f : A → B) (p : B → Bool) (xs ys : List A) (r : Option ℕ) → ys ≡ xs → r ≡ position (λ x. p (f x)) ys
    → r ≡ position p (map f xs)
position_seen f p xs ys r same e = e ∙ ap (λ zs. position (λ x. p (f x)) zs) same ∙ sym (position_map f p xs)

pub position_at : {A : Type 0} (p : A → Bool) (xs : List A) (i : ℕ) (x : A) → i < length xs → x ≡ get_or xs i x → p x ≡ true
    → ((k : ℕ) (d : A) → k < i → p (get_or xs k d) ≡ false) → Some i ≡ position p xs
position_at p xs i x within e passes before = search (rules, position_or_len_is)

pub position_none : {A : Type 0} (p : A → Bool) (xs : List A) → ((k : ℕ) (d : A) → k < length xs → p (get_or xs k d) ≡ false) → None ≡ position p xs
position_none p [] before = refl
position_none p (x ∷ xs) before =
    let first : position_or_len p (x ∷ xs) ≡ length (x ∷ xs) =
    position_or_len_is p (x ∷ xs) (length (x ∷ xs)) x (omega arith) (λ k h. before k x h) (λ h. absurd (omega arith)) in
    let outside : nat_lt (length (x ∷ xs)) (length (x ∷ xs)) ≡ false = grind (arith, nat_tests) in
    rw (first, outside) refl

-- ---- what holds after each call

-- a device with each member changed keeps its place
pub members_mapped : (f : Member → Member) (st : Station) → ((j : ℕ) (x : Member) → is_inner_of j (f x) ≡ is_inner_of j x)
    → KeepsStanding st (record st { members = map f st.members })
members_mapped f st same = standing st _ refl refl refl (is_empty-map f st.members) (λ j. inner_mapped j f (same j) st.members) refl

written_inner : (id : MemberId) (scans : List (List ℕ)) (j : ℕ) (x : Member) → is_inner_of j (writes id scans x) ≡ is_inner_of j x
written_inner id scans j x = search rules

-- an attribute that may be read is one of the device's
pub may_read : (front : Front) (k : ℕ) (channel : Option ℕ) (a : Attr) (d : DeviceHead) → kind_at front k ≡ d.kind → shape_at front k ≡ d.shape
    → MayRead front k channel a → MayReadOf d channel a
may_read front k channel a d kind shape may = search rules

-- an attribute that may be written is one of an input device's
pub is_written : (front : Front) (k : ℕ) (channel : Option ℕ) (a : Attr) (v : Fixed) (d : DeviceHead) → kind_at front k ≡ d.kind → shape_at front k ≡ d.shape
    → MayWrite front k channel a v
    → (is_input d.kind ≡ true) × IfSome channel (λ c. c < length d.shape.channels)
is_written front k channel a v d kind shape may = search rules

module _ {X : Type 0} {V : X → Type 0} (drive : Plug X V → Driver) where
  plain_place : (d d' : AnyDevice X V) → KeepsPlace (any_station drive d) (any_station drive d')
      → KeepsPlace (any_station (λ p. no_driver) d) (any_station (λ p. no_driver) d')
  plain_place d d' k = record {
    attached = λ t. attached_as (λ p. no_driver) drive t d' ∙ k.attached t ∙ attached_as drive (λ p. no_driver) t d;
    attachment = attachment_as (λ p. no_driver) drive d' ∙ k.attachment ∙ attachment_as drive (λ p. no_driver) d;
  }

  pub plain_inner : (d d' : AnyDevice X V) → KeepsInner (any_station drive d) (any_station drive d')
      → KeepsInner (any_station (λ p. no_driver) d) (any_station (λ p. no_driver) d')
  plain_inner d d' k = record {
    place = plain_place d d' k.place;
    hosted = λ n h. hosted_as (λ p. no_driver) drive n d' ∙ k.hosted n (hosted_as drive (λ p. no_driver) n d ∙ h);
    plugged = plugged_as (λ p. no_driver) drive d' ∙ k.plugged ∙ plugged_as drive (λ p. no_driver) d;
    empty = members_as (λ p. no_driver) drive d' ∙ k.empty ∙ members_as drive (λ p. no_driver) d;
    inner = λ j. inner_as (λ p. no_driver) drive j d' ∙ k.inner j ∙ inner_as drive (λ p. no_driver) j d;
  }

  plain_stands : (d d' : AnyDevice X V) → KeepsStanding (any_station drive d) (any_station drive d')
      → KeepsStanding (any_station (λ p. no_driver) d) (any_station (λ p. no_driver) d')
  plain_stands d d' k =
      record { inner = plain_inner d d' k.inner; captures = made_as (λ p. no_driver) drive d' ∙ k.captures ∙ made_as drive (λ p. no_driver) d }

  module _ (ds : List (AnyDevice X V)) (k : ℕ) (d d' : AnyDevice X V) (at : slice_get ds k ≡ Some d) where
    pub sound_placed : (triggers : List TriggerDesc) (states : List State) → IsBench triggers states (stations_by (λ p. no_driver) ds)
        → KeepsPlace (any_station drive d) (any_station drive d')
        → IsBench triggers states (stations_by (λ p. no_driver) (set ds k d'))
    sound_placed triggers states sound kept =
        bench_by (any_station (λ p. no_driver)) triggers states ds k d'
        (bench_kept triggers states (map (any_station (λ p. no_driver)) ds) k (any_station (λ p. no_driver) d) (any_station (λ p. no_driver) d') sound
        (map_at (any_station (λ p. no_driver)) ds k d at) (plain_place d d' kept))

    -- what holds of the bench still holds if one device keeps its standing
    pub sound_kept : (triggers : List TriggerDesc) (states : List State) → IsBench triggers states (stations_by (λ p. no_driver) ds)
        → KeepsStanding (any_station drive d) (any_station drive d')
        → IsBench triggers states (stations_by (λ p. no_driver) (set ds k d'))
    sound_kept triggers states sound kept = sound_placed triggers states sound kept.inner.place

    pub averaged_kept : (triggers first : ℕ) → IsAveraged triggers first (map any_front ds) (stations_by (λ p. no_driver) ds) → KeepsHead d d'
        → KeepsStanding (any_station drive d) (any_station drive d')
        → IsAveraged triggers first (map any_front (set ds k d')) (stations_by (λ p. no_driver) (set ds k d'))
    averaged_kept triggers first averaged keeps kept =
        averaged_by triggers first any_front (any_station (λ p. no_driver)) ds k d d' at keeps.front
        (averaged_stands triggers first (map any_front ds) (map (any_station (λ p. no_driver)) ds) k (any_station (λ p. no_driver) d)
        (any_station (λ p. no_driver) d') averaged
        (map_at (any_station (λ p. no_driver)) ds k d at) (plain_stands d d' kept))

  module _ (d d' : AnyDevice X V) where
    pub write_kept : (channel : Option ℕ) (a : Attr) (v : Fixed) (r : Result ⊤ No)
        → Acts (with_site (site_written channel a v)) (ensure (any_station drive d).site.plugged ENODEV) r (any_station drive d) (any_station drive d')
        → KeepsStanding (any_station drive d) (any_station drive d')
    write_kept channel a v r t = search (rules, acts_stand, write_stands)

    pub trigger_kept : (n : ℕ) (trigger : Option ℕ) (r : Result ⊤ No) → IfSome trigger (λ t. t < n)
        → Acts (with_site (λ site. record site { trigger = trigger })) (trigger_answer (any_station drive d)) r (any_station drive d) (any_station drive d')
        → KeepsRest n (any_station drive d) (any_station drive d')
    trigger_kept n trigger r within t = trigger_rests n trigger (any_station drive d) (any_station drive d') r within t

    pub ev_open_kept : (who : ℕ) (r : Result ⊤ No)
        → Acts (with_site (with_monitor (after_open who))) (ev_open_answer (any_station drive d)) r (any_station drive d) (any_station drive d')
        → KeepsStanding (any_station drive d) (any_station drive d')
    ev_open_kept who r t = search (rules, acts_stand, monitor_stands)

    pub ev_read_kept : (who : ℕ) (r : Result (Option EventData) No)
        → Acts (with_site (with_monitor (after_read (λ a b. a == b) who))) (ev_read_answer who (any_station drive d)) r (any_station drive d)
        (any_station drive d')
        → KeepsStanding (any_station drive d) (any_station drive d')
    ev_read_kept who r t = search (rules, acts_stand, monitor_stands)

    pub ev_close_kept : (who : ℕ) (r : Result ⊤ No)
        → Acts (with_site (with_monitor (after_close (λ a b. a == b) who))) (ensure (holds_events who (any_station drive d)) EBADF) r (any_station drive d)
        (any_station drive d')
        → KeepsStanding (any_station drive d) (any_station drive d')
    ev_close_kept who r t = search (rules, acts_stand, monitor_stands)

    read_kept_by : (b : Bool) (r : Result Value No) (answer : Result Value Errno)
        → Turns answer (cond b (with_site sampled (any_station drive d)) (any_station drive d)) r (any_station drive d) (any_station drive d')
        → KeepsStanding (any_station drive d) (any_station drive d')
    read_kept_by true (Ok x) answer t = search rules
    read_kept_by true (Err (NoErrno e)) answer t = search rules
    read_kept_by true (Err NoMem) answer t = stands_same (any_station drive d) (any_station drive d') t
    read_kept_by false (Ok x) answer t = stands_same (any_station drive d) (any_station drive d') t.1
    read_kept_by false (Err (NoErrno e)) answer t = stands_same (any_station drive d) (any_station drive d') t.1
    read_kept_by false (Err NoMem) answer t = stands_same (any_station drive d) (any_station drive d') t

    pub read_kept : (t : ℤ) (channel : Option ℕ) (a : Attr) (r : Result Value No)
        → Reads (any_front d) t channel a (any_station drive d) r (any_station drive d') → KeepsStanding (any_station drive d) (any_station drive d')
    read_kept t channel a r reads = search (rules, read_kept_by, any_front)

    pub writes_kept : (size : ℕ) (id : MemberId) (bytes : List ℕ) (r : Result ℕ No)
        → Acts (λ st. record st { members = map (writes id (scans_of size bytes)) st.members }) (write_scans_at (any_station drive d) id size bytes) r
        (any_station drive d) (any_station drive d')
        → KeepsStanding (any_station drive d) (any_station drive d')
    writes_kept size id bytes r t =
        acts_stand (λ st. record st { members = map (writes id (scans_of size bytes)) st.members }) (any_station drive d) (any_station drive d')
        (write_scans_at (any_station drive d) id size bytes) r
        (λ x e. members_mapped (writes id (scans_of size bytes)) (any_station drive d) (λ j m. written_inner id (scans_of size bytes) j m)) t

    pub take_kept : (id : MemberId) (took : Took) (scan : List ℕ) → TakesAt id took scan (any_station drive d) (any_station drive d')
        → KeepsStanding (any_station drive d) (any_station drive d')
    take_kept id took scan t = take_stands id took scan (any_station drive d) (any_station drive d') t

    pub take_scans_kept : (id : MemberId) (most : ℕ) (took : Took) (before after : List ℕ)
        → TakesScansAt id most took before after (any_station drive d) (any_station drive d') → KeepsStanding (any_station drive d) (any_station drive d')
    take_scans_kept id most took before after t = take_scans_stand id most took before after (any_station drive d) (any_station drive d') t

-- the whole front
pub fronts_keep : {X : Type 0} {V : X → Type 0} (context : List ℕ) (triggers : List TriggerDesc) (ds : List (AnyDevice X V)) (k : ℕ) (d d' : AnyDevice X V)
    → slice_get ds k ≡ Some d → KeepsHead d d' → fronts_by any_front context triggers (set ds k d') ≡ fronts_by any_front context triggers ds
fronts_keep context triggers ds k d d' at keeps = search (rules, map_same, any_front)

-- everything that no connection's call changes
pub kept_equal : (x y : Kept) → x.front ≡ y.front → x.captures ≡ y.captures → x ≡ y
kept_equal x y front captures = search rules

module _ {X : Type 0} {V : X → Type 0} where
  abbrev pub kept_by : List ℕ → List TriggerDesc → List (AnyDevice X V) → Kept
  kept_by context triggers ds = record { front = fronts_by any_front context triggers ds; captures = map captures_by ds }

  -- one device has changed
  pub device_keeps : (context : List ℕ) (triggers : List TriggerDesc) (ds : List (AnyDevice X V)) (k : ℕ) (d d' : AnyDevice X V) → slice_get ds k ≡ Some d
      → KeepsFront d d' → kept_by context triggers (set ds k d') ≡ kept_by context triggers ds
  device_keeps context triggers ds k d d' at keeps = search (rules, kept_equal, set, fronts_keep, map_same)
