-- What holds of a bench after one device has changed.
use Rattle.std.proofs.Common.{◌≡◌, ◌⊎◌, ℕ, ◌<◌, Bool, true, false, List, [], ◌∷◌, map, length, set, slice_get, Option, Some, IfSome, Result, Ok, inl, inr, refl, sym, ap, subst, ◌∙◌, arith, rules}
use Rattle.std.proofs.lemmas.Grind.{common_steps}
use Rattle.std.specs.Prelude.{◌==◌, ⊤}
use Rattle.std.specs.List.{list_any}
use Rattle.std.proofs.lemmas.Bool.Decides.{nat_tests}
use Rattle.std.proofs.lemmas.List.{map-set}
use Rattle.iio_text.specs.declared.errors.Errno.{Errno}
use Rattle.iio_text.specs.declared.values.Fixed.{Fixed}
use Rattle.iio_attr.specs.declared.attributes.Attr.{Attr}
use Rattle.iio_attr.specs.declared.attributes.Attr.TheVariants as attr
use Rattle.iio_desc.specs.declared.description.TriggerDesc.{TriggerDesc}
use Rattle.iio_trigger.specs.Trigger.{State}
use Rattle.iio_device.specs.declared.totals.Totals.{Totals}
use Rattle.iio_device.specs.Site.{is_empty, site_written, with_monitor}
use Rattle.iio_event.specs.Monitor.{MonitorRecord}
use Rattle.iiod_commands.specs.declared.iio.No.{No}
use Rattle.iiod_commands.specs.declared.iio.Took.{Took}
use Rattle.iiod_commands.specs.declared.iio.Took.TheVariants.{Scan, Empty, Gone}
use Rattle.iio_core.specs.Attached.{is_attached}
use Rattle.iio_core.specs.Machine.{Member, MemberId, Station, with_scans, with_site, attachment_of}
use Rattle.iio_core.specs.Calls.{is_inner_of, trigger_answer}
use Rattle.iio_kinds.specs.Acting.{Acts, TakesAt, TakesScansAt}
use Rattle.iio_kinds.specs.Inner.{has_inner}
use Rattle.iio_bench.specs.Triggers.{IsBench, IsTrigger, places_from}
use Rattle.iio_kinds.specs.Places.{hosts, is_hosted}
use Rattle.iio_trigger.specs.Trigger.{with_place, without_place}
use Rattle.iio_bench.proofs.ListLemmas.{after_set, length_after, map_same, set_same}
use Rattle.iio_bench.proofs.PlaceLemmas.{places_attached, places_detached, places_kept, places_none}
use Rattle.iio_kinds.proofs.StandingLemmas.{KeepsPlace, KeepsStanding, standing}

pub stands_same : (st st' : Station) → st' ≡ st → KeepsStanding st st'
stands_same st st' e = rw e (standing st st refl refl refl refl (λ j. refl) refl)

pub stands_along : (st x st' : Station) → KeepsStanding st x → st' ≡ x → KeepsStanding st st'
stands_along st x st' k e = rw e k

module _ (triggers : List TriggerDesc) (states : List State) (sts : List Station) (k : ℕ) (st st' : Station) (bench : IsBench triggers states sts)
    (at : slice_get sts k ≡ Some st) where
  pub bench_kept : KeepsPlace st st' → IsBench triggers states (set sts k st')
  bench_kept kept = record {
    few = bench.few;
    devices = rw (length_after sts k st') bench.devices;
    places = bench.places;
    each = λ t s e. record {
      attached = (bench.each t s e).attached ∙ sym (places_kept t 0 sts k st st' at (kept.attached t) kept.attachment);
      idle = (bench.each t s e).idle;
    };
  }

-- the same, over devices
pub bench_by : {D : Type 0} (f : D → Station) (triggers : List TriggerDesc) (states : List State) (ds : List D) (k : ℕ) (d' : D)
    → IsBench triggers states (set (map f ds) k (f d')) → IsBench triggers states (map f (set ds k d'))
bench_by f triggers states ds k d' b = rw (map-set f ds k d') b

-- ---- which calls keep a device's standing

module _ {A : Type 0} (P : Station → Type 0) (change : Station → Station) (st st' : Station) where
  -- what holds after a call that is made, and after one that changed nothing
  pub acts_hold : (answer : Result A Errno) (r : Result A No) → ((x : A) → answer ≡ Ok x → P (change st)) → P st → Acts change answer r st st' → P st'
  acts_hold answer r made was t = search rules

pub acts_stand : {A : Type 0} (change : Station → Station) (st st' : Station) (answer : Result A Errno) (r : Result A No)
    → ((x : A) → answer ≡ Ok x → KeepsStanding st (change st)) → Acts change answer r st st' → KeepsStanding st st'
acts_stand change st st' answer r kept t = acts_hold (KeepsStanding st) change st st' answer r kept (stands_same st st refl) t

pub write_stands : (channel : Option ℕ) (a : Attr) (v : Fixed) (st : Station) → KeepsStanding st (with_site (site_written channel a v) st)
write_stands channel a v st = search rules

pub monitor_stands : (change : MonitorRecord ℕ → MonitorRecord ℕ) (st : Station) → KeepsStanding st (with_site (with_monitor change) st)
monitor_stands change st = standing st _ refl refl refl refl (λ j. refl) refl

-- a device without a member isn't attached
pub none_attached : (t : ℕ) (st : Station) → is_empty st.members ≡ true → is_attached t (attachment_of st) ≡ false
none_attached t st e = rw e (grind arith)

-- a device without a member whose trigger is replaced by one of the first n, or by none
pub record KeepsRest (n : ℕ) (st st' : Station) : Type 0 where
  pub place : KeepsPlace st st'
  pub hosted : is_hosted n st ≡ true → is_hosted n st' ≡ true
  pub plugged : st'.site.plugged ≡ st.site.plugged
  pub inner : (j : ℕ) → has_inner j st' ≡ has_inner j st
  pub captures : st'.captures ≡ st.captures

pub on_one : (n : ℕ) (trigger : Option ℕ) (empty : Bool) → IfSome trigger (λ t. t < n) → empty ≡ true → hosts n empty trigger ≡ true
on_one n trigger empty within e = search rules

pub trigger_rests : (n : ℕ) (trigger : Option ℕ) (st st' : Station) (r : Result ⊤ No) → IfSome trigger (λ t. t < n)
    → Acts (with_site (λ site. record site { trigger = trigger })) (trigger_answer st) r st st' → KeepsRest n st st'
trigger_rests n trigger st st' r within t = search rules

empty_with_scans : (id : MemberId) (scans : List (List ℕ)) (ms : List Member) → is_empty (with_scans id scans ms) ≡ is_empty ms
empty_with_scans id scans ms = search rules

inner_with_scans : (j : ℕ) (id : MemberId) (scans : List (List ℕ)) (ms : List Member)
    → list_any (is_inner_of j) (with_scans id scans ms) ≡ list_any (is_inner_of j) ms
inner_with_scans j id scans [] = refl
inner_with_scans j id scans (m ∷ ms) = search (rules, with_scans, inner_with_scans j id scans ms)

pub scans_stand : (id : MemberId) (totals : Totals) (scans : List (List ℕ)) (st : Station)
    → KeepsStanding st (record st { totals = totals; members = with_scans id scans st.members })
scans_stand id totals scans st = standing st _ refl refl refl (empty_with_scans id scans st.members) (λ j. inner_with_scans j id scans st.members) refl

pub take_stands : (id : MemberId) (took : Took) (scan : List ℕ) (st st' : Station) → TakesAt id took scan st st' → KeepsStanding st st'
take_stands id Scan scan st st' t = stands_along st _ st' (scans_stand id _ _ st) t.1
take_stands id Empty scan st st' t = stands_same st st' t.2
take_stands id Gone scan st st' t = stands_same st st' t.2

pub take_scans_stand : (id : MemberId) (most : ℕ) (took : Took) (before after : List ℕ) (st st' : Station) → TakesScansAt id most took before after st st'
    → KeepsStanding st st'
take_scans_stand id most Scan before after st st' t = stands_along st _ st' (scans_stand id _ _ st) t.2
take_scans_stand id most Empty before after st st' t = stands_same st st' t.3
take_scans_stand id most Gone before after st st' t = stands_same st st' t.3

-- a device with each member changed
pub inner_mapped : (j : ℕ) (f : Member → Member) → ((x : Member) → is_inner_of j (f x) ≡ is_inner_of j x) → (ms : List Member)
    → list_any (is_inner_of j) (map f ms) ≡ list_any (is_inner_of j) ms
inner_mapped j f same [] = refl
inner_mapped j f same (m ∷ ms) = search (rules, inner_mapped j f same ms)

-- ---- a device and its trigger

-- a device isn't attached to a trigger other than its own
other_attached : (t u : ℕ) (st : Station) → st.site.trigger ≡ Some t → (u ≡ t → ⊥) → is_attached u (attachment_of st) ≡ false
other_attached t u st e ne = let other : (t == u) ≡ false = grind (arith, nat_tests) in rw (e, other) refl

own_attached : (t : ℕ) (st : Station) → st.site.trigger ≡ Some t → is_empty st.members ≡ false → is_attached t (attachment_of st) ≡ true
own_attached t st e some = let own : (t == t) ≡ true = grind (arith, nat_tests) in rw (e, own, some) refl

pub hosted_is : (t n : ℕ) (st : Station) → st.site.trigger ≡ Some t → t < n → is_hosted n st ≡ true
hosted_is t n st e h = rw e (grind (arith, nat_tests))

module _ (triggers : List TriggerDesc) (states : List State) (sts : List Station) (k t : ℕ) (st st' : Station) (s s' : State)
    (bench : IsBench triggers states sts) (at : slice_get sts k ≡ Some st) (there : slice_get states t ≡ Some s) where
  placed : s'.places ≡ s.places → s'.outstanding ≡ s.outstanding → s'.attached ≡ places_from 0 t (set sts k st')
      → ((u : ℕ) → (u ≡ t → ⊥) → places_from 0 u (set sts k st') ≡ places_from 0 u sts) → IsBench triggers (set states t s') (set sts k st')
  placed places outstanding own others = record {
    few = bench.few;
    devices = rw (length_after sts k st') bench.devices;
    places = map_same (λ (x : State). x.places) states t s s' there places ∙ bench.places;
    each = λ u x e. by u x (after_set states t u s' x e);
  }
    where
      by : (u : ℕ) (x : State) → ((u ≡ t) × (x ≡ s')) ⊎ ((u ≡ t → ⊥) × (slice_get states u ≡ Some x)) → IsTrigger u (set sts k st') x
      by u x (inl p) = grind (arith, common_steps)
      by u x (inr p) = record {
        attached = (bench.each u x p.1).attached ∙ sym (others u p.0);
        idle = (bench.each u x p.1).idle;
      }

  -- the device takes a place
  pub bench_attached : (a : ℕ) → t < length triggers → is_empty st.members ≡ true → st'.site.trigger ≡ Some t → is_empty st'.members ≡ false
      → st'.site.attachment ≡ a
      → s' ≡ record s { attached = with_place k a s.attached } → IsBench triggers (set states t s') (set sts k st')
  bench_attached a within empty own some same after =
      placed (ap (λ (x : State). x.places) after) (ap (λ (x : State). x.outstanding) after)
      (ap (λ (x : State). x.attached) after ∙ ap (λ ps. with_place k a ps) (bench.each t s there).attached
      ∙ places_attached t 0 sts k k a st st' at (omega arith) (none_attached t st empty) (own_attached t st' own some) same)
      (λ u ne. places_none u 0 sts k st st' at (none_attached u st empty) (other_attached t u st' own ne))

  -- the device leaves its place
  pub bench_detached : t < length triggers → st.site.trigger ≡ Some t → st'.site.trigger ≡ Some t → is_empty st'.members ≡ true
      → s' ≡ record s { attached = without_place k s.attached } → IsBench triggers (set states t s') (set sts k st')
  bench_detached within was own empty after =
      placed (ap (λ (x : State). x.places) after) (ap (λ (x : State). x.outstanding) after)
      (ap (λ (x : State). x.attached) after ∙ ap (λ ps. without_place k ps) (bench.each t s there).attached
      ∙ places_detached t 0 sts k k st st' at (omega arith) (none_attached t st' empty))
      (λ u ne. places_none u 0 sts k st st' at (other_attached t u st was ne) (other_attached t u st' own ne))

  -- the device keeps its place
  pub bench_stays : KeepsPlace st st' → s' ≡ s → IsBench triggers (set states t s') (set sts k st')
  bench_stays kept same =
      subst (λ (xs : List State). IsBench triggers xs (set sts k st')) (sym (ap (λ (x : State). set states t x) same ∙ set_same states t s there))
      (bench_kept triggers states sts k st st' bench at kept)
