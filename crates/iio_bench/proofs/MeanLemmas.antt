-- OPEN and CLOSE at an averaging device, over its base.
use Rattle.std.proofs.Common.{◌≡◌, ◌⊎◌, ℕ, zero, suc, ◌+◌, Bool, true, false, List, [], ◌∷◌, filter, length, set, slice_get, Option, Some, None, refl, sym, ap, ◌∙◌, arith, cond, rules}
use Rattle.std.proofs.lemmas.Grind.{common_steps}
use Rattle.std.specs.Prelude.{◌==◌, ◌&&◌, ◌||◌, is_none, not}
use Rattle.std.specs.List.{list_any}
use Rattle.std.specs.Option.{option_map_or}
use Rattle.iio_base.specs.Refusals.{first_refusal, unless_refused}
use Rattle.iio_text.specs.declared.errors.Errno.{Errno}
use Rattle.iio_text.specs.declared.errors.Errno.TheVariants.{EBUSY, ENODEV, ENOSPC}
use Rattle.iio_layout.specs.Shape.{ShapeRecord}
use Rattle.iio_desc.specs.declared.description.TriggerDesc.{TriggerDesc}
use Rattle.iio_desc.specs.Kind.{Input, Average}
use Rattle.iio_derive.specs.Window.{full_mask}
use Rattle.iio_trigger.specs.Trigger.{State}
use Rattle.iio_device.specs.Active.{is_without_union}
use Rattle.iio_device.specs.Site.{at_place, attached, is_empty}
use Rattle.iio_core.specs.Attached.{has_no_place, is_attached}
use Rattle.iio_core.specs.Calls.{all_joined, machine_after_close, has_no_number, inner_gone, inner_joined, is_inner_of, station_after_join, station_after_leave, open_of, open_refusals, unless_made, with_inner, without_inner}
use Rattle.iio_core.specs.Front.{Front, kind_at, shape_at}
use Rattle.iio_core.specs.Machine.{Machine, Member, Station, masks_of, station_at, station_in, with_station, attachment_of, attachments_of}
use Rattle.iio_core.specs.Opening.{join_refusals, Host, inner_host}
use Rattle.iio_core.specs.Lists.{map_from}
use Rattle.iio_core.proofs.PlaceLists.{itself, placed_from, same_number, twice_from}
use Rattle.iio_bench.specs.Averages.{HasInner}
use Rattle.iio_kinds.specs.Inner.{has_inner}
use Rattle.iio_kinds.specs.Faults.{any_refusals, lacks_place}
use Rattle.iio_bench.specs.Triggers.{IsBench}
use Rattle.iio_bench.proofs.ListLemmas.{after_set, length_after, same_element}
use Rattle.iio_bench.proofs.PlaceLemmas.{places_none}
use Rattle.iio_bench.proofs.AverageLemmas.{from_each}
use Rattle.iio_bench.proofs.RefusalLemmas.{lacks_is}

-- ---- the machine

module _ (front : Front) (j base window : ℕ) (is : kind_at front j ≡ Average base window) (input : kind_at front base ≡ Input) (apart : j ≡ base → ⊥) where
  other : (k i : ℕ) → (k ≡ i → ⊥) → (k == i) ≡ false
  other k i away = search rules

  -- ---- a joining

  joins_base : (b : Station) → with_inner front j base b ≡ inner_joined j (shape_at front base) b
  joins_base b = search rules

  joins_other : (k : ℕ) (x : Station) → (k ≡ base → ⊥) → with_inner front j k x ≡ x
  joins_other k x away = search rules

  module _ (m : Machine) (st b st' b' : Station) (at : slice_get m.stations j ≡ Some st) (under : slice_get m.stations base ≡ Some b) where
    abbrev both : List Station
    both = set (set m.stations j st') base b'

    many : length both ≡ length m.stations
    many = length_after (set m.stations j st') base b' ∙ length_after m.stations j st'

    pub mean_joined : (change : Station → Station) → st' ≡ change st → b' ≡ inner_joined j (shape_at front base) b
        → (let x : Machine = record m { stations = both } in x) ≡ all_joined front j change m
    mean_joined change own inner =
        ap (λ (sts : List Station). (let x : Machine = record m { stations = sts } in x))
        (from_each (λ k x. cond (j == k) (change x) (with_inner front j k x)) 0 m.stations both many
        (λ k x y there there'. by k x y there (after_set (set m.stations j st') base k b' y there')
        ∙ ap (λ (i : ℕ). cond (j == i) (change x) (with_inner front j i x)) (let e : k ≡ 0 + k = omega arith in e)))
      where
        by : (k : ℕ) (x y : Station) → slice_get m.stations k ≡ Some x → ((k ≡ base) × (y ≡ b'))
            ⊎ ((k ≡ base → ⊥) × (slice_get (set m.stations j st') k ≡ Some y)) → y ≡ cond (j == k) (change x) (with_inner front j k x)
        by k x y there h1 = search (rules, same_element, joins_base, other, after_set, itself, joins_other)

    -- ---- a leaving

    abbrev left_there : ℕ → Machine
    left_there n = with_station (station_after_leave n) j m

    gone_base : (n : ℕ) (x : Station) → station_at (left_there n) j ≡ station_after_leave n st
        → without_inner front (left_there n) j base x ≡ cond (is_empty (station_after_leave n st).members) (inner_gone j x) x
    gone_base n x own = search rules

    gone_other : (n k : ℕ) (x : Station) → (k ≡ base → ⊥) → without_inner front (left_there n) j k x ≡ x
    gone_other n k x away = search rules

    placed_there : (f : Station → Station) (xs : List Station) (i : ℕ) (x : Station) → slice_get xs i ≡ Some x → station_in (at_place i f xs) i ≡ f x
    placed_there f [] i x e = absurd (cc)
    placed_there f (y ∷ ys) zero x e = let same : y ≡ x = cc in ap f same
    placed_there f (y ∷ ys) (suc i) x e = placed_there f ys i x e

    left_is : (n : ℕ) → station_at (left_there n) j ≡ station_after_leave n st
    unfolding station_at with_station
    left_is n = placed_there (station_after_leave n) m.stations j st at

    pub mean_closed : (n : ℕ) → st' ≡ station_after_leave n st → b' ≡ cond (is_empty (station_after_leave n st).members) (inner_gone j b) b
        → (let x : Machine = record m { stations = both } in x) ≡ machine_after_close front m j n
    unfolding machine_after_close with_station
    mean_closed n own inner =
        ap (λ (sts : List Station). (let x : Machine = record m { stations = sts } in x))
        (from_each step 0 m.stations both many
        (λ k x y there there'. by k x y there (after_set (set m.stations j st') base k b' y there')
        ∙ ap (λ (i : ℕ). step i x) (let e : k ≡ 0 + k = omega arith in e))
        ∙ sym (ap (λ (xs : List Station). map_from (without_inner front (left_there n) j) 0 xs)
        (placed_from (station_after_leave n) j j 0 m.stations (let e : j ≡ j + 0 = omega arith in e))
        ∙ twice_from (without_inner front (left_there n) j) (λ i x. cond (j == i) (station_after_leave n x) x) 0 m.stations))
      where
        step : ℕ → Station → Station
        step k x = without_inner front (left_there n) j k (cond (j == k) (station_after_leave n x) x)

        by : (k : ℕ) (x y : Station) → slice_get m.stations k ≡ Some x → ((k ≡ base) × (y ≡ b'))
            ⊎ ((k ≡ base → ⊥) × (slice_get (set m.stations j st') k ≡ Some y)) → y ≡ step k x
        by k x y there h1 = search (rules, same_element, gone_base, left_is, other, after_set, itself, gone_other)

  -- ---- refusals

  -- where the first member finds what it needs of the base
  abbrev mean_host : Station → Station → Host Station
  mean_host st b = inner_host (is_empty st.members) b (shape_at front base)

  pub open_mean : (m : Machine) (mask capacity : ℕ) (cyclic : Bool) (st b : Station) (r : Option Errno) → slice_get m.stations j ≡ Some st
      → slice_get m.stations base ≡ Some b
      → first_refusal (open_refusals front m.stations (Average base window) (mean_host st b) st) ≡ r
      → open_of front m j mask capacity cyclic ≡ unless_made (all_joined front j (station_after_join mask capacity cyclic None)) m (unless_refused st.next r)
  unfolding open_of station_at
  open_mean m mask capacity cyclic st b r at under e = search rules

-- the refusals of a first member, by those of the inner one at the base; besides, its own numbers may have run out
abbrev pub base_list : (gone t u e p nb : Bool) → List (Bool × Errno)
base_list gone t u e p nb = (gone, ENODEV) ∷ (false, EBUSY) ∷ join_refusals t u (e && p || nb)

abbrev pub mean_list : (gone t u e p ns nb : Bool) → List (Bool × Errno)
mean_list gone t u e p ns nb = (gone, ENODEV) ∷ (false, EBUSY) ∷ join_refusals t u (e && p || ns || nb)

pub mean_refused : (gone t u e p ns nb : Bool) (err : Errno) → first_refusal (base_list gone t u e p nb) ≡ Some err
    → first_refusal (mean_list gone t u e p ns nb) ≡ Some err
mean_refused gone t u e p ns nb err is = search rules

pub mean_may : (gone t u e p nb : Bool) → first_refusal (base_list gone t u e p nb) ≡ None → first_refusal (mean_list gone t u e p false nb) ≡ None
mean_may gone t u e p nb is = search rules

pub mean_full : (gone t u e p nb : Bool) → first_refusal (base_list gone t u e p nb) ≡ None → first_refusal (mean_list gone t u e p true nb) ≡ Some ENOSPC
mean_full gone t u e p nb is = search rules

-- ---- which refusals there are

module _ (front : Front) (base window : ℕ) (sts : List Station) (st b : Station) where
  -- of a further member: by the device's own plug and numbers, if the base has a trigger
  pub further_is : is_empty st.members ≡ false → is_none b.site.trigger ≡ false
      → open_refusals front sts (Average base window)
      (inner_host (is_empty st.members) b (shape_at front base)) st
      ≡ (not st.site.plugged, ENODEV) ∷ (false, EBUSY) ∷ join_refusals false false (has_no_number st)
  further_is some on = search rules

  -- of the first member
  pub first_is : is_empty st.members ≡ true
      → open_refusals front sts (Average base window)
      (inner_host (is_empty st.members) b (shape_at front base)) st
      ≡ mean_list (not st.site.plugged) (is_none b.site.trigger) (is_without_union (shape_at front base) [] (full_mask (shape_at front base)))
      (is_empty b.members) (has_no_place front (attachments_of sts) b.site.trigger) (has_no_number st) (has_no_number b)
  first_is none = cc

place_as : (e p q : Bool) → (e ≡ true → q ≡ p) → (e && p) ≡ (e && q)
place_as e p q same = search rules

-- and of the inner one at the base, with its trigger's places as the machine has them
pub base_is : (front : Front) (states : List State) (sts : List Station) (k : ℕ) (shape : ShapeRecord) (b : Station) (plugged : Bool)
    → IsBench front.triggers states sts → slice_get sts k ≡ Some b → b.site.plugged ≡ plugged
    → is_without_union shape (masks_of b.members) (full_mask shape) ≡ is_without_union shape [] (full_mask shape)
    → any_refusals (lacks_place k states b.site.trigger) Input shape b (full_mask shape)
    ≡ base_list (not plugged) (is_none b.site.trigger) (is_without_union shape [] (full_mask shape)) (is_empty b.members)
    (has_no_place front (attachments_of sts) b.site.trigger) (has_no_number b)
base_is front states sts k shape b plugged bench at same full = search (rules, is_none, place_as, lacks_is)

-- ---- what holds afterwards

-- an averaging device has no trigger of its own
pub bench_unattached : (triggers : List TriggerDesc) (states : List State) (sts : List Station) (k : ℕ) (st st' : Station) → IsBench triggers states sts
    → slice_get sts k ≡ Some st → st.site.trigger ≡ None → st'.site.trigger ≡ None
    → IsBench triggers states (set sts k st')
bench_unattached triggers states sts k st st' bench at off off' = record {
  few = bench.few;
  devices = rw (length_after sts k st') bench.devices;
  places = bench.places;
  each = λ t s e. record {
    attached = (bench.each t s e).attached ∙ sym (places_none t 0 sts k st st' at (none t st off) (none t st' off'));
    idle = (bench.each t s e).idle;
  };
}
  where
    none : (t : ℕ) (x : Station) → x.site.trigger ≡ None → is_attached t (attachment_of x) ≡ false
    none t x e = ap (λ (o : Option ℕ). option_map_or (λ (i : ℕ). i == t) o false && not (is_empty x.members)) e

-- the first member and its inner one
pub has_first : (j mask capacity : ℕ) (shape : ShapeRecord) (st b st' b' : Station) → HasInner j b st → st' ≡ station_after_join mask capacity false None st
    → b' ≡ station_after_join (full_mask shape) 1 false (Some j) b → HasInner j b' st'
has_first j mask capacity shape st b st' b' own is inner = grind (arith, common_steps)

-- a further member
pub has_further : (j mask capacity : ℕ) (st b st' : Station) → HasInner j b st → is_empty st.members ≡ false
    → st' ≡ station_after_join mask capacity false None st
    → HasInner j b st'
has_further j mask capacity st b st' own some is = search rules

-- no inner member of averaging device j is left at its base
none_inner : (j : ℕ) (ms : List Member) → list_any (is_inner_of j) (filter (λ (x : Member). not (is_inner_of j x)) ms) ≡ false
none_inner j [] = refl
none_inner j (x ∷ ms) = search (rules, none_inner j ms)

-- the inner members of others stay
pub inner_stays : (j i : ℕ) (ms : List Member) → (i ≡ j → ⊥)
    → list_any (is_inner_of i) (filter (λ (x : Member). not (is_inner_of j x)) ms) ≡ list_any (is_inner_of i) ms
inner_stays j i [] apart = refl
inner_stays j i (x ∷ ms) apart = search (rules, same_number, inner_stays j i ms apart)

-- when the last member leaves, so does the inner one
pub has_left : (j n : ℕ) (st b st' b' : Station) → HasInner j b st → st' ≡ station_after_leave n st
    → b' ≡ cond (is_empty (station_after_leave n st).members) (inner_gone j b) b
    → HasInner j b' st'
has_left j n st b st' b' own is inner = by (is_empty (station_after_leave n st).members) refl inner
  where
    some : is_empty (station_after_leave n st).members ≡ false → is_empty st.members ≡ false
    some e = search rules

    by : (t : Bool) → is_empty (station_after_leave n st).members ≡ t → b' ≡ cond t (inner_gone j b) b → HasInner j b' st'
    by true e inner = record {
      plugged = ap (λ (x : Station). x.site.plugged) is ∙ own.plugged ∙ sym (ap (λ (x : Station). x.site.plugged) inner);
      inner = ap (λ (x : Station). has_inner j x) inner ∙ none_inner j b.members ∙ sym (ap (λ (x : Station). not (is_empty x.members)) is ∙ ap not e);
      fewer = (let f = own.fewer in let s = ap (λ (x : Station). x.captures) is in let c = ap (λ (x : Station). x.captures) inner in omega (arith, f, s, c));
      most = (let f = own.most in let c = ap (λ (x : Station). x.captures) inner in omega (arith, f, c));
    }
    by false e inner = search rules
