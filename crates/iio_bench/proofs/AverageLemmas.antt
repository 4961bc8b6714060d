-- What holds of averaging devices and their bases after devices have changed.
use Rattle.std.proofs.Common.{◌≡◌, ◌⊎◌, ℕ, zero, suc, ◌+◌, ◌<◌, ◌≤◌, true, false, List, [], ◌∷◌, map, length, set, slice_get, ◌-◌, ◌^◌, Some, inl, inr, refl, sym, ap, subst, ◌∙◌, arith, rules}
use Rattle.std.proofs.lemmas.List.{map-set}
use Rattle.iio_desc.specs.Description.{DeviceHead}
use Rattle.iio_desc.specs.Kind.{Kind, Input, Average, is_average}
use Rattle.iio_core.specs.Machine.{Station, no_station, station_in}
use Rattle.iio_core.specs.Lists.{map_from}
use Rattle.iio_bench.specs.Averages.{HasInner, IsAveraged, kind_in}
use Rattle.iio_kinds.specs.Inner.{has_inner}
use Rattle.iio_kinds.specs.Places.{is_hosted}
use Rattle.iio_bench.proofs.ListLemmas.{map_same}
use Rattle.iio_kinds.proofs.StandingLemmas.{KeepsInner, KeepsStanding}
use Rattle.iio_bench.proofs.BenchLemmas.{stands_same}

-- ---- numbers and places

pub same_or : (i j : ℕ) → (i ≡ j) ⊎ (i ≡ j → ⊥)
same_or zero zero = inl refl
same_or zero (suc j) = inr (λ e. absurd (omega (arith, e)))
same_or (suc i) zero = inr (λ e. absurd (omega (arith, e)))
same_or (suc i) (suc j) = search rules

pub here_is : (sts : List Station) (k : ℕ) (st : Station) → slice_get sts k ≡ Some st → station_in sts k ≡ st
here_is [] k st at = absurd (cc)
here_is (x ∷ xs) zero st at = cc
here_is (x ∷ xs) (suc k) st at = here_is xs k st at

pub set_here : (sts : List Station) (k : ℕ) (st st' : Station) → slice_get sts k ≡ Some st → station_in (set sts k st') k ≡ st'
set_here [] k st st' at = absurd (cc)
set_here (x ∷ xs) zero st st' at = refl
set_here (x ∷ xs) (suc k) st st' at = set_here xs k st st' at

pub set_there : (sts : List Station) (k i : ℕ) (st' : Station) → (i ≡ k → ⊥) → station_in (set sts k st') i ≡ station_in sts i
set_there [] k i st' other = refl
set_there (x ∷ xs) zero zero st' other = absurd (other refl)
set_there (x ∷ xs) zero (suc i) st' other = refl
set_there (x ∷ xs) (suc k) zero st' other = refl
set_there (x ∷ xs) (suc k) (suc i) st' other = set_there xs k i st' (λ e. other (ap (λ (n : ℕ). suc n) e))

-- an element other than the one that is written
pub get_there : {A : Type 0} (xs : List A) (k i : ℕ) (x' x : A) → (i ≡ k → ⊥) → slice_get xs i ≡ Some x → slice_get (set xs k x') i ≡ Some x
get_there [] k i x' x other at = at
get_there (y ∷ ys) zero zero x' x other at = absurd (other refl)
get_there (y ∷ ys) zero (suc i) x' x other at = at
get_there (y ∷ ys) (suc k) zero x' x other at = at
get_there (y ∷ ys) (suc k) (suc i) x' x other at = get_there ys k i x' x (λ e. other (ap (λ (n : ℕ). suc n) e)) at

pub got_there : {A : Type 0} (xs : List A) (k i : ℕ) (x' x : A) → (i ≡ k → ⊥) → slice_get (set xs k x') i ≡ Some x → slice_get xs i ≡ Some x
got_there [] k i x' x other at = at
got_there (y ∷ ys) zero zero x' x other at = absurd (other refl)
got_there (y ∷ ys) zero (suc i) x' x other at = at
got_there (y ∷ ys) (suc k) zero x' x other at = at
got_there (y ∷ ys) (suc k) (suc i) x' x other at = got_there ys k i x' x (λ e. other (ap (λ (n : ℕ). suc n) e)) at

-- the element that is written
pub get_here : {A : Type 0} (xs : List A) (k : ℕ) (x x' : A) → slice_get xs k ≡ Some x → slice_get (set xs k x') k ≡ Some x'
get_here [] k x x' at = absurd (cc)
get_here (y ∷ ys) zero x x' at = refl
get_here (y ∷ ys) (suc k) x x' at = get_here ys k x x' at

-- an element that is written twice
pub set_twice : {A : Type 0} (xs : List A) (k : ℕ) (x x' : A) → set (set xs k x) k x' ≡ set xs k x'
set_twice [] k x x' = refl
set_twice (y ∷ ys) zero x x' = refl
set_twice {A = A} (y ∷ ys) (suc k) x x' = ap (λ (zs : List A). y ∷ zs) (set_twice ys k x x')

stands_set : (sts : List Station) (k : ℕ) (st st' : Station) → slice_get sts k ≡ Some st → KeepsStanding st st' → (i : ℕ)
    → KeepsStanding (station_in sts i) (station_in (set sts k st') i)
stands_set [] k st st' at kept i = absurd (cc)
stands_set (y ∷ ys) zero st st' at kept zero = let same : y ≡ st = cc in subst (λ (x : Station). KeepsStanding x st') (sym same) kept
stands_set (y ∷ ys) zero st st' at kept (suc i) = stands_same (station_in ys i) (station_in ys i) refl
stands_set (y ∷ ys) (suc k) st st' at kept zero = stands_same y y refl
stands_set (y ∷ ys) (suc k) st st' at kept (suc i) = stands_set ys k st st' at kept i

-- each station after a change of all
pub each_from : (P : Station → Station → Type 0) (f : ℕ → Station → Station) → P no_station no_station → (n : ℕ) (sts : List Station)
    → ((i : ℕ) (st : Station) → slice_get sts i ≡ Some st → P st (f (n + i) st)) → (i : ℕ) → P (station_in sts i) (station_in (map_from f n sts) i)
each_from P f none n [] each i = none
each_from P f none n (x ∷ xs) each zero = subst (λ (k : ℕ). P x (f k x)) (let e : n + 0 ≡ n = omega arith in e) (each zero x refl)
each_from P f none n (x ∷ xs) each (suc i) =
    each_from P f none (suc n) xs (λ j st at. subst (λ (k : ℕ). P st (f k st)) (let e : n + suc j ≡ suc n + j = omega arith in e) (each (suc j) st at)) i

-- a list that is another one after a change of all elements
pub from_each : {A : Type 0} (f : ℕ → A → A) (n : ℕ) (xs ys : List A) → length ys ≡ length xs
    → ((i : ℕ) (x y : A) → slice_get xs i ≡ Some x → slice_get ys i ≡ Some y → y ≡ f (n + i) x) → ys ≡ map_from f n xs
from_each f n [] [] same each = refl
from_each f n [] (y ∷ ys) same each = absurd (omega (arith, same))
from_each f n (x ∷ xs) [] same each = absurd (omega (arith, same))
from_each {A = A} f n (x ∷ xs) (y ∷ ys) same each =
    ap (λ (z : A). z ∷ ys) (each zero x y refl refl ∙ ap (λ (k : ℕ). f k x) (let e : n + 0 ≡ n = omega arith in e))
    ∙ ap (λ (zs : List A). f n x ∷ zs)
    (from_each f (suc n) xs ys (omega (arith, same))
    (λ i u v at at'. each (suc i) u v at at' ∙ ap (λ (k : ℕ). f k u) (let e : n + suc i ≡ suc n + i = omega arith in e)))

-- ---- kinds

same_kind : (kind other : Kind) (base window : ℕ) → kind ≡ Average base window → kind ≡ other → is_average other ≡ false → ⊥
same_kind kind other base window is e plain = cc

-- an averaging device isn't a device of another kind
pub average_other : (heads : List DeviceHead) (j k base window : ℕ) → kind_in heads j ≡ Average base window → is_average (kind_in heads k) ≡ false → j ≡ k → ⊥
average_other heads j k base window is plain e = same_kind (kind_in heads j) (kind_in heads k) base window is (ap (λ (i : ℕ). kind_in heads i) e) plain

pub input_plain : (kind : Kind) → kind ≡ Input → is_average kind ≡ false
input_plain kind is = ap is_average is

base_same : (a b c d : ℕ) → Average a b ≡ Average c d → a ≡ c
base_same a b c d e = cc

-- an averaging device is there
pub average_there : (heads : List DeviceHead) (j base window : ℕ) → kind_in heads j ≡ Average base window → j < length heads
average_there [] j base window is = absurd (same_kind Input Input base window is refl refl)
average_there (h ∷ hs) zero base window is = omega arith
average_there (h ∷ hs) (suc j) base window is = let more = average_there hs j base window is in omega (arith, more)

module _ (triggers first : ℕ) (heads : List DeviceHead) where
  -- ---- if all devices keep what concerns averaging devices

  pub averaged_each : (sts sts' : List Station) → IsAveraged triggers first heads sts → ((i : ℕ) → KeepsInner (station_in sts i) (station_in sts' i))
      → ((j base window : ℕ) → kind_in heads j ≡ Average base window → ((station_in sts' j).captures ≤ (station_in sts' base).captures)
      × ((station_in sts' base).captures ≤ 2 ^ 64 - 1)) → IsAveraged triggers first heads sts'
  averaged_each sts sts' a kept fewer = search rules

  pub averaged_stands : (sts : List Station) (k : ℕ) (st st' : Station) → IsAveraged triggers first heads sts → slice_get sts k ≡ Some st → KeepsStanding st st'
      → IsAveraged triggers first heads (set sts k st')
  averaged_stands sts k st st' a at kept =
      averaged_each sts (set sts k st') a (λ i. (stands_set sts k st st' at kept i).inner)
      (λ j base window is. (
      let own = (a.inners j base window is).fewer in
      let most = (a.inners j base window is).most in
      let s = (stands_set sts k st st' at kept j).captures in
      let b = (stands_set sts k st st' at kept base).captures in (omega (arith, own, s, b), omega (arith, most, b))
      ))

  -- ---- if a member joins or leaves a device that isn't an averaging one

  pub record KeepsBase (st st' : Station) : Type 0 where
    pub plugged : st'.site.plugged ≡ st.site.plugged
    pub inner : (j : ℕ) → has_inner j st' ≡ has_inner j st
    pub captures : st'.captures ≡ st.captures

  module _ (sts : List Station) (k : ℕ) (st st' : Station) (a : IsAveraged triggers first heads sts) (at : slice_get sts k ≡ Some st) where
    pub averaged_plain : is_average (kind_in heads k) ≡ false → is_hosted triggers st' ≡ true → KeepsBase st st'
        → IsAveraged triggers first heads (set sts k st')
    averaged_plain plain hosted kept = record {
      bases = a.bases;
      hosted = λ dev is. host dev is (same_or dev k);
      inners = λ j base window is. inner j base window is (same_or base k);
    }
      where
        host : (dev : ℕ) → is_average (kind_in heads dev) ≡ false → (dev ≡ k) ⊎ (dev ≡ k → ⊥) → is_hosted triggers (station_in (set sts k st') dev) ≡ true
        host dev is h1 = search (rules, set, set_here, set_there)

        inner : (j base window : ℕ) → kind_in heads j ≡ Average base window → (base ≡ k) ⊎ (base ≡ k → ⊥)
            → HasInner j (station_in (set sts k st') base) (station_in (set sts k st') j)
        inner j base window is (inl e) = search (rules, here_is, set, set_here, set_there, average_other)
        inner j base window is (inr other) = search (rules, set, set_there, average_other)

  -- ---- if an averaging device and its base change

  module _ (sts : List Station) (j base window : ℕ) (st st' b b' : Station) (a : IsAveraged triggers first heads sts)
      (is : kind_in heads j ≡ Average base window)
      (at : slice_get sts j ≡ Some st) (under : slice_get sts base ≡ Some b) where
    input : is_average (kind_in heads base) ≡ false
    input = input_plain (kind_in heads base) (a.bases.bases j base window is).input

    abbrev after : List Station
    after = set (set sts j st') base b'

    own_after : station_in after j ≡ st'
    own_after = set_there (set sts j st') base j b' (average_other heads j base base window is input) ∙ set_here sts j st st' at

    base_after : station_in after base ≡ b'
    base_after = set_here (set sts j st') base b b' (get_there sts j base st' b (λ e. average_other heads j base base window is input (sym e)) under)

    other_after : (i : ℕ) → (i ≡ j → ⊥) → (i ≡ base → ⊥) → station_in after i ≡ station_in sts i
    other_after i aside away = set_there (set sts j st') base i b' away ∙ set_there sts j i st' aside

    pub averaged_pair : is_hosted triggers b' ≡ true → HasInner j b' st' → b'.site.plugged ≡ b.site.plugged → b'.captures ≡ b.captures
        → ((i : ℕ) → (i ≡ j → ⊥) → has_inner i b' ≡ has_inner i b)
        → IsAveraged triggers first heads after
    averaged_pair hosted own plugged captures others = record {
      bases = a.bases;
      hosted = λ dev plain. host dev plain (same_or dev base);
      inners = λ i under' w averages. inner i under' w averages (same_or i j) (same_or under' base);
    }
      where
        host : (dev : ℕ) → is_average (kind_in heads dev) ≡ false → (dev ≡ base) ⊎ (dev ≡ base → ⊥) → is_hosted triggers (station_in after dev) ≡ true
        host dev plain h1 = search (rules, base_after, other_after, average_other)

        inner : (i under' w : ℕ) → kind_in heads i ≡ Average under' w → (i ≡ j) ⊎ (i ≡ j → ⊥) → (under' ≡ base) ⊎ (under' ≡ base → ⊥)
            → HasInner i (station_in after under') (station_in after i)
        inner i under' w averages (inl e) o = search (rules, base_same, base_after, own_after)
        inner i under' w averages (inr aside) (inl e) =
            let before =
            subst (λ (x : Station). HasInner i x (station_in sts i)) (here_is sts base b under)
            (subst (λ (k : ℕ). HasInner i (station_in sts k) (station_in sts i)) e (a.inners i under' w averages)) in
            subst (λ (k : ℕ). HasInner i (station_in after k) (station_in after i)) (sym e)
            (subst (λ (x : Station). HasInner i x (station_in after i)) (sym base_after)
            (subst (λ (x : Station). HasInner i b' x) (sym (other_after i aside (average_other heads i base under' w averages input)))
            (record {
              plugged = before.plugged ∙ sym plugged;
              inner = others i aside ∙ before.inner;
              fewer = search rules;
              most = (let f = before.most in omega (arith, f, captures));
            })))
        inner i under' w averages (inr aside) (inr away) =
            let its : is_average (kind_in heads under') ≡ false = input_plain (kind_in heads under') (a.bases.bases i under' w averages).input in
            subst (λ (x : Station). HasInner i x (station_in after i))
            (sym (other_after under' (λ e. average_other heads j under' base window is its (sym e)) away))
            (subst (λ (x : Station). HasInner i (station_in sts under') x) (sym (other_after i aside (average_other heads i base under' w averages input)))
            (a.inners i under' w averages))

-- ---- over devices

module _ {D : Type 0} (triggers first : ℕ) (face : D → DeviceHead) (f : D → Station) where
  pub averaged_by : (ds : List D) (k : ℕ) (d d' : D) → slice_get ds k ≡ Some d → face d' ≡ face d
      → IsAveraged triggers first (map face ds) (set (map f ds) k (f d'))
      → IsAveraged triggers first (map face (set ds k d')) (map f (set ds k d'))
  averaged_by ds k d d' at keeps a =
      subst (λ (hs : List DeviceHead). IsAveraged triggers first hs (map f (set ds k d'))) (sym (map_same face ds k d d' at keeps))
      (subst (λ (sts : List Station). IsAveraged triggers first (map face ds) sts) (sym (map-set f ds k d')) a)
