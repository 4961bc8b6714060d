-- What a handling and an unplugging make of all devices.
use Rattle.std.proofs.Common.{◌≡◌, ℕ, zero, suc, ◌+◌, ◌-◌, ◌^◌, ◌<◌, ◌≤◌, Bool, true, false, List, [], ◌∷◌, length, slice_get, Option, Some, None, refl, sym, ap, subst, ◌∙◌, arith, cond, rules}
use Rattle.std.specs.Prelude.{◌==◌}
use Rattle.iio_layout.specs.Shape.{ShapeRecord}
use Rattle.iio_desc.specs.declared.description.TriggerDesc.{TriggerDesc}
use Rattle.iio_desc.specs.Kind.{Kind, Input, Average, is_unplugged_by}
use Rattle.iio_trigger.specs.Trigger.{Handed, State}
use Rattle.iio_trigger.specs.declared.rows.Place.{Place}
use Rattle.iio_device.specs.Site.{unplugged}
use Rattle.iio_core.specs.Attached.{is_attached}
use Rattle.iio_core.specs.Front.{Front, kind_at, shape_at}
use Rattle.iio_core.specs.Machine.{Machine, Station, no_station, station_at, station_in, with_site, attachment_of}
use Rattle.iio_core.specs.Lists.{map_from}
use Rattle.iio_core.specs.Moves.{Capture, station_after_gathering, unplugs, machine_after_unplugging, entry_at, capture_at, capture_in, station_after_entry, machine_after_entry}
use Rattle.iio_core.proofs.PlaceLists.{same_number}
use Rattle.iio_bench.specs.Averages.{HasInner, IsAveraged, kind_in}
use Rattle.iio_kinds.specs.Handling.{is_last}
use Rattle.iio_bench.specs.Triggers.{IsBench, places_from}
use Rattle.iio_kinds.specs.Places.{is_hosted}
use Rattle.iio_kinds.proofs.EmptyLemmas.{is_empty-map}
use Rattle.iio_kinds.proofs.StandingLemmas.{KeepsInner, KeepsPlace, inner_kept}
use Rattle.iio_bench.proofs.BenchLemmas.{inner_mapped}
use Rattle.iio_bench.proofs.AverageLemmas.{average_there, averaged_each, each_from}
use Rattle.iio_bench.proofs.AnyLemmas.{kept_from}
use Rattle.iio_bench.proofs.EntryLemmas.{entry_kept, offered_inner, current_kept}
use Rattle.iio_kinds.proofs.AnyCalls.{either}

-- ---- lists, element by element

length_from : {A : Type 0} (f : ℕ → A → A) (n : ℕ) (xs : List A) → length (map_from f n xs) ≡ length xs
length_from f n [] = refl
length_from f n (x ∷ xs) = ap (λ (k : ℕ). suc k) (length_from f (suc n) xs)

-- ---- places

places_each : (t dev : ℕ) (sts sts' : List Station) → length sts' ≡ length sts → ((i : ℕ) → KeepsPlace (station_in sts i) (station_in sts' i))
    → places_from dev t sts' ≡ places_from dev t sts
places_each t dev [] [] same kept = refl
places_each t dev [] (y ∷ ys) same kept = absurd (omega (arith, same))
places_each t dev (x ∷ xs) [] same kept = absurd (omega (arith, same))
places_each t dev (x ∷ xs) (y ∷ ys) same kept =
    let rest = places_each t (suc dev) xs ys (omega (arith, same)) (λ i. kept (suc i)) in
    ap (λ (b : Bool). cond b (record { dev = dev; attachment = y.site.attachment } ∷ places_from (suc dev) t ys) (places_from (suc dev) t ys))
    ((kept zero).attached t)
    ∙ ap (λ (n : ℕ). cond (is_attached t (attachment_of x)) (record { dev = dev; attachment = n } ∷ places_from (suc dev) t ys) (places_from (suc dev) t ys))
    (kept zero).attachment
    ∙ ap (λ (ps : List Place). cond (is_attached t (attachment_of x)) (record { dev = dev; attachment = x.site.attachment } ∷ ps) ps) rest

pub bench_each : (triggers : List TriggerDesc) (states : List State) (sts sts' : List Station) → IsBench triggers states sts → length sts' ≡ length sts
    → ((i : ℕ) → KeepsPlace (station_in sts i) (station_in sts' i))
    → IsBench triggers states sts'
bench_each triggers states sts sts' bench same kept = record {
  few = bench.few;
  devices = rw same bench.devices;
  places = bench.places;
  each = λ t s e. record { attached = (bench.each t s e).attached ∙ sym (places_each t 0 sts sts' same kept); idle = (bench.each t s e).idle };
}

-- ---- averaging devices

gathered_some : (size : ℕ) (shape : ShapeRecord) (c : Capture) (st : Station) → KeepsInner st (station_after_gathering size shape (Some c) st)
gathered_some size shape c st = search (rules, inner_kept, is_empty-map, inner_mapped, offered_inner)

gathered_kept : (size : ℕ) (shape : ShapeRecord) (o : Option Capture) (st : Station) → KeepsInner st (station_after_gathering size shape o st)
gathered_kept size shape None st = inner_kept st st refl refl refl refl (λ j. refl)
gathered_kept size shape (Some c) st = gathered_some size shape c st

-- ---- captures of the device whose entry is handled

entry_more : (o : Option Handed) (shape : ShapeRecord) (st : Station) (c : Option Capture) → capture_in Input shape o st ≡ c
    → (elim c [ None ↦ st.captures | Some x ↦ st.captures + 1 ]) ≡ (station_after_entry Input shape o st).captures
entry_more o shape st c is = search rules

-- ---- all devices

entry_at_kept : (o : Option Handed) (c : Option Capture) (dev : ℕ) (kind : Kind) (shape : ShapeRecord) (j : ℕ) (st : Station)
    → KeepsInner st (entry_at o c dev kind shape j st)
entry_at_kept o c dev kind shape j st = search (rules, current_kept, entry_kept, gathered_kept)

module _ (front : Front) (o : Option Handed) (dev : ℕ) (m : Machine) where
  abbrev handled_at : ℕ → Station → Station
  handled_at j st = entry_at o (capture_at front o dev m) dev (kind_at front j) (shape_at front j) j st

  handled_kept : (i : ℕ) → KeepsInner (station_in m.stations i) (station_in (machine_after_entry front o dev m).stations i)
  handled_kept i =
      each_from KeepsInner handled_at (inner_kept no_station no_station refl refl refl refl (λ j. refl)) 0 m.stations
      (λ j st at. entry_at_kept o (capture_at front o dev m) dev (kind_at front (0 + j)) (shape_at front (0 + j)) (0 + j) st) i

  pub bench_handled : (triggers : List TriggerDesc) (states : List State) → IsBench triggers states m.stations
      → IsBench triggers states (machine_after_entry front o dev m).stations
  bench_handled triggers states bench = search (rules, bench_each, length_from, handled_kept)

  -- a station afterwards
  there_from : (f : ℕ → Station → Station) (n : ℕ) (sts : List Station) (i : ℕ) (st : Station) → slice_get sts i ≡ Some st
      → station_in (map_from f n sts) i ≡ f (n + i) st
  there_from f n [] i st at = absurd (cc)
  there_from f n (x ∷ xs) zero st at = search rules
  there_from f n (x ∷ xs) (suc i) st at = there_from f (suc n) xs i st at ∙ ap (λ (k : ℕ). f k st) (let e : suc n + i ≡ n + suc i = omega arith in e)

  after_is : (i : ℕ) (st : Station) → slice_get m.stations i ≡ Some st → station_in (machine_after_entry front o dev m).stations i ≡ handled_at i st
  after_is i st at = there_from handled_at 0 m.stations i st at ∙ ap (λ (k : ℕ). handled_at k st) (let e : 0 + i ≡ i = omega arith in e)

  -- an averaging device makes a mean only after a capture of its base
  module _ (j base window : ℕ) (st b : Station) (is : kind_at front j ≡ Average base window) (input : kind_at front base ≡ Input)
      (at : slice_get m.stations j ≡ Some st) (under : slice_get m.stations base ≡ Some b)
      (fewer : st.captures ≤ b.captures) where
    own_is : handled_at j st ≡ cond (dev == base) (station_after_gathering window (shape_at front j) (capture_at front o dev m) st) st
    own_is = ap (λ (kind : Kind). entry_at o (capture_at front o dev m) dev kind (shape_at front j) j st) is

    base_is : handled_at base b ≡ cond (dev == base) (station_after_entry Input (shape_at front base) o b) b
    base_is = ap (λ (kind : Kind). entry_at o (capture_at front o dev m) dev kind (shape_at front base) base b) input

    capture_is : dev ≡ base → capture_at front o dev m ≡ capture_in Input (shape_at front base) o b
    unfolding station_at
    capture_is e = cc

    rises : (c : Option Capture) → (elim c [ None ↦ b.captures | Some x ↦ b.captures + 1 ]) ≡ (station_after_entry Input (shape_at front base) o b).captures
        → (station_after_gathering window (shape_at front j) c st).captures ≤ (station_after_entry Input (shape_at front base) o b).captures
    rises c more = search rules

    fewer_after : (handled_at j st).captures ≤ (handled_at base b).captures
    fewer_after = search (rules, own_is, base_is, same_number, rises, entry_more, capture_is)

    most_after : b.captures ≤ 2 ^ 64 - 1 → (dev ≡ base → is_last b.captures ≡ false) → (handled_at base b).captures ≤ 2 ^ 64 - 1
    most_after most goes_on = search rules

  there_is : (sts : List Station) (i : ℕ) → i < length sts → slice_get sts i ≡ Some (station_in sts i)
  there_is [] i less = absurd (omega (arith, less))
  there_is (x ∷ xs) zero less = refl
  there_is (x ∷ xs) (suc i) less = there_is xs i (omega (arith, less))

  pub averaged_handled : (triggers first : ℕ) → IsAveraged triggers first front.devices m.stations → length m.stations ≡ length front.devices
      → (kind_at front dev ≡ Input → is_last (station_in m.stations dev).captures ≡ false)
      → IsAveraged triggers first front.devices (machine_after_entry front o dev m).stations
  unfolding kind_at
  averaged_handled triggers first a many goes_on =
      averaged_each triggers first front.devices m.stations (machine_after_entry front o dev m).stations a handled_kept
      (λ j base window is. each j base window is)
    where
      each : (j base window : ℕ) → kind_in front.devices j ≡ Average base window
          → ((station_in (machine_after_entry front o dev m).stations j).captures
          ≤ (station_in (machine_after_entry front o dev m).stations base).captures)
          × ((station_in (machine_after_entry front o dev m).stations base).captures ≤ 2 ^ 64 - 1)
      each j base window is =
          let its = a.bases.bases j base window is in
          let own = a.inners j base window is in
          let st = station_in m.stations j in
          let b = station_in m.stations base in
          let less = average_there front.devices j base window is in
          let within = a.bases.within in
          let before = its.before in
          let at : slice_get m.stations j ≡ Some st = there_is m.stations j (omega (arith, less, many)) in
          let under : slice_get m.stations base ≡ Some b = there_is m.stations base (omega (arith, within, before, many)) in
          rw (after_is j st at, after_is base b under) (
            fewer_after j base window st b is its.input at under own.fewer,
            most_after j base window st b is its.input at under own.fewer own.most
                (λ e. subst (λ (k : ℕ). is_last (station_in m.stations k).captures ≡ false) e
                (goes_on (ap (λ (k : ℕ). kind_in front.devices k) e ∙ its.input))),
          )

-- ---- unpluggings

module _ (front : Front) (dev : ℕ) (m : Machine) where
  unplugged_place : (i : ℕ) → KeepsPlace (station_in m.stations i) (station_in (machine_after_unplugging front dev m).stations i)
  unplugged_place i =
      each_from KeepsPlace (unplugs front dev) (record { attached = λ t. refl; attachment = refl }) 0 m.stations
      (λ j st at. by j st (is_unplugged_by (kind_at front (0 + j)) dev (0 + j))) i
    where
      by : (j : ℕ) (st : Station) (b : Bool) → KeepsPlace st (cond b (with_site unplugged st) st)
      by j st b = search rules

  pub bench_unplugged : (triggers : List TriggerDesc) (states : List State) → IsBench triggers states m.stations
      → IsBench triggers states (machine_after_unplugging front dev m).stations
  bench_unplugged triggers states bench = search (rules, bench_each, length_from, unplugged_place)

  gone_with : (kind : Kind) (j : ℕ) → Station → Station
  gone_with kind j st = cond (is_unplugged_by kind dev j) (with_site unplugged st) st

  unplugged_at : (i : ℕ) → station_in (machine_after_unplugging front dev m).stations i ≡ gone_with (kind_at front i) i (station_in m.stations i)
  unfolding gone_with
  unplugged_at i =
      from_at (unplugs front dev) (λ j. none j (is_unplugged_by (kind_at front j) dev j)) 0 m.stations i
      ∙ ap (λ (k : ℕ). unplugs front dev k (station_in m.stations i)) (let e : 0 + i ≡ i = omega arith in e)
    where
      none : (j : ℕ) (b : Bool) → cond b (with_site unplugged no_station) no_station ≡ no_station
      none j b = search rules

      from_at : (f : ℕ → Station → Station) → ((j : ℕ) → f j no_station ≡ no_station) → (n : ℕ) (sts : List Station) (i : ℕ)
          → station_in (map_from f n sts) i ≡ f (n + i) (station_in sts i)
      from_at f nothing n [] i = sym (nothing (n + i))
      from_at f nothing n (x ∷ xs) zero = ap (λ (k : ℕ). f k x) (let e : n ≡ n + 0 = omega arith in e)
      from_at f nothing n (x ∷ xs) (suc i) = search (rules, from_at f nothing (suc n) xs i)

  pub averaged_unplugged : (triggers first : ℕ) → IsAveraged triggers first front.devices m.stations
      → IsAveraged triggers first front.devices (machine_after_unplugging front dev m).stations
  unfolding kind_at gone_with
  averaged_unplugged triggers first a = record {
    bases = a.bases;
    hosted = search (rules, unplugged_at);
    inners = λ j base window is. inner j base window is;
  }
    where
      host : (b : Bool) (st : Station) → is_hosted triggers st ≡ true → is_hosted triggers (cond b (with_site unplugged st) st) ≡ true
      host b st h = search rules

      both : (j : ℕ) (t : Bool) (b st : Station) → HasInner j b st → HasInner j (cond t (with_site unplugged b) b) (cond t (with_site unplugged st) st)
      both j t b st own = search rules

      inner : (j base window : ℕ) → kind_in front.devices j ≡ Average base window
          → HasInner j (station_in (machine_after_unplugging front dev m).stations base) (station_in (machine_after_unplugging front dev m).stations j)
      inner j base window is =
          let b = station_in m.stations base in
          let st = station_in m.stations j in
          let own : station_in (machine_after_unplugging front dev m).stations j ≡ cond (dev == base) (with_site unplugged st) st
          = unplugged_at j ∙ ap (λ (kind : Kind). cond (is_unplugged_by kind dev j) (with_site unplugged st) st) is in
          let its : station_in (machine_after_unplugging front dev m).stations base ≡ cond (dev == base) (with_site unplugged b) b
          = unplugged_at base ∙ ap (λ (kind : Kind). cond (is_unplugged_by kind dev base) (with_site unplugged b) b) (a.bases.bases j base window is).input in
          rw (own, its) (both j (dev == base) b st (a.inners j base window is))

-- ---- no entry

-- if there is no entry, nothing changes
pub nothing_handled : (front : Front) (dev : ℕ) (m : Machine) → machine_after_entry front None dev m ≡ m
nothing_handled front dev m = search (rules, kept_from, either)
