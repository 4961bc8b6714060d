-- The averaging devices of a bench and the others.
use Rattle.std.proofs.Common.{◌≡◌, ℕ, zero, suc, ◌+◌, ◌<◌, Bool, true, false, cond, All, List, [], ◌∷◌, ◌++◌, map, length, take, drop, slice_get, Some, refl, sym, ap, subst, ◌∙◌, arith, rules}
use Rattle.std.specs.Option.{option_map_or}
use Rattle.iio_sensor.specs.Driver.{Driver}
use Rattle.iio_desc.specs.Kind.{is_average, is_unplugged_by}
use Rattle.iio_device.specs.declared.plug.Plug.{Plug}
use Rattle.iio_core.specs.Machine.{Station, with_site}
use Rattle.iio_device.specs.Site.{unplugged}
use Rattle.iio_kinds.specs.declared.any_device.AnyDevice.{AnyDevice}
use Rattle.iio_bench.specs.Averages.{HasBases}
use Rattle.iio_kinds.specs.Station.{KeepsFront, any_front, any_station, full_scan_by}
use Rattle.iio_bench.specs.Together.{AreGathered, IsGathered, IsUnplugged, scan_at}
use Rattle.iio_bench.proofs.OpenLemmas.{kind_there}

pub all_back : {A : Type 0} (P : A → Type 0) (xs ys : List A) → All P (xs ++ ys) → All P ys
all_back P [] ys all = all
all_back P (x ∷ xs) ys all = all_back P xs ys (λ j e inside. all (suc j) e (omega (arith, inside)))

get_front : {A : Type 0} (xs ys : List A) (i : ℕ) (x : A) → slice_get xs i ≡ Some x → slice_get (xs ++ ys) i ≡ Some x
get_front [] ys i x at = absurd (cc)
get_front (z ∷ zs) ys zero x at = at
get_front (z ∷ zs) ys (suc i) x at = get_front zs ys i x at

there_of : {A : Type 0} (xs : List A) (i : ℕ) (x : A) → slice_get xs i ≡ Some x → i < length xs
there_of [] i x at = absurd (cc)
there_of (z ∷ zs) zero x at = omega arith
there_of (z ∷ zs) (suc i) x at = let more = there_of zs i x at in omega (arith, more)

-- what was written over a whole vector is all of it
pub refilled : {A : Type 0} (n : ℕ) (ws old : List A) → length ws ≡ n → length old ≡ n → take n (ws ++ drop (length ws) old) ≡ ws
refilled zero [] [] many same = refl
refilled zero [] (x ∷ old) many same = absurd (omega (arith, same))
refilled zero (w ∷ ws) old many same = absurd (omega (arith, many))
refilled (suc n) [] old many same = absurd (omega (arith, many))
refilled (suc n) (w ∷ ws) [] many same = absurd (omega (arith, same))
refilled {A = A} (suc n) (w ∷ ws) (x ∷ old) many same = ap (λ (zs : List A). w ∷ zs) (refilled n ws old (omega (arith, many)) (omega (arith, same)))

module _ {X : Type 0} {V : X → Type 0} (drive : Plug X V → Driver) (base : ℕ) (scan : List ℕ) where
  stays : (d : AnyDevice X V) → is_average (any_front d).kind ≡ false → IsGathered drive base scan d d
  stays d plain = search rules

  beside : (os xs ys : List (AnyDevice X V)) → ((i : ℕ) (o : AnyDevice X V) → slice_get os i ≡ Some o → is_average (any_front o).kind ≡ false)
      → AreGathered drive base scan xs ys → AreGathered drive base scan (os ++ xs) (os ++ ys)
  beside [] xs ys plain all = all
  beside (o ∷ os) xs ys plain all =
      let rest = beside os xs ys (λ i p at. plain (suc i) p at) all in
      record { same = ap (λ (n : ℕ). suc n) rest.same; each = λ i d d' at at'. by rest i d d' at at' }
    where
      by : AreGathered drive base scan (os ++ xs) (os ++ ys)
          → (i : ℕ) (d d' : AnyDevice X V) → slice_get (o ∷ (os ++ xs)) i ≡ Some d → slice_get (o ∷ (os ++ ys)) i ≡ Some d' → IsGathered drive base scan d d'
      by rest zero d d' at at' =
          let one : o ≡ d = cc in
          let two : o ≡ d' = cc in
          subst (λ (z : AnyDevice X V). IsGathered drive base scan z d') one
          (subst (λ (z : AnyDevice X V). IsGathered drive base scan o z) two (stays o (plain zero o refl)))
      by rest (suc i) d d' at at' = rest.each i d d' at at'

  -- the averaging devices come after the others
  pub gathered_beside : (first : ℕ) (os xs ys old : List (AnyDevice X V)) → old ≡ os ++ xs → length os ≡ first → HasBases first (map any_front old)
      → AreGathered drive base scan xs ys → AreGathered drive base scan old (os ++ ys)
  gathered_beside first os xs ys old is many bases all =
      subst (λ (ds : List (AnyDevice X V)). AreGathered drive base scan ds (os ++ ys)) (sym is)
      (beside os xs ys (λ i o at. (
      let there : slice_get old i ≡ Some o = ap (λ (ds : List (AnyDevice X V)). slice_get ds i) is ∙ get_front os xs i o at in
      let less = there_of os i o at in
      sym (ap is_average (kind_there old i o there)) ∙ bases.others i (omega (arith, less, many))
      )) all)

-- the scan that is kept at a base
pub scan_before : {X : Type 0} {V : X → Type 0} (base : ℕ) (os xs old : List (AnyDevice X V)) (d : AnyDevice X V) → old ≡ os ++ xs → slice_get os base ≡ Some d
    → full_scan_by d ≡ scan_at base old
scan_before {X = X} {V = V} base os xs old d is at =
    sym (ap (λ (ds : List (AnyDevice X V)). scan_at base ds) is ∙ ap (λ o. option_map_or full_scan_by o []) (get_front os xs base d at))

-- ---- unpluggings

module _ {X : Type 0} {V : X → Type 0} (drive : Plug X V → Driver) (dev i : ℕ) (x x' : AnyDevice X V) where
  abbrev gone_by : Bool → Station
  gone_by goes = cond goes (with_site unplugged (any_station drive x)) (any_station drive x)

  -- a device that is unplugged
  pub goes_too : is_unplugged_by (any_front x).kind dev i ≡ true → any_station drive x' ≡ with_site unplugged (any_station drive x) → KeepsFront x x'
      → IsUnplugged drive dev i x x'
  goes_too goes station keeps = record { keeps = keeps; station = station ∙ sym (ap (λ (b : Bool). gone_by b) goes) }

-- a device that stays
pub stays_here : {X : Type 0} {V : X → Type 0} (drive : Plug X V → Driver) (dev i : ℕ) (x : AnyDevice X V) → is_unplugged_by (any_front x).kind dev i ≡ false
    → IsUnplugged drive dev i x x
stays_here drive dev i x stays = search rules
