-- A new bench holds the state before the first step.
use Rattle.std.proofs.Common.{◌≡◌, ℕ, suc, zero, ◌+◌, ◌<◌, ◌≤◌, ◌*◌, ◌-◌, ◌^◌, List, [], ◌∷◌, ◌++◌, map, fold, length, slice_get, Some, option_map, All, refl, sym, ap, ◌∙◌, subst, arith, rules}
use Rattle.iio_sensor.specs.Driver.{Driver}
use Rattle.iio_mask.specs.Mask.{has}
use Rattle.iio_output.specs.Last.{first_last}
use Rattle.iio_desc.specs.declared.description.AttrDesc.{AttrDesc}
use Rattle.iio_desc.specs.Description.{AverageRecord, Description, DeviceHead, DeviceRecord, OutputRecord, average_head, average_shape, heads_of, input_head, output_head, shape_of_means}
use Rattle.iio_desc.specs.WellFormed.{IsWellFormed, IsWellFormedAverage, IsWellFormedDevice, IsWellFormedOutput}
use Rattle.iio_device.specs.declared.plug.Plug.{Plug}
use Rattle.iio_device.specs.Site.{Site, new_site, with_attr}
use Rattle.iio_device.specs.Totals.{no_totals}
use Rattle.iio_core.specs.Machine.{Station as MachineStation}
use Rattle.iio_core.specs.Front.{first_front}
use Rattle.iio_history.specs.Who.{Who}
use Rattle.iio_core.specs.Lists.{map_from}
use Rattle.iio_history.specs.Registry.{Device, Setup}
use Rattle.iio_history.specs.Fold.{first_average, first_device, first_devices, first_driver, first_output}
use Rattle.iio_history.specs.Told.{station_told, told}
use Rattle.iio_history.specs.Bench.{Every, HasDeviceSizes, bench_by, machine_of as machine_told, site_by}
use Rattle.iio_history.specs.BenchLaw.{CanJoinMore}
use Rattle.iio_history.proofs.BenchKept.{first_bench, room_lasts}
use Rattle.iio_history.proofs.BenchSites.{written_same}
use Rattle.iio_bench.specs.declared.bench.Bench.{Bench}
use Rattle.iio_bench.specs.Bench.{front_of, machine_of}
use Rattle.iio_bench.specs.First.{first_machine, first_station}
use Rattle.iio_kinds.specs.MeanStation.{first_mean_station}
use Rattle.iio_kinds.specs.OutStation.{first_out_station}
use Rattle.iio_system.specs.Standing.{Holds}

-- ---- the devices of a description that is well formed have channels

some_in : {A : Type 0} (P : A → Type 0) (head : A → DeviceHead) → ((x : A) → P x → 0 < length (head x).shape.channels) → (xs : List A) → All P xs
    → (rest : List DeviceHead)
    → All (λ (d : DeviceHead). 0 < length d.shape.channels) rest → All (λ (d : DeviceHead). 0 < length d.shape.channels) (map head xs ++ rest)
some_in P head each [] all rest more i d within = more i d within
some_in P head each (x ∷ xs) all rest more zero d within = each x (all 0 x (omega arith))
some_in P head each (x ∷ xs) all rest more (suc i) d within =
    some_in P head each xs (λ j e inside. all (suc j) e (omega (arith, inside))) rest more i d (omega (arith, within))

-- an averaging device has its base's channels
average_some : (devices : List DeviceRecord) (x : AverageRecord) → x.base < length devices → All (λ (d : DeviceRecord). 0 < length d.shape.channels) devices
    → 0 < length (average_shape devices x).channels
average_some devices x within all = by devices x.base within all
  where
    by : (ds : List DeviceRecord) (k : ℕ) → k < length ds → All (λ (d : DeviceRecord). 0 < length d.shape.channels) ds
        → 0 < length (shape_of_means (option_map (λ (d : DeviceRecord). d.shape) (slice_get ds k))).channels
    by [] k within all = absurd (omega (arith, within))
    by (d ∷ ds) zero within all = all 0 d (omega arith)
    by (d ∷ ds) (suc k) within all = by ds k (omega (arith, within)) (λ i e inside. all (suc i) e (omega (arith, inside)))

averages_some : (devices : List DeviceRecord) (xs : List AverageRecord) → All (IsWellFormedAverage (length devices)) xs
    → All (λ (d : DeviceRecord). 0 < length d.shape.channels) devices
    → All (λ (d : DeviceHead). 0 < length d.shape.channels) (map (average_head devices) xs)
averages_some devices [] all some i d within = absurd (omega (arith, within))
averages_some devices (x ∷ xs) all some zero d within = average_some devices x (all 0 x (omega arith)).over some
averages_some devices (x ∷ xs) all some (suc i) d within =
    averages_some devices xs (λ j e inside. all (suc j) e (omega (arith, inside))) some i d (omega (arith, within))

pub some_channels : (drivers : ℕ) (desc : Description) → IsWellFormed drivers desc → All (λ (d : DeviceHead). 0 < length d.shape.channels) (heads_of desc)
some_channels drivers desc formed =
    some_in (IsWellFormedDevice (length desc.triggers) drivers) input_head (λ x is. is.some) desc.devices formed.sound _
    (some_in (IsWellFormedOutput (length desc.triggers)) output_head (λ x is. is.some) desc.outputs formed.outputs _
    (averages_some desc.devices desc.averages formed.averages (λ i d within. (formed.sound i d within).some)))

-- ---- devices

written_all : (site : Site Who) (attrs : List AttrDesc) → site_by [] (fold with_attr site attrs) ≡ fold with_attr (site_by [] site) attrs
written_all site [] = refl
written_all site (a ∷ attrs) = simp (written_same, written_all (with_attr site a) attrs)

-- a device of a bench is told as it is
pub record IsFirst (s : Setup) (d : Device) (st : MachineStation) : Type 0 where
  pub site : site_by [] d.site ≡ st.site
  pub window : d.window ≡ st.window
  pub last : first_last d.shape ≡ st.last
  pub members : d.members ≡ []
  pub rest : st ≡ record { next = 0; captures = 0; totals = no_totals; members = []; site = st.site; last = st.last; window = st.window }

abbrev AreFirst : Setup → List Device → List MachineStation → Type 0
AreFirst s [] [] = Unit {0}
AreFirst s (d ∷ ds) (st ∷ sts) = IsFirst s d st × AreFirst s ds sts
AreFirst s ds sts = ⊥

input_first : (s : Setup) (d : DeviceRecord) → IsFirst s (first_device s d) (first_station s.drivers d)
input_first s d = record { site = written_all (new_site d.shape d.trigger (first_driver s d)) d.attrs; window = refl; last = refl; members = refl; rest = refl }

output_first : (s : Setup) (x : OutputRecord) → IsFirst s (first_output x) (first_out_station x)
output_first s x = record { site = refl; window = refl; last = refl; members = refl; rest = refl }

average_first : (s : Setup) (x : AverageRecord) → IsFirst s (first_average s.desc.devices x) (first_mean_station s.desc.devices x)
average_first s x = record { site = refl; window = refl; last = refl; members = refl; rest = refl }

are_averages : (s : Setup) (means : List AverageRecord) → AreFirst s (map (first_average s.desc.devices) means) (map (first_mean_station s.desc.devices) means)
are_averages s [] = tt
are_averages s (x ∷ xs) = (average_first s x, are_averages s xs)

are_outputs : (s : Setup) (xs : List OutputRecord) (means : List AverageRecord)
    → AreFirst s (map first_output xs ++ map (first_average s.desc.devices) means) (map first_out_station xs ++ map (first_mean_station s.desc.devices) means)
are_outputs s [] means = are_averages s means
are_outputs s (x ∷ xs) means = (output_first s x, are_outputs s xs means)

are_first : (s : Setup) (ds : List DeviceRecord) (xs : List OutputRecord) (means : List AverageRecord)
    → AreFirst s (map (first_device s) ds ++ (map first_output xs ++ map (first_average s.desc.devices) means))
    (map (first_station s.drivers) ds ++ (map first_out_station xs ++ map (first_mean_station s.desc.devices) means))
are_first s [] xs means = are_outputs s xs means
are_first s (d ∷ ds) xs means = (input_first s d, are_first s ds xs means)

station_first : (s : Setup) (k : ℕ) (d : Device) (st : MachineStation) → slice_get (first_devices s) k ≡ Some d → IsFirst s d st
    → bench_by [] (station_told s [] k d) ≡ st
station_first s k d st at is = search rules

stations_first : (s : Setup) (n : ℕ) (ds : List Device) (sts : List MachineStation) → ((k : ℕ) → slice_get (first_devices s) (n + k) ≡ slice_get ds k)
    → AreFirst s ds sts → map (bench_by []) (map_from (station_told s []) n ds) ≡ sts
stations_first s n [] [] at are = refl
stations_first s n [] (st ∷ sts) at are = absurd are
stations_first s n (d ∷ ds) [] at are = absurd are
stations_first s n (d ∷ ds) (st ∷ sts) at are =
    let here : slice_get (first_devices s) n ≡ Some d = ap (λ (k : ℕ). slice_get (first_devices s) k) (let e : n ≡ n + 0 = omega arith in e) ∙ at 0 in
    ap (λ (x : MachineStation). x ∷ map (bench_by []) (map_from (station_told s []) (suc n) ds)) (station_first s n d st here are.0)
    ∙ ap (λ (xs : List MachineStation). st ∷ xs)
    (stations_first s (suc n) ds sts (λ k. ap (λ (i : ℕ). slice_get (first_devices s) i) (let e : suc n + k ≡ n + suc k = omega arith in e) ∙ at (suc k)) are.1)

machine_first : (s : Setup) → first_machine s.drivers s.desc ≡ machine_told (told s [])
machine_first s =
    sym (ap (λ (sts : List MachineStation). record (first_machine s.drivers s.desc) { stations = sts })
    (stations_first s 0 (first_devices s) (first_machine s.drivers s.desc).stations
    (λ k. ap (λ (i : ℕ). slice_get (first_devices s) i) (let e : 0 + k ≡ k = omega arith in e)) (are_first s s.desc.devices s.desc.outputs s.desc.averages)))

pub room_first : (s : Setup) (used : ℕ) → used ≡ 0 → Every (CanJoinMore (2 ^ 64 - 1 - 32 * used)) (told s []).stations
room_first s used none = subst (λ (n : ℕ). Every (CanJoinMore (2 ^ 64 - 1 - 32 * n)) (told s []).stations) (sym none) (room_lasts s).0

module _ {X : Type 0} {V : X → Type 0} (driver : Plug X V → Driver) where
  pub holds_first : (s : Setup) (b : Bench X V) → front_of b ≡ first_front s.desc → machine_of driver b ≡ first_machine s.drivers s.desc
      → Every HasDeviceSizes (heads_of s.desc) → Holds driver s (told s []) b []
  holds_first s b front machine sizes = search (rules, machine_first, first_bench)

pub none_within : {D : Type 0} (f : D → ℕ) (n : ℕ) (ds : List D) → All (λ (d : D). f d ≡ 0) ds → All (λ (c : ℕ). c ≤ n) (map f ds)
none_within f n [] none i c within = absurd (omega (arith, within))
none_within f n (d ∷ ds) none zero c within = let e = none 0 d (omega arith) in omega (arith, e)
none_within f n (d ∷ ds) none (suc i) c within = none_within f n ds (λ k e h. none (suc k) e (omega (arith, h))) i c (omega (arith, within))
