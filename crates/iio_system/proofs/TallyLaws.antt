-- What the devices counted is the summary of the history.
use Rattle.std.proofs.Common.{◌≡◌, ℕ, ◌+◌, ◌-◌, ◌%◌, ◌^◌, List, [], ◌∷◌, map, refl, sym, ap, ◌∙◌, cond, rules, arith}
use Rattle.std.proofs.lemmas.Grind.{common_steps}
use Rattle.std.specs.List.{sum_by}
use Rattle.std.proofs.lemmas.List.Sums.{sum_by-cons}
use Rattle.iio_desc.specs.Description.{DeviceHead, heads_of}
use Rattle.iio_desc.specs.Kind.{Kind, is_output}
use Rattle.iio_sensor.specs.Driver.{Driver}
use Rattle.iio_device.specs.declared.plug.Plug.{Plug}
use Rattle.iio_core.specs.Front.{Front}
use Rattle.iio_core.specs.Machine.{Machine, Member, Station}
use Rattle.iio_history.specs.Event.{Event}
use Rattle.iio_history.specs.Registry.{Setup}
use Rattle.iio_history.specs.Told.{Seat, Station as ToldStation, told}
use Rattle.iio_history.specs.Bench.{bench_by, kind_of_head, kind_of_station, names_of, numbered}
use Rattle.iio_history.specs.Summary.{captures_at, overruns_at, summary_in, summary_of}
use Rattle.iio_kinds.specs.declared.any_device.AnyDevice.{AnyDevice}
use Rattle.iio_kinds.specs.declared.any_device.AnyDevice.TheVariants as any
use Rattle.iio_system.specs.declared.system.System.{System}
use Rattle.iio_kinds.specs.declared.tally.Tally.{Tally}
use Rattle.iio_system.specs.Standing.{StandsFor}
use Rattle.iio_kinds.specs.Inner.{with_inner_name}
use Rattle.iio_kinds.specs.Station.{any_front, any_station, captures_by, member_of}
use Rattle.iio_kinds.specs.Tally.{bytes_by, devices_tally, overruns_by, scans_by, shown}
use Rattle.iio_system.specs.Tally.{tally_of}
use Rattle.iio_system.proofs.MoveLaws.{machine_told}

-- ---- sums

sum_map : {A B : Type 0} (f : B → ℕ) (g : A → B) (xs : List A) → sum_by f (map g xs) ≡ sum_by (λ x. f (g x)) xs
sum_map f g [] = refl
sum_map f g (x ∷ xs) = sum_by-cons f (g x) (map g xs) ∙ ap (λ (n : ℕ). f (g x) + n) (sum_map f g xs) ∙ sym (sum_by-cons (λ y. f (g y)) x xs)

abbrev overruns_of : Station → ℕ
overruns_of st = st.totals.lost + sum_by (λ (x : Member). x.lost) st.members

module _ {X : Type 0} {V : X → Type 0} where
  -- ---- all of them

  abbrev kind_by : AnyDevice X V → Kind
  kind_by d = (any_front d).kind

  -- devices and stations that are told alike, and are of the same kinds, count alike
  sum_told : (driver : Plug X V → Driver) (names : List (List ℕ)) (f : AnyDevice X V → ℕ) (g : ToldStation → ℕ)
      → ((d : AnyDevice X V) (st : ToldStation) → any_station driver d ≡ bench_by names st → kind_by d ≡ st.kind → f d ≡ g st)
      → (ds : List (AnyDevice X V)) (sts : List ToldStation) → map (any_station driver) ds ≡ map (bench_by names) sts
      → map kind_of_head (map any_front ds) ≡ map kind_of_station sts → sum_by f ds ≡ sum_by g sts
  sum_told driver names f g alike [] [] same kinds = refl
  sum_told driver names f g alike [] (st ∷ sts) same kinds = absurd (cc)
  sum_told driver names f g alike (d ∷ ds) [] same kinds = absurd (cc)
  sum_told driver names f g alike (d ∷ ds) (st ∷ sts) same kinds =
      let here : any_station driver d ≡ bench_by names st = cc in
      let rest : map (any_station driver) ds ≡ map (bench_by names) sts = cc in
      let kind : kind_by d ≡ st.kind = cc in
      let others : map kind_of_head (map any_front ds) ≡ map kind_of_station sts = cc in
      sum_by-cons f d ds ∙ ap (λ (n : ℕ). n + sum_by f ds) (alike d st here kind)
      ∙ ap (λ (n : ℕ). g st + n) (sum_told driver names f g alike ds sts rest others) ∙ sym (sum_by-cons g st sts)

  captures_told : (driver : Plug X V → Driver) (names : List (List ℕ)) (d : AnyDevice X V) (st : ToldStation) → any_station driver d ≡ bench_by names st
      → kind_by d ≡ st.kind → captures_by d ≡ captures_at st
  captures_told driver names d st same kind = search rules

  scans_told : (driver : Plug X V → Driver) (names : List (List ℕ)) (d : AnyDevice X V) (st : ToldStation) → any_station driver d ≡ bench_by names st
      → kind_by d ≡ st.kind → scans_by d ≡ st.totals.scans
  scans_told driver names d st same kind = search rules

  bytes_told : (driver : Plug X V → Driver) (names : List (List ℕ)) (d : AnyDevice X V) (st : ToldStation) → any_station driver d ≡ bench_by names st
      → kind_by d ≡ st.kind → bytes_by d ≡ st.totals.bytes
  bytes_told driver names d st same kind = search rules

  overruns_told : (driver : Plug X V → Driver) (names : List (List ℕ)) (d : AnyDevice X V) (st : ToldStation) → any_station driver d ≡ bench_by names st
      → kind_by d ≡ st.kind → overruns_by d ≡ overruns_at st
  overruns_told driver names (any.Input d) st same kind =
      ap (λ (n : ℕ). d.device.core.totals.lost + n)
      (sym (sum_map (λ (m : Member). m.lost) (with_inner_name d.inners.items) (map member_of d.device.core.roster.members.items)
      ∙ sum_map (λ (m : Member). m.lost) member_of d.device.core.roster.members.items))
      ∙ ap overruns_of same
      ∙ ap (λ (n : ℕ). st.totals.lost + n) (sum_map (λ (m : Member). m.lost) numbered st.seats)
      ∙ ap (λ (k : Kind). cond (is_output k) 0 (st.totals.lost + sum_by (λ (x : Seat). x.queue.lost) st.seats)) kind
  overruns_told driver names (any.Average a) st same kind = grind (arith, common_steps)
  overruns_told driver names (any.Output x) st same kind = cc

  seen_tally : (driver : Plug X V → Driver) (names : List (List ℕ)) (ds : List (AnyDevice X V)) (sts : List ToldStation)
      → map (any_station driver) ds ≡ map (bench_by names) sts → map kind_of_head (map any_front ds) ≡ map kind_of_station sts
      → devices_tally ds ≡ tally_of (summary_in sts)
  seen_tally driver names ds sts same kinds =
      ap (λ (n : ℕ). (let t : Tally = record (devices_tally ds) { captures = shown n } in t))
      (sum_told driver names captures_by captures_at (captures_told driver names) ds sts same kinds)
      ∙ ap (λ (n : ℕ). (let t : Tally = record (devices_tally ds) { captures = shown (sum_by captures_at sts); scans = shown n } in t))
      (sum_told driver names scans_by (λ (st : ToldStation). st.totals.scans) (scans_told driver names) ds sts same kinds)
      ∙ ap (λ (n : ℕ). (let t : Tally = record (tally_of (summary_in sts)) { overruns = shown n; bytes = sum_by bytes_by ds % 2 ^ 64 } in t))
      (sum_told driver names overruns_by overruns_at (overruns_told driver names) ds sts same kinds)
      ∙ ap (λ (n : ℕ). (let t : Tally = record (tally_of (summary_in sts)) { bytes = n % 2 ^ 64 } in t))
      (sum_told driver names bytes_by (λ (st : ToldStation). st.totals.bytes) (bytes_told driver names) ds sts same kinds)

pub tally_told : {X : Type 0} {V : X → Type 0} (driver : Plug X V → Driver) (s : Setup) (h : List Event) (x : System X V) → StandsFor driver s h x
    → devices_tally x.bench.devices.items ≡ tally_of (summary_of s h)
tally_told driver s h x stands =
    let heads : map any_front x.bench.devices.items ≡ heads_of s.desc = ap (λ (f : Front). f.devices) stands.holds.front_is in
    seen_tally driver (names_of (told s h)) x.bench.devices.items (told s h).stations
    (ap (λ (m : Machine). m.stations) (machine_told driver s (told s h) x.bench x.connections.items stands.holds))
    (ap (λ (hs : List DeviceHead). map kind_of_head hs) heads ∙ sym stands.holds.bench.kinds)
