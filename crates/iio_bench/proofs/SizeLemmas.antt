-- Scans have bytes.
use Rattle.std.proofs.Common.{◌≡◌, ℕ, suc, zero, ◌<◌, ◌≤◌, ◌-◌, List, [], ◌∷◌, map, length, slice_index_or, All, sym, ap, arith}
use Rattle.iio_scan_type.specs.Format.{size_of}
use Rattle.iio_layout.specs.declared.channel.Channel.{Channel}
use Rattle.iio_desc.specs.Description.{DeviceHead}
use Rattle.iio_history.specs.Bench.{Every, HasDeviceSizes}
use Rattle.iio_history.proofs.BenchSizes.{sizes_from}
use Rattle.iio_bench.proofs.OpenLemmas.{full_has}

pub every_size : (hs : List DeviceHead) → All (λ (d : DeviceHead). 0 < length d.shape.channels) hs
    → All (λ (d : DeviceHead). All (λ (channel : Channel). 1 ≤ size_of channel.ty) d.shape.channels) hs → Every HasDeviceSizes hs
every_size [] some all = tt
every_size (d ∷ ds) some all = (
  record { sizes = sizes_from d.shape (all 0 d (omega arith)); full = full_has d.shape (some 0 d (omega arith)) },
  every_size ds (λ i e within. some (suc i) e (omega (arith, within))) (λ i e within. all (suc i) e (omega (arith, within))),
)

-- what is seen of an element at its place
pub front_at : {A B : Type 0} (f : A → B) (xs : List A) (i : ℕ) (x : A) (d : B) → x ≡ slice_index_or xs i x → i < length xs
    → slice_index_or (map f xs) i d ≡ f x
front_at f [] i x d is within = absurd (omega arith)
front_at f (y ∷ ys) zero x d is within = ap f (sym is)
front_at f (y ∷ ys) (suc i) x d is within = front_at f ys i x d is (omega (arith, within))
