-- Sums of what devices counted.
use Rattle.std.proofs.Common.{◌≡◌, ℕ, ◌+◌, ◌-◌, ◌%◌, ◌^◌, ◌<◌, List, length, take, get_or, arith}
use Rattle.std.proofs.lemmas.Grind.{common_steps}
use Rattle.iio_kinds.specs.declared.any_device.AnyDevice.{AnyDevice}
use Rattle.iio_kinds.specs.declared.tally.Tally.{Tally}
use Rattle.iio_kinds.specs.Station.{captures_by}
use Rattle.iio_kinds.specs.Tally.{bytes_by, devices_tally, overruns_by, scans_by, shown}

-- ---- sums

module _ {X : Type 0} {V : X → Type 0} where
  -- ---- device by device

  pub device_more : (ds : List (AnyDevice X V)) (i : ℕ) (d : AnyDevice X V) (t t' : Tally) → i < length ds → d ≡ get_or ds i d → t ≡ devices_tally (take i ds)
      → t'.captures ≡ shown (t.captures + captures_by d) → t'.scans ≡ shown (t.scans + shown (scans_by d))
      → t'.overruns ≡ shown (t.overruns + shown (overruns_by d))
      → t'.bytes ≡ (t.bytes + bytes_by d % 2 ^ 64) % 2 ^ 64 → t' ≡ devices_tally (take (i + 1) ds)
  device_more ds i d t t' within at so_far captures scans overruns bytes = grind (arith, common_steps)
