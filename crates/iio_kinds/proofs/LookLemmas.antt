-- What a look at an input device's thresholds and its unplugging make of it, and keep.
use Rattle.std.proofs.Common.{◌≡◌, Bool, refl, ap, cond, rules}
use Rattle.std.specs.Prelude.{ℤ}
use Rattle.iio_kfifo.specs.Queue.{Queue}
use Rattle.iio_device.specs.Device.{DeviceView, after_sense, at_site}
use Rattle.iio_device.specs.Site.{unplugged}
use Rattle.iio_core.specs.Moves.{station_after_look}
use Rattle.iio_kinds.specs.Acting.{Keeps, KeepsCaptures}
use Rattle.iio_kinds.specs.Station.{station_of}
use Rattle.iio_kinds.proofs.StandingLemmas.{standing}

-- ---- thresholds

sense_by : (b : Bool) (v v' w : DeviceView Queue) → v' ≡ cond b w v → station_of v' ≡ cond b (station_of w) (station_of v)
sense_by b v v' w e = search rules

pub sense_station : (t : ℤ) (v v' : DeviceView Queue) → v' ≡ after_sense t v → station_of v' ≡ station_after_look v.standing.shape t (station_of v)
sense_station t v v' e = sense_by v.site.plugged v v' _ e

sense_keeps_by : (b : Bool) (v v' w : DeviceView Queue) → w.name ≡ v.name → w.number ≡ v.number → w.standing.shape ≡ v.standing.shape → v' ≡ cond b w v
    → Keeps v v'
sense_keeps_by b v v' w name number shape e = search rules

pub sense_keeps : (t : ℤ) (v v' : DeviceView Queue) → v' ≡ after_sense t v → Keeps v v'
sense_keeps t v v' e = sense_keeps_by v.site.plugged v v' _ refl refl refl e

sense_captures_by : (b : Bool) (v v' w : DeviceView Queue) → w.standing.captures ≡ v.standing.captures → v' ≡ cond b w v
    → v'.standing.captures ≡ v.standing.captures
sense_captures_by b v v' w same e = search rules

pub sense_captures : (t : ℤ) (v v' : DeviceView Queue) → v' ≡ after_sense t v → v'.standing.captures ≡ v.standing.captures
sense_captures t v v' e = sense_captures_by v.site.plugged v v' _ refl e

-- ---- unplugging

pub unplug_keeps : (v v' : DeviceView Queue) → v' ≡ at_site (unplugged v.site) v → Keeps v v'
unplug_keeps v v' e = search rules

pub sense_keeps_all : (t : ℤ) (v v' : DeviceView Queue) → v' ≡ after_sense t v → KeepsCaptures v v'
sense_keeps_all t v v' e = record { device = sense_keeps t v v' e; captures = sense_captures t v v' e }

pub unplug_keeps_all : (v v' : DeviceView Queue) → v' ≡ at_site (unplugged v.site) v → KeepsCaptures v v'
unplug_keeps_all v v' e = record { device = unplug_keeps v v' e; captures = ap (λ (x : DeviceView Queue). x.standing.captures) e }
