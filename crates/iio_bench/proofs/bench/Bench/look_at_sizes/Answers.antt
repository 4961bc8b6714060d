use Rattle.std.proofs.Common.{◌<◌, All, length, map, subst, sym}
use Rattle.iio_desc.specs.Description.{DeviceHead}
use Rattle.iio_history.specs.Bench.{Every, HasDeviceSizes}
use Rattle.iio_kinds.specs.Station.{any_front}
use Rattle.iio_bench.proofs.bench.Bench.look_at_sizes.Goals as goal

pub look_at_sizes-requires : goal.look_at_sizes-requires
look_at_sizes-requires g c =
    subst (λ ds. All (λ (d : DeviceHead). 0 < length d.shape.channels) (map any_front ds)) (sym c.deref.ensures.value) c.requires

pub returns : goal.returns
returns g c = subst (λ ds. Every HasDeviceSizes (map any_front ds)) c.deref.ensures.value c.look_at_sizes.ensures
