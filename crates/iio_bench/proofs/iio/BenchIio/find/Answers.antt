use Rattle.std.specs.Str.{bytes_eq}
use Rattle.iio_desc.specs.Description.{DeviceHead}
use Rattle.iio_core.specs.Front.{find_device}
use Rattle.iio_kinds.specs.Station.{any_front}
use Rattle.iio_bench.proofs.IioLemmas.{position_seen}
use Rattle.iio_bench.proofs.iio.BenchIio.find.Goals as goal

pub returns-in-None-clause-value : goal.returns-in-None-clause-value
unfolding find_device
returns-in-None-clause-value g c =
    position_seen any_front (λ (d : DeviceHead). bytes_eq d.name c.args.device.now) c.args.self.now.devices.items _ _ c.deref.ensures.value
    c.in-None.ensures.value

pub returns-in-Some-clause-value : goal.returns-in-Some-clause-value
unfolding find_device
returns-in-Some-clause-value g c =
    position_seen any_front (λ (d : DeviceHead). bytes_eq d.name c.args.device.now) c.args.self.now.devices.items _ _ c.deref.ensures.value
    c.in-Some.ensures.value
