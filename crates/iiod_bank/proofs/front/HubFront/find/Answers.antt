use Rattle.std.specs.Str.{bytes_eq}
use Rattle.iio_desc.specs.Description.{DeviceHead}
use Rattle.iio_core.specs.Front.{find_device}
use Rattle.iiod_bank.specs.FrontOf.{face_of}
use Rattle.iiod_bank.proofs.FrontLemmas.{position_seen}
use Rattle.iiod_bank.proofs.front.HubFront.find.Goals as goal

pub returns-in-None-clause-value : goal.returns-in-None-clause-value
unfolding find_device
returns-in-None-clause-value c =
    position_seen face_of (λ (d : DeviceHead). bytes_eq d.name c.args.name.now) c.args.self.now.devices.items _ _ c.deref.ensures.value c.in-None.ensures.value

pub returns-in-Some-clause-value : goal.returns-in-Some-clause-value
unfolding find_device
returns-in-Some-clause-value c =
    position_seen face_of (λ (d : DeviceHead). bytes_eq d.name c.args.name.now) c.args.self.now.devices.items _ _ c.deref.ensures.value c.in-Some.ensures.value
