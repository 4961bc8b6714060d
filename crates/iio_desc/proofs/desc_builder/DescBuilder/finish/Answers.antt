use Rattle.std.proofs.Common.{◌≡◌, ℕ, List, ◌++◌, length, Option, true, ap, sym, ◌∙◌}
use Rattle.iio_desc.specs.Description.{DeviceRecord, OutputRecord}
use Rattle.iio_desc.specs.PartialDesc.{devices_of, is_current_whole, outputs_of}
use Rattle.iio_desc.specs.PartialDevice.{PartialDevice}
use Rattle.iio_desc.proofs.DeviceLemmas.{apart_with, averages_with, outputs_with, sound_with}
use Rattle.iio_desc.proofs.RefusalLemmas.{ensured}
use Rattle.iio_desc.proofs.desc_builder.DescBuilder.finish.Goals as goal

pub returns-clause-sound : goal.returns-clause-sound
returns-clause-sound c =
    let inside = c.self.inside in
    let inv = c.self.invariant in
    let triggers : ℕ = length inside.triggers.items in
    let devices : List DeviceRecord = inside.devices.items in
    let outputs : List OutputRecord = inside.outputs.items in
    let last : Option PartialDevice = inside.current in
    let whole : is_current_whole last ≡ true = sym c.is_current_whole.ensures ∙ ensured _ _ _ _ c.ensure.ensures c.in_ok-ensure.was in
    let pushed : c.put_before.new.devices.items ≡ devices ++ devices_of last =
    c.put_before.ensures.devices ∙ ap (λ (ds : List DeviceRecord). ds ++ devices_of last) c.in_ok-reserve.ensures.items in
    let pushed_outputs : c.put_before.new.outputs.items ≡ outputs ++ outputs_of last =
    c.put_before.ensures.outputs ∙ ap (λ (os : List OutputRecord). os ++ outputs_of last) c.in_ok-reserve-2.ensures.items in
    let sound =
    sound_with triggers inside.drivers inside.earlier devices last inv.sound inv.current whole c.put_before.ensures.recording c.put_before.ensures.writes in
    record {
      triggers = inv.triggers;
      devices = rw (pushed, pushed_outputs) inv.devices;
      places = inv.places;
      sound = rw (← c.self.view_is, pushed) sound;
      apart = rw pushed (apart_with triggers inside.drivers inside.earlier devices last inv.apart inv.current);
      outputs = rw pushed_outputs (outputs_with triggers inside.drivers inside.earlier devices last outputs inv.outputs inv.current whole);
      averages = rw pushed (averages_with devices (devices_of last) inside.averages.items inv.averages);
    }
