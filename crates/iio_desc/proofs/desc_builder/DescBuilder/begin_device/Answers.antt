use Rattle.std.proofs.Common.{◌≡◌, ◌+◌, ◌<◌, List, ◌++◌, length, Some, arith, ap, ◌∙◌, length-append}
use Rattle.std.specs.Prelude.{IfSome}
use Rattle.iio_desc.specs.declared.limits.TheConstants.{MAX_DEVICES}
use Rattle.iio_desc.specs.Description.{DeviceRecord, OutputRecord}
use Rattle.iio_desc.specs.PartialDesc.{devices_of, outputs_of}
use Rattle.iio_desc.specs.PartialDevice.{PartialDevice, new_device}
use Rattle.iio_desc.proofs.DeviceLemmas.{ended, one_of_kind}
use Rattle.iio_desc.proofs.desc_builder.DescBuilder.begin_device.Goals as goal

pub invariant_of-self-2 : goal.invariant_of-self-2
invariant_of-self-2 c =
    let inside = c.self.inside in
    let inv = c.self.invariant in
    let e =
    ended inside c.replace-before.result _ c.put_before.new.devices.items _ c.put_before.new.outputs.items c.put_before.result inv
    c.replace-before.ensures.value c.in_ok-reserve.ensures.items c.in_ok-reserve-2.ensures.items (rw (← c.self.view_is) at c.requires.whole)
    c.put_before.ensures.devices c.put_before.ensures.outputs c.put_before.ensures.recording c.put_before.ensures.writes c.put_before.ensures.rows
    c.put_before.ensures.within in
    let ds : List DeviceRecord = inside.devices.items ++ devices_of inside.current in
    let os : List OutputRecord = inside.outputs.items ++ outputs_of inside.current in
    let begun : PartialDevice = new_device c.args.direction c.args.name c.args.trigger in
    let next : c.replace-before.new.dest ≡ Some begun = c.replace-before.ensures.after ∙ ap (λ (n : PartialDevice). Some n) c.new-next.ensures in
    let attached : IfSome c.args.trigger (λ n. n < length inside.triggers.items) = rw (← c.self.view_is) at c.requires.attached in
    let one : length (devices_of (Some begun)) + length (outputs_of (Some begun)) ≡ 1 = one_of_kind begun c.args.direction in
    let more = length-append ds (devices_of (Some begun)) in
    let more_outputs = length-append os (outputs_of (Some begun)) in
    let few : length ds + length os + length inside.averages.items < MAX_DEVICES = rw (← c.self.view_is) at c.requires.few in
    record {
      triggers = inv.triggers;
      places = inv.places;
      devices = rw (e.devices, e.outputs, next) (omega (arith, few, one, more, more_outputs));
      sound = e.sound;
      outputs = e.formed;
      averages = e.averages;
      apart = e.apart;
      earlier = e.earlier;
      rows = e.rows;
      current = rw next (record { attached = attached; driven = tt; rows = omega (arith, e.rows) });
    }
