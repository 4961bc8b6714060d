use Rattle.std.proofs.Common.{List, ap, arith, length}
use Rattle.std.proofs.lemmas.List.{length-map}
use Rattle.iio_desc.specs.Description.{DeviceHead, DeviceRecord, input_head}
use Rattle.iiod_bank.specs.FrontOf.{face_of}
use Rattle.iiod_bank.proofs.first.made_of.Goals as goal

pub invariant_of-result : goal.invariant_of-result
invariant_of-result g c =
    let faces = length-map c.in_ok-faces.faces.items face_of in
    let described = length-map c.deref.result.now input_head in
    let same = ap (λ (heads : List DeviceHead). length heads) c.in_ok-faces.ensures in
    let devices = ap (λ (ds : List DeviceRecord). length ds) c.deref.ensures.value in
    record { few_triggers = c.desc.invariant.0; few_devices = omega (arith, faces, described, same, devices, c.desc.invariant.1) }
