use Rattle.std.proofs.Common.{◌≡◌, ◌+◌, Some, None, length, position, ap, sym, arith, ◌∙◌}
use Rattle.std.specs.Str.{bytes_eq}
use Rattle.iio_desc.specs.Description.{AverageRecord, DeviceHead, DeviceRecord, OutputRecord, average_head, input_head, output_head}
use Rattle.iio_desc.proofs.PositionLemmas.{of_first, of_second, of_third}
use Rattle.iio_desc.proofs.description.Desc.find_device.Goals as goal

pub returns-in-Some : goal.returns-in-Some
returns-in-Some c =
    let inside = c.self.inside in
    rw (← c.self.view_is)
    (of_first input_head output_head (average_head inside.devices.items) (λ (d : DeviceHead). bytes_eq d.name c.args.name.now) inside.devices.items
    inside.outputs.items inside.averages.items c.in-Some.number
    (c.in-Some.ensures.value ∙ ap (position (λ (d : DeviceRecord). bytes_eq d.name c.args.name.now)) c.as_slice.ensures.value))

pub returns-in-Some-output_number : goal.returns-in-Some-output_number
returns-in-Some-output_number c =
    let inside = c.self.inside in
    let many : c.len-devices.result ≡ length inside.devices.items = c.len-devices.ensures ∙ sym c.as_slice.ensures.len ∙ ap length c.as_slice.ensures.value in
    ap (λ n. Some (n + c.in-Some-output_number.number)) many
    ∙ rw (← c.self.view_is)
    (of_second input_head output_head (average_head inside.devices.items) (λ (d : DeviceHead). bytes_eq d.name c.args.name.now) inside.devices.items
    inside.outputs.items inside.averages.items c.in-Some-output_number.number
    (c.in_default.ensures.value ∙ ap (position (λ (d : DeviceRecord). bytes_eq d.name c.args.name.now)) c.as_slice.ensures.value)
    (c.in-Some-output_number.ensures.value ∙ ap (position (λ (d : OutputRecord). bytes_eq d.name c.args.name.now)) c.as_slice-2.ensures.value))

pub returns-in-None : goal.returns-in-None
returns-in-None c =
    let inside = c.self.inside in
    rw (← c.self.view_is)
    (of_third input_head output_head (average_head inside.devices.items) (λ (d : DeviceHead). bytes_eq d.name c.args.name.now) inside.devices.items
    inside.outputs.items inside.averages.items None
    (c.in_default.ensures.value ∙ ap (position (λ (d : DeviceRecord). bytes_eq d.name c.args.name.now)) c.as_slice.ensures.value)
    (c.in_default-output_number.ensures.value ∙ ap (position (λ (d : OutputRecord). bytes_eq d.name c.args.name.now)) c.as_slice-2.ensures.value)
    (c.in-None.ensures.value ∙ ap (position (λ (d : AverageRecord). bytes_eq d.name c.args.name.now)) c.as_slice-3.ensures.value))

pub returns-in-Some-average_number : goal.returns-in-Some-average_number
returns-in-Some-average_number c =
    let inside = c.self.inside in
    let number = c.in-Some-average_number.number in
    let many : c.len-devices.result ≡ length inside.devices.items = c.len-devices.ensures ∙ sym c.as_slice.ensures.len ∙ ap length c.as_slice.ensures.value in
    let more : c.len.result ≡ length inside.outputs.items = c.len.ensures ∙ sym c.as_slice-2.ensures.len ∙ ap length c.as_slice-2.ensures.value in
    let place : c.len-devices.result + c.len.result + number ≡ length inside.devices.items + (length inside.outputs.items + number) =
    omega (arith, many, more) in
    ap (λ n. Some n) place
    ∙ rw (← c.self.view_is)
    (of_third input_head output_head (average_head inside.devices.items) (λ (d : DeviceHead). bytes_eq d.name c.args.name.now) inside.devices.items
    inside.outputs.items inside.averages.items (Some number)
    (c.in_default.ensures.value ∙ ap (position (λ (d : DeviceRecord). bytes_eq d.name c.args.name.now)) c.as_slice.ensures.value)
    (c.in_default-output_number.ensures.value ∙ ap (position (λ (d : OutputRecord). bytes_eq d.name c.args.name.now)) c.as_slice-2.ensures.value)
    (c.in-Some-average_number.ensures.value ∙ ap (position (λ (d : AverageRecord). bytes_eq d.name c.args.name.now)) c.as_slice-3.ensures.value))
