use Rattle.std.proofs.Common.{sym, ◌∙◌}
use Rattle.std.specs.Str.{bytes_eq}
use Rattle.iio_desc.specs.Description.{DeviceRecord}
use Rattle.iio_desc.specs.PartialDesc.{devices_of}
use Rattle.iio_desc.proofs.PositionLemmas.{position_then}
use Rattle.iio_desc.proofs.desc_builder.read_base.Goals as goal

pub returns-in-Some-current_number-clause-value : goal.returns-in-Some-current_number-clause-value
returns-in-Some-current_number-clause-value c =
    let named = λ (d : DeviceRecord). bytes_eq d.name c.args.name.now in
    c.in-Some-current_number.ensures.value ∙ sym (position_then named c.args.devices.now (devices_of c.args.current.now) (sym c.in_default.ensures.value))
