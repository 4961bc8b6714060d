-- A hub's context, names and shapes. It serves only the devices of `device` lines.
use Rattle.std.specs.Prelude.{map}
use Rattle.iio_desc.specs.Description.{Description, DeviceHead, input_head}
use Rattle.iio_desc.specs.Kind.{Input}
use Rattle.iiod_bank.specs.declared.front.Face.{Face}
use Rattle.iiod_bank.specs.declared.front.HubFront.{HubFront}
use Rattle.iio_core.specs.Front.{Front, first_front}

abbrev pub face_of : Face → DeviceHead
face_of f = record { name = f.name; kind = Input; shape = f.shape }

abbrev pub front_of : HubFront → Front
front_of f = record { context = f.context.items; triggers = f.triggers.items; devices = map face_of f.devices.items }

-- the front of the hub of a description
abbrev pub served_front : Description → Front
served_front desc = record (first_front desc) { devices = map input_head desc.devices }
