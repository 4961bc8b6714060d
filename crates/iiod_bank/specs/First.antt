-- A hub before anything has happened.
use Rattle.std.specs.Prelude.{ℕ, ◌-◌, List, [], ◌++◌, map, length, replicate, pos}
use Rattle.iio_sensor.specs.Driver.{Driver}
use Rattle.iio_desc.specs.Description.{Description}
use Rattle.iio_desc.specs.declared.description.TriggerDesc.{TriggerDesc}
use Rattle.iio_desc.specs.declared.limits.TheConstants.{MAX_TRIGGERS}
use Rattle.iio_trigger.specs.Trigger.{State}
use Rattle.iio_probe.specs.Devices.{first_devices}
use Rattle.iiod_bank.specs.Told.{Told}

-- a trigger with `places` places, none of which is taken
abbrev pub idle_trigger : ℕ → State
idle_trigger places = record { places = places; attached = []; outstanding = []; missed = 0 }

-- the triggers that are described, followed by triggers with one place each
abbrev pub first_triggers : List TriggerDesc → List State
first_triggers described = map (λ (t : TriggerDesc). idle_trigger t.places) described ++ replicate (MAX_TRIGGERS - length described) (idle_trigger 1)

abbrev pub first_told : List Driver → Description → Told
first_told drivers desc = record { devices = first_devices drivers 0 desc.devices; triggers = first_triggers desc.triggers; clock = pos 0 }
