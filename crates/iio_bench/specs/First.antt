-- A bench before the first step.
use Rattle.std.specs.Prelude.{ℕ, List, [], ◌++◌, map, Some, pos}
use Rattle.iio_sensor.specs.Driver.{Driver}
use Rattle.iio_desc.specs.Description.{AverageRecord, Description, DeviceHead, DeviceRecord, shape_of_means}
use Rattle.iio_desc.specs.Kind.{Average}
use Rattle.iio_desc.specs.declared.description.TriggerDesc.{TriggerDesc}
use Rattle.iio_trigger.specs.Trigger.{State}
use Rattle.iio_device.specs.Site.{first_site}
use Rattle.iio_output.specs.Last.{first_last}
use Rattle.iio_probe.specs.Devices.{first_driver}
use Rattle.iio_core.specs.Machine.{Machine, Station, new_station}
use Rattle.iio_layout.specs.Shape.{ShapeRecord}
use Rattle.iio_core.specs.Trigger.{first_trigger}
use Rattle.iio_bench.specs.Averages.{shape_in}
use Rattle.iio_kinds.specs.MeanStation.{first_mean_station, new_mean_station}
use Rattle.iio_kinds.specs.OutStation.{first_out_station}

-- an input device: no member yet, the trigger and the attributes of its description
abbrev pub first_station : List Driver → DeviceRecord → Station
first_station drivers d = new_station (first_site d.shape d.trigger (first_driver drivers d) d.attrs) (first_last d.shape)

abbrev pub first_machine : List Driver → Description → Machine
first_machine drivers desc = record {
  clock = pos 0;
  triggers = map (λ (t : TriggerDesc). first_trigger) desc.triggers;
  stations = map (first_station drivers) desc.devices ++ (map first_out_station desc.outputs ++ map (first_mean_station desc.devices) desc.averages);
}

-- ---- for this crate's private functions alone

-- an averaging device over one of devices with these heads
abbrev pub means_over : List DeviceHead → ℕ → ShapeRecord
means_over heads base = shape_of_means (Some (shape_in heads base))

abbrev pub mean_head_over : List DeviceHead → AverageRecord → DeviceHead
mean_head_over heads x = record { name = x.name; kind = Average x.base x.window; shape = means_over heads x.base }

abbrev pub mean_station_over : List DeviceHead → AverageRecord → Station
mean_station_over heads x = new_mean_station (means_over heads x.base)

-- a trigger with its places, none of them taken
abbrev pub first_state : TriggerDesc → State
first_state t = record { places = t.places; attached = []; outstanding = []; missed = 0 }
