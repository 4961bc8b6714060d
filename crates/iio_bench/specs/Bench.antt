-- A bench as contracts see it.
use Rattle.std.specs.Prelude.{ℕ, Bool, false, List, [], map, slice_get}
use Rattle.std.specs.Option.{option_map_or}
use Rattle.iio_sensor.specs.Driver.{Driver}
use Rattle.iio_device.specs.declared.plug.Plug.{Plug}
use Rattle.iio_core.specs.Front.{Front}
use Rattle.iio_core.specs.Machine.{Machine}
use Rattle.iio_core.specs.Trigger.{Trigger}
use Rattle.iio_bench.specs.declared.bench.Bench.{Bench}
use Rattle.iio_kinds.specs.Handling.{is_last}
use Rattle.iio_kinds.specs.Places.{trigger_of}
use Rattle.iio_kinds.specs.Station.{any_front, captures_by, room_by, stations_by}

-- the front, and the number of captures that each device has made
pub record Kept : Type 0 where
  pub front : Front
  pub captures : List ℕ

module _ {X : Type 0} {V : X → Type 0} where
  -- what no call changes
  abbrev pub front_of : Bench X V → Front
  front_of b = record { context = b.context.items; triggers = b.described.items; devices = map any_front b.devices.items }

  -- the triggers
  abbrev pub triggers_of : Bench X V → List Trigger
  triggers_of b = map trigger_of b.triggers.items

  -- the clock, the triggers, and the devices by what they sample
  abbrev pub machine_of : (Plug X V → Driver) → Bench X V → Machine
  machine_of driver b = record { clock = b.clock; triggers = triggers_of b; stations = stations_by driver b.devices.items }

  -- the number of captures that each device has made
  abbrev pub captures_of : Bench X V → List ℕ
  captures_of b = map captures_by b.devices.items

  -- whether the device of that number has made its last capture
  abbrev pub has_ended : Bench X V → ℕ → Bool
  has_ended b dev = option_map_or is_last (slice_get (captures_of b) dev) false

  -- the room for the scan that the output device of that number is given
  abbrev pub room_at : Bench X V → ℕ → List ℕ
  room_at b dev = option_map_or room_by (slice_get b.devices.items dev) []

  -- what no connection's call changes
  abbrev pub kept_of : Bench X V → Kept
  kept_of b = record { front = front_of b; captures = captures_of b }
