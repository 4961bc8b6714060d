-- A member that leaves a device.
use Rattle.std.proofs.Common.{◌≡◌, ℕ, Option, sym, rules}
use Rattle.std.specs.Prelude.{◌-◌}
use Rattle.iio_kfifo.specs.Queue.{Queue}
use Rattle.iio_trigger.specs.Trigger.{State}
use Rattle.iio_device.specs.Ends.{queue_end}
use Rattle.iio_device.specs.Device.{DeviceView, LeavesDevice}
use Rattle.iio_core.specs.Calls.{station_after_leave}
use Rattle.iio_core.specs.Devices.{queue_waits}
use Rattle.iio_core.proofs.DeviceLaws.{left_is as plain_left}
use Rattle.iio_kinds.specs.Acting.{KeepsCaptures}
use Rattle.iio_kinds.specs.Places.{place_left}
use Rattle.iio_kinds.specs.Station.{station_of}
use Rattle.iio_kinds.proofs.EmptyLemmas.{is_empty-map}

-- ---- what a leave keeps of an input device

pub leaves_keep : (n : ℕ) (r : Option Queue) (v v' : DeviceView Queue) (s s' : State) → LeavesDevice queue_end n r v v' s s' → KeepsCaptures v v'
leaves_keep n r v v' s s' j = search rules

pub left_is : (n : ℕ) (r : Option Queue) (v v' : DeviceView Queue) (s s' : State) → LeavesDevice queue_end n r v v' s s'
    → station_of v' ≡ station_after_leave n (station_of v)
left_is n r v v' s s' j = sym (plain_left queue_end queue_waits n r v v' s s' j).1

pub left_place : (n : ℕ) (r : Option Queue) (v v' : DeviceView Queue) (s s' : State) → LeavesDevice queue_end n r v v' s s'
    → s' ≡ place_left v.number (station_of v) (station_of v') s
left_place n r v v' s s' j = search (rules, is_empty-map)
