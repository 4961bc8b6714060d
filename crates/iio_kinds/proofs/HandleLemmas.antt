-- The handling of an entry at an input device.
use Rattle.std.proofs.Common.{◌≡◌, ◌-◌, ◌^◌, Bool, false, Some, refl, sym, ap, ◌∙◌, rules}
use Rattle.std.specs.Prelude.{◌==◌}
use Rattle.iio_desc.specs.Kind.{Input}
use Rattle.iio_kfifo.specs.Queue.{Queue}
use Rattle.iio_trigger.specs.Trigger.{Handed}
use Rattle.iio_device.specs.declared.handling.Handled.{Handled}
use Rattle.iio_device.specs.Ends.{queue_end}
use Rattle.iio_device.specs.Active.{active_for}
use Rattle.iio_device.specs.Device.{DeviceView, Handles}
use Rattle.iio_device.specs.Members.{masks_of as masks_of_memberships}
use Rattle.iio_core.specs.Machine.{Station}
use Rattle.iio_kinds.specs.Acting.{Keeps}
use Rattle.iio_core.specs.declared.became.Became.TheVariants.{Asked}
use Rattle.iio_kinds.specs.Handling.{counted, entry_station, is_last, entry_became}
use Rattle.iio_core.specs.Moves.{handled_answer, station_after_entry}
use Rattle.iio_kinds.specs.Station.{station_of}
use Rattle.iio_core.specs.Devices.{queue_waited, queue_waits}
use Rattle.iio_core.proofs.DeviceHandlings.{handled_is as plain_handled, queues_stand}

-- if queues have one owner, the device that a handling met is the device before it
pub handled_is : (e : Handed) (r : Handled) (v v' : DeviceView Queue)
    → Handles queue_end e r v v' → e.dev ≡ v.number
    → (v.standing.captures == 2 ^ 64 - 1) ≡ false → v.standing.active ≡ active_for v.standing.shape (masks_of_memberships v.standing.members)
    → (r ≡ handled_answer e (station_of v)) × (station_of v' ≡ station_after_entry Input v.standing.shape (Some e) (station_of v))
handled_is e r v v' h own fewer ruled =
    let stood = queues_stand e r v v' h in
    let is =
    plain_handled queue_end queue_waits queue_waited e r v v' h own fewer ruled stood.1 in (
      is.0 ∙ ap (λ (st : Station). handled_answer e st) stood.0,
      sym is.1 ∙ ap (λ (st : Station). station_after_entry Input v.standing.shape (Some e) st) stood.0,
    )

-- ---- after the last capture

handled_by : (b : Bool) (e : Handed) (r : Handled) (v v' : DeviceView Queue) → is_last v.standing.captures ≡ b
    → Handles queue_end e r v v' → e.dev ≡ v.number
    → v.standing.active ≡ active_for v.standing.shape (masks_of_memberships v.standing.members)
    → (Some (Asked r) ≡ entry_became Input (Some e) b (station_of v)) × (station_of v' ≡ entry_station Input (Some e) b v.standing.shape (station_of v))
handled_by b e r v v' last h own ruled = search (rules, handled_is)

pub handled_any : (e : Handed) (r : Handled) (v v' : DeviceView Queue)
    → Handles queue_end e r v v' → e.dev ≡ v.number
    → v.standing.active ≡ active_for v.standing.shape (masks_of_memberships v.standing.members)
    → (Some (Asked r) ≡ entry_became Input (Some e) (is_last v.standing.captures) (station_of v))
    × (station_of v' ≡ entry_station Input (Some e) (is_last v.standing.captures) v.standing.shape (station_of v))
handled_any e r v v' h own ruled = handled_by (is_last v.standing.captures) e r v v' refl h own ruled

-- ---- what handling keeps

pub handles_keep : (e : Handed) (r : Handled) (v v' : DeviceView Queue)
    → Handles queue_end e r v v' → Keeps v v'
handles_keep e r v v' h = search rules

-- how many captures have been made with it
pub captures_are : (e : Handed) (r : Handled) (v v' : DeviceView Queue)
    → Handles queue_end e r v v'
    → v'.standing.captures ≡ counted (Some (Asked r)) v.standing.captures
captures_are e r v v' h = search rules
