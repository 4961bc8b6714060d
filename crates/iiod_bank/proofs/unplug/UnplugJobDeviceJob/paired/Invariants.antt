use Rattle.std.proofs.Common.{length}
use Rattle.iio_device.specs.Plug.{driver_of}
use Rattle.iio_device.specs.Device.{view_of}
use Rattle.iiod_bank.proofs.UnplugLaws.{IsEmptying}
use Rattle.iiod_bank.proofs.unplug.UnplugJobDeviceJob.paired.Given as goal

abbrev pub invariant-loop-member : goal.invariant-loop-member
invariant-loop-member g l =
    IsEmptying (view_of (driver_of (λ p. (g.dyn-1.0.entry p.vtable).1.driver p.value)) l.initial.device) l.initial.trigger
    (view_of (driver_of (λ p. (g.dyn-1.0.entry p.vtable).1.driver p.value)) l.device) l.trigger

abbrev pub decreases-loop-member : goal.decreases-loop-member
decreases-loop-member g l = length l.device.core.roster.members.items
