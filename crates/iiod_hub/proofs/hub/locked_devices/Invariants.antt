use Rattle.std.proofs.Common.{◌≡◌, length}
use Rattle.iiod_hub.proofs.hub.locked_devices.Given as goal

abbrev pub invariant-loop-device : goal.invariant-loop-device
invariant-loop-device g l = length l.locked.items ≡ length l.yielded
