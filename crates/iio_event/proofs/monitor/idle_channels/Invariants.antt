use Rattle.std.proofs.Common.{◌≡◌, map, take}
use Rattle.iio_event.specs.Monitor.{idle_channel}
use Rattle.iio_event.proofs.monitor.idle_channels.Given as goal

abbrev pub invariant-loop-c : goal.invariant-loop-c
invariant-loop-c l = l.channels.items ≡ map idle_channel (take l.c l.shape.channels)
