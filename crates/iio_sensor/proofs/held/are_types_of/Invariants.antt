use Rattle.std.proofs.Common.{◌≡◌, map, take}
use Rattle.iio_sensor.proofs.held.are_types_of.Given as goal

abbrev pub invariant-loop-c : goal.invariant-loop-c
invariant-loop-c l = take l.c l.types ≡ take l.c (map (λ channel. channel.ty) l.shape.channels)
