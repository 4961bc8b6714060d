use Rattle.std.proofs.Common.{◌≡◌, ◌*◌, ◌≤◌, length}
use Rattle.iio_device.specs.Sensing.{channels_sensed, begun}
use Rattle.iio_device.proofs.SensingLemmas.{look_at}
use Rattle.iio_device.proofs.sensing.sense_all.Given as goal

-- the state of the look so far
abbrev pub invariant-loop-c : goal.invariant-loop-c
invariant-loop-c g l = record {
  looked : channels_sensed l.fn.shape l.fn.t l.c (begun (g.P.Sensor.driver l.fn.plug) l.fn.monitor) ≡ look_at (g.P.Sensor.driver l.plug) l.monitor l.count;
  few : l.count ≤ 2 * l.c;
  channels : length l.monitor.channels ≡ length l.fn.monitor.channels;
  all : l.c-end ≡ length l.fn.shape.channels;
}
