use Rattle.std.proofs.Common.{refl}
use Rattle.iio_io.proofs.Cases.{steady_of, counted_of, failed_of}
use Rattle.iio_io.proofs.tcp_door.TcpDoorListen.TheImpl.Goals as goal

pub listen-tells : goal.listen-tells
listen-tells g d e c = record {
  left = refl;
  steady = steady_of c.result _ _ c.ensures.count;
  counted = counted_of c.result _ _ c.ensures.count;
  failed = failed_of c.result _ _ c.ensures.count;
}
