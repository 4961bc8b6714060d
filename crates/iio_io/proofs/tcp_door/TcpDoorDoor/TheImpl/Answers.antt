use Rattle.std.proofs.Common.{refl}
use Rattle.iio_io.proofs.Cases.{any_some, any_none, any_ok, any_err, steady_of, counted_of, failed_of}
use Rattle.iio_io.proofs.tcp_door.TcpDoorDoor.TheImpl.Goals as goal

pub next-tells : goal.next-tells
next-tells g d c = record {
  given = any_ok c.result (λ link. any_some link (λ _. tt));
  end = any_ok c.result (λ link. any_none link tt);
  stays = any_ok c.result (λ link. any_none link refl);
  silent = refl;
  steady = steady_of c.result _ _ c.ensures.count;
  counted = counted_of c.result _ _ c.ensures.count;
  failed = failed_of c.result _ _ c.ensures.count;
  kept = any_err c.result refl;
}
