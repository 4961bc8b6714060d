use Rattle.std.proofs.Common.{refl}
use Rattle.iio_io.proofs.Cases.{any_some, any_none}
use Rattle.iio_io.proofs.clock_ticker.ClockTickerTicker.TheImpl.Goals as goal

pub next-tells : goal.next-tells
next-tells g c = record {
  next = any_some c.result (λ _. tt);
  end = any_none c.result tt;
  kept = any_none c.result refl;
  silent = refl;
}
