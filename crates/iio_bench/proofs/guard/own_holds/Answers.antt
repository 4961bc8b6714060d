use Rattle.iio_bench.specs.Seat.{seen_of}
use Rattle.iio_bench.proofs.BesideLaws.{held_is}
use Rattle.iio_bench.proofs.guard.own_holds.Goals as goal

pub returns-in-Some : goal.returns-in-Some
returns-in-Some c = rw c.in-Some.is (held_is seen_of c.in-Some.session.now c.args.dev c.holds.result (c.holds.ensures seen_of))
