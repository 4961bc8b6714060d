use Rattle.std.proofs.Common.{None, refl}
use Rattle.iio_bench.specs.Guard.{connections_of}
use Rattle.iio_bench.specs.Seat.{seen_of}
use Rattle.iio_bench.proofs.BesideLaws.{lent_found, lent_nowhere}
use Rattle.iio_bench.proofs.others.Others.session_of.Goals as goal

pub returns-in-None : goal.returns-in-None
returns-in-None c = lent_nowhere seen_of c.args.name.now (connections_of c.args.self.now) None c.named.result c.in-None.is c.named.ensures refl

pub returns-in-Some : goal.returns-in-Some
returns-in-Some c =
    lent_found seen_of c.args.name.now (connections_of c.args.self.now) c.in-Some.connection c.as_ref.result c.named.result c.in-Some.is c.named.ensures
    c.as_ref.ensures.value
