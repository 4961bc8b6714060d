use Rattle.iio_bench.specs.Seat.{seen_of}
use Rattle.iio_bench.proofs.BesideLaws.{none_after, none_before}
use Rattle.iio_bench.proofs.others.Others.none_holds.Goals as goal

pub returns-then-none_holds : goal.returns-then-none_holds
returns-then-none_holds c =
    none_after seen_of c.args.watched.now c.args.self.now.before.now c.args.self.now.after.now c.none_holds.result c.none_holds-then-none_holds.result
    c.if-none_holds.true c.none_holds.ensures
    c.none_holds-then-none_holds.ensures

pub returns-else-none_holds : goal.returns-else-none_holds
returns-else-none_holds c =
    none_before seen_of c.args.watched.now c.args.self.now.before.now c.args.self.now.after.now c.none_holds.result c.if-none_holds.false c.none_holds.ensures
