use Rattle.iio_bench.specs.Seat.{seen_of}
use Rattle.iio_bench.proofs.BesideLaws.{seated_after, seated_before}
use Rattle.iio_bench.proofs.others.Others.one_holds.Goals as goal

pub returns-then-one_holds : goal.returns-then-one_holds
returns-then-one_holds c =
    seated_before seen_of c.args.watched.now c.args.self.now.before.now c.args.self.now.after.now c.args.dev c.one_holds.result c.if-one_holds.true
    c.one_holds.ensures

pub returns-else-one_holds : goal.returns-else-one_holds
returns-else-one_holds c =
    seated_after seen_of c.args.watched.now c.args.self.now.before.now c.args.self.now.after.now c.args.dev c.one_holds.result c.one_holds-else-one_holds.result
    c.if-one_holds.false c.one_holds.ensures
    c.one_holds-else-one_holds.ensures
