use Rattle.iio_bench.proofs.BesideLaws.{named_after, named_before}
use Rattle.iio_bench.proofs.others.Others.named.Goals as goal

pub returns-in-Some : goal.returns-in-Some
returns-in-Some c =
    named_before c.args.name.now c.args.self.now.before.now c.args.self.now.after.now c.in-Some.connection c.named.result c.in-Some.is c.named.ensures

pub returns-in-None : goal.returns-in-None
returns-in-None c =
    named_after c.args.name.now c.args.self.now.before.now c.args.self.now.after.now c.named.result c.named-in-None.result c.in-None.is c.named.ensures
    c.named-in-None.ensures
