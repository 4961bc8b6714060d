use Rattle.std.proofs.Common.{Bool, ◌&&◌, ap}
use Rattle.iio_bench.specs.declared.guard.Guard.{Guard}
use Rattle.iio_bench.proofs.guard.GuardWatchBench.before.Goals as goal

pub returns : goal.returns
returns g c x told = ap (λ (b : Bool). (let y : Guard = record c.args.self.now { meets = c.args.self.now.meets && b } in y)) (c.allows-allowed.ensures x told)
