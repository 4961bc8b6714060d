use Rattle.std.proofs.Common.{◌+◌, ℕ, ap}
use Rattle.iio_device.specs.Plug.{driver_of}
use Rattle.iio_bench.specs.Bench.{captures_of}
use Rattle.iio_system.proofs.GuardedLaws.{meets_ok}
use Rattle.iio_system.proofs.StepLaws.{counted_more, steps_ok}
use Rattle.iio_system.proofs.system.System.guarded.Goals as goal

pub invariant_of-self : goal.invariant_of-self
invariant_of-self g c = record {
  owned = c.perform_guarded.ensures.owned;
  counted =
      counted_more c.args.step.now c.args.self.now.used c.cost_of.result (captures_of c.args.self.now.bench) (captures_of c.perform_guarded.new.bench)
      c.cost_of.ensures c.perform_guarded.ensures.captures c.args.self.now.counted;
  few = c.perform_guarded.ensures.few;
  apart = c.perform_guarded.ensures.apart;
}

pub returns-clause-lines : goal.returns-clause-lines
returns-clause-lines g c =
    steps_ok (driver_of (λ b. (g.dyn-1.0.entry b.vtable).1.driver b.value)) c.args.self.now _ c.args.step.now c.args.out.now.items
    c.perform_guarded.new.out.items c.perform_guarded.result c.requires.few
    (ap (λ (n : ℕ). c.args.self.now.used + n) c.cost_of.ensures) c.perform_guarded.ensures.makes

pub returns-clause-meets : goal.returns-clause-meets
returns-clause-meets g c =
    meets_ok (driver_of (λ b. (g.dyn-1.0.entry b.vtable).1.driver b.value)) c.stance_law.ensures.step c.args.self.now c.args.step.now c.args.watched.now
    c.perform_guarded.result c.requires.few c.perform_guarded.ensures.meets
