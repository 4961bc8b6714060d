use Rattle.std.proofs.Common.{OnOk, refl, sym, subst}
use Rattle.std.proofs.lemmas.Int.{to_z-of_z}
use Rattle.iio_core.specs.Front.{Front}
use Rattle.iio_device.specs.Plug.{driver_of}
use Rattle.iio_bench.specs.Bench.{captures_of}
use Rattle.iio_bench.specs.Seat.{seen_of}
use Rattle.iio_system.specs.Connections.{AreOwning}
use Rattle.iio_system.specs.Standing.{MakesStep, step_state}
use Rattle.iio_system.specs.declared.step.Step.TheVariants as code
use Rattle.iio_system.proofs.PlayLaws.{made_move, on_ok}
use Rattle.iio_system.proofs.StepLaws.{counted_more, performed_ok}
use Rattle.iio_system.proofs.system.System.fire.Goals as goal

pub invariant_of-self : goal.invariant_of-self
invariant_of-self g c = record {
  owned = subst (λ (f : Front). AreOwning seen_of f c.args.self.now.connections.items) (sym c.fire.ensures.front) c.args.self.now.owned;
  counted =
      counted_more (code.Fire c.args.trigger c.args.t) c.args.self.now.used 1 (captures_of c.args.self.now.bench) (captures_of c.fire.new.bench) refl
      c.fire.ensures.captures c.args.self.now.counted;
  few = c.args.self.now.few;
  apart = c.args.self.now.apart;
}

pub returns-clause-performed : goal.returns-clause-performed
returns-clause-performed g c =
    let makes : OnOk c.fire.result (MakesStep (driver_of (λ b. (g.dyn-1.0.entry b.vtable).1.driver b.value)) (code.Fire c.args.trigger c.args.t)
    (step_state c.args.self.now.bench c.args.self.now.connections.items c.args.out.now.items)
    (step_state c.fire.new.bench c.args.self.now.connections.items c.fire.new.out.items)) =
    made_move _ (code.Fire c.args.trigger c.args.t) c.args.self.now.bench c.fire.new.bench c.args.self.now.connections.items _ _ c.fire.result
    (simp (to_z-of_z, c.ranges.t) at c.fire.ensures.makes) in
    performed_ok (driver_of (λ b. (g.dyn-1.0.entry b.vtable).1.driver b.value)) c.args.self.now _ (code.Fire c.args.trigger c.args.t)
    c.args.out.now.items c.fire.new.out.items c.fire.result c.requires.few refl makes (on_ok c.fire.result refl)
