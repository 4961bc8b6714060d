use Rattle.std.proofs.Common.{sym, ◌∙◌, ◌+◌, length, arith}
use Rattle.iio_device.specs.Plug.{driver_of}
use Rattle.iio_bench.specs.Bench.{captures_of, front_of}
use Rattle.iio_system.specs.Standing.{step_state}
use Rattle.iio_system.proofs.FireLaws.{left_last, left_next, left_none, left_past, rise_on, still_go}
use Rattle.iio_system.proofs.MoveLaws.{rise_more}
use Rattle.iio_system.proofs.moves.handle_all.Goals as goal

pub handle_one-requires-clause-captures : goal.handle_one-requires-clause-captures
handle_one-requires-clause-captures g c =
    still_go c.loop-turn._turn (captures_of c.args.bench.now) (captures_of c.loop-turn.bench)
    (omega (arith, c.loop-turn-test.true, c.device_count-devices.ensures.most)) c.requires.captures c.loop-turn.invariant.captures

pub returns-in_err-handle_one-clause-captures : goal.returns-in_err-handle_one-clause-captures
returns-in_err-handle_one-clause-captures g c =
    rise_more (c.loop-turn._turn + 1) 32 (captures_of c.args.bench.now) (captures_of c.handle_one.new.bench)
    (omega (arith, c.loop-turn-test.true, c.device_count-devices.ensures.most))
    (rise_on c.loop-turn._turn 1 (captures_of c.args.bench.now) (captures_of c.loop-turn.bench) (captures_of c.handle_one.new.bench)
    c.loop-turn.invariant.captures c.in_err-handle_one.ensures.captures)

pub returns-in_default-clause-makes : goal.returns-in_default-clause-makes
returns-in_default-clause-makes g c = λ cs s m h order.
    left_none (driver_of (λ b. (g.dyn-1.0.entry b.vtable).1.driver b.value)) s m c.args.trigger c.loop-turn._turn (length (front_of c.args.bench.now).devices)
    _ _ (c.loop-turn.invariant.left cs s m h order) (sym c.first_due.ensures ∙ c.in_default.is)

pub returns-in_default-clause-captures : goal.returns-in_default-clause-captures
returns-in_default-clause-captures g c =
    rise_more c.loop-turn._turn 32 (captures_of c.args.bench.now) (captures_of c.loop-turn.bench)
    (omega (arith, c.loop-turn.invariant.within, c.device_count-devices.ensures.most)) c.loop-turn.invariant.captures

pub returns-then-dev-devices-clause-makes : goal.returns-then-dev-devices-clause-makes
returns-then-dev-devices-clause-makes g c = λ cs s m h order.
    left_past (driver_of (λ b. (g.dyn-1.0.entry b.vtable).1.driver b.value)) s m c.args.trigger c.loop-turn._turn (length (front_of c.args.bench.now).devices)
    _ _ (c.loop-turn.invariant.left cs s m h order) c.in-Some.dev (sym c.first_due.ensures ∙ c.in-Some.is)
    (omega (arith, c.if-dev-devices.true, c.device_count-devices.ensures.value))

pub returns-then-dev-devices-clause-captures : goal.returns-then-dev-devices-clause-captures
returns-then-dev-devices-clause-captures g c =
    rise_more c.loop-turn._turn 32 (captures_of c.args.bench.now) (captures_of c.loop-turn.bench)
    (omega (arith, c.loop-turn.invariant.within, c.device_count-devices.ensures.most)) c.loop-turn.invariant.captures

pub loop-turn-preserved : goal.loop-turn-preserved
loop-turn-preserved g c = record {
  front = c.in_ok-handle_one.ensures.front ∙ c.loop-turn.invariant.front;
  within = omega (arith, c.loop-turn-test.true);
  captures =
      rise_on c.loop-turn._turn 1 (captures_of c.args.bench.now) (captures_of c.loop-turn.bench) (captures_of c.handle_one.new.bench)
      c.loop-turn.invariant.captures c.in_ok-handle_one.ensures.captures;
  left = λ cs s m h order.
      left_next (driver_of (λ b. (g.dyn-1.0.entry b.vtable).1.driver b.value)) s m c.args.trigger c.in-Some.dev c.loop-turn._turn
      (length (front_of c.args.bench.now).devices) _ _ (step_state c.handle_one.new.bench cs c.handle_one.new.out.items)
      (c.loop-turn.invariant.left cs s m h order) (sym c.first_due.ensures ∙ c.in-Some.is)
      (c.in_ok-handle_one.ensures.makes cs);
}

pub returns-clause-makes : goal.returns-clause-makes
returns-clause-makes g c = λ cs s m h order.
    left_last (driver_of (λ b. (g.dyn-1.0.entry b.vtable).1.driver b.value)) s m c.args.trigger c.loop-turn._turn (length (front_of c.args.bench.now).devices)
    _ _ (c.loop-turn.invariant.left cs s m h order) (omega (arith, c.loop-turn-test.false, c.device_count-devices.ensures.value))

pub returns-clause-captures : goal.returns-clause-captures
returns-clause-captures g c =
    rise_more c.loop-turn._turn 32 (captures_of c.args.bench.now) (captures_of c.loop-turn.bench)
    (omega (arith, c.loop-turn.invariant.within, c.device_count-devices.ensures.most)) c.loop-turn.invariant.captures
