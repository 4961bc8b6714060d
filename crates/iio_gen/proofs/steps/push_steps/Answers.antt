use Rattle.iio_gen.specs.Input.{step_line}
use Rattle.iio_gen.proofs.Several.{appends_more, appends_none}
use Rattle.iio_gen.proofs.steps.push_steps.Goals as goal

pub loop-i-init : goal.loop-i-init
loop-i-init c = appends_none step_line c.args.draws.now.state c.args.out.now.items

pub loop-i-preserved : goal.loop-i-preserved
loop-i-preserved c = appends_more step_line c.loop-i.i _ _ _ _ _ _ c.loop-i.invariant c.in_ok-push_step.ensures
