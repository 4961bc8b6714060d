use Rattle.std.proofs.Common.{arith, map, length, ap, ◌∙◌, ◌++◌, ◌∷◌, []}
use Rattle.iio_desc.specs.declared.description.TriggerDesc.{TriggerDesc}
use Rattle.iio_trigger.specs.Trigger.{State}
use Rattle.iiod_bank.specs.First.{idle_trigger}
use Rattle.iiod_bank.proofs.FirstLemmas.{trigger_more}
use Rattle.iiod_bank.proofs.first.triggers_of.Goals as goal

pub loop-preserved : goal.loop-preserved
loop-preserved c = record {
  made =
      trigger_more (map (λ (t : TriggerDesc). idle_trigger t.places) c.args.described.now) (length c.args.described.now) c.loop.counter (idle_trigger 1)
      c.loop.triggers.items c.push-in-loop.new.self.items c.loop.invariant.low c.loop.invariant.made
      (c.in_ok-push-2.ensures.items ∙ ap (λ (x : State). c.loop.triggers.items ++ x ∷ []) c.new-in-loop.ensures);
  low = omega arith;
  high = omega arith;
}
