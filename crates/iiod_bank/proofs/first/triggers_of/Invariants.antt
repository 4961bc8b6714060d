use Rattle.std.proofs.Common.{◌≡◌, ◌-◌, ◌++◌, ◌≤◌, map, length, take, replicate}
use Rattle.iio_desc.specs.declared.description.TriggerDesc.{TriggerDesc}
use Rattle.iio_desc.specs.declared.limits.TheConstants.{MAX_TRIGGERS}
use Rattle.iiod_bank.specs.First.{idle_trigger}
use Rattle.iiod_bank.proofs.first.triggers_of.Given as goal

abbrev pub invariant-loop-t : goal.invariant-loop-t
invariant-loop-t l = l.triggers.items ≡ map (λ (t : TriggerDesc). idle_trigger t.places) (take l.t-index l.described)

abbrev pub invariant-loop : goal.invariant-loop
invariant-loop l = record {
  made : l.triggers.items ≡ map (λ (t : TriggerDesc). idle_trigger t.places) l.described ++ replicate (l.counter - length l.described) (idle_trigger 1);
  low : length l.described ≤ l.counter;
  high : l.counter ≤ MAX_TRIGGERS;
}
