use Rattle.std.proofs.Common.{◌≡◌, take}
use Rattle.iio_script.proofs.outline.copy_triggers.Given as goal

abbrev pub invariant-loop-trigger : goal.invariant-loop-trigger
invariant-loop-trigger l = l.copies.items ≡ take l.trigger-index l.triggers
