use Rattle.std.proofs.Common.{◌≡◌, ◌≤◌, length}
use Rattle.iiod_hub.proofs.bell.bells_of.Given as goal

abbrev pub invariant-loop : goal.invariant-loop
invariant-loop l = (length l.bells.items ≡ l.counter) × (l.counter ≤ l.count)
