use Rattle.std.proofs.Common.{◌≡◌, ◌≤◌, length}
use Rattle.iiod_serve.proofs.opened.tickers_of.Given as goal

abbrev pub invariant-loop : goal.invariant-loop
invariant-loop g l = (l.counter ≤ l.fn.count) × (length l.tickers.items ≡ l.counter)
