use Rattle.std.proofs.Common.{◌≡◌, ◌+◌, length}
use Rattle.iiod_server.proofs.server.begin_workers.Given as goal

abbrev pub invariant-loop-ticker : goal.invariant-loop-ticker
invariant-loop-ticker g l =
    (goal.iterator-loop-ticker g).can_next l.ticker-iterator ×
    (goal.iterator-loop-ticker g).is_finite l.ticker-iterator ×
    (l.trigger + length l.ticker-iterator.rest.items ≡ length l.fn.tickers.items)
