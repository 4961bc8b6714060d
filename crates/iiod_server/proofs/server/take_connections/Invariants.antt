use Rattle.std.proofs.Common.{◌≡◌}
use Rattle.iiod_server.proofs.server.take_connections.Given as goal

abbrev pub invariant-loop : goal.invariant-loop
invariant-loop g l =
    (goal.iterator-loop g).can_next l.iterator' ×
    (goal.iterator-loop g).is_finite l.iterator' ×
    (g.D.Door.faults l.door ≡ g.D.Door.faults l.fn.door)
