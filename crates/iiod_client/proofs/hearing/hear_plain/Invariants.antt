use Rattle.std.proofs.Common.{◌≡◌, ◌-◌, ◌≤◌, length, None}
use Rattle.iiod_client.specs.Line.{HasNoLf}
use Rattle.iiod_client.specs.Point.{Heard, point}
use Rattle.iiod_client.proofs.hearing.hear_plain.Given as goal

abbrev pub invariant-loop-byte : goal.invariant-loop-byte
invariant-loop-byte g l = record {
  heard : Heard (point (g.L.Link.left l.fn.link) l.fn.incoming None None) l.line.items (point (g.L.Link.left l.link) l.incoming None None);
  few : length l.line.items ≤ 32;
  no_lf : HasNoLf l.line.items;
  written : g.L.Link.written l.link ≡ g.L.Link.written l.fn.link;
  steady : g.L.Link.faults l.link ≡ g.L.Link.faults l.fn.link;
}

abbrev pub decreases-loop-byte : goal.decreases-loop-byte
decreases-loop-byte g l = 33 - length l.line.items
