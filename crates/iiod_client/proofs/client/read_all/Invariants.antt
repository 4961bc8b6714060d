use Rattle.std.proofs.Common.{◌≡◌, ◌-◌, ◌≤◌, List, []}
use Rattle.iiod_client.specs.Ask.{wanted_by, open_line}
use Rattle.iiod_client.specs.Point.{Point, Goes, point}
use Rattle.iiod_client.specs.Talk.{Read, AreReads, got_by, heard_of, printed_for, sent_for}
use Rattle.iiod_client.proofs.client.read_all.Given as goal

abbrev pub invariant-loop-got : goal.invariant-loop-got
invariant-loop-got g l = record {
  within : l.got ≤ l.ask.scans;
  so_far : (a : Point) → Goes a (heard_of []) (open_line (wanted_by l.ask)) []
      (point (g.L.Link.left l.fn.link) l.fn.incoming (g.L.Link.written l.fn.link) (g.K.Sink.written l.fn.output)) →
      (reads : List Read) × AreReads (wanted_by l.ask) reads × (got_by (wanted_by l.ask) reads ≡ l.got)
      × Goes a (heard_of reads) (sent_for (wanted_by l.ask) reads) (printed_for (wanted_by l.ask) reads)
      (point (g.L.Link.left l.link) l.incoming (g.L.Link.written l.link) (g.K.Sink.written l.output));
  link : g.L.Link.faults l.link ≡ g.L.Link.faults l.fn.link;
  output : g.K.Sink.faults l.output ≡ g.K.Sink.faults l.fn.output;
}

abbrev pub decreases-loop-got : goal.decreases-loop-got
decreases-loop-got g l = l.ask.scans - l.got
