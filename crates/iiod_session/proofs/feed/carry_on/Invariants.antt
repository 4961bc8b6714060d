use Rattle.std.proofs.Common.{◌≡◌, ◌≤◌, ◌+◌, ◌-◌, ℕ, drop, false, length}
use Rattle.std.specs.Option.{option_map_or}
use Rattle.iiod_grammar.specs.Scans.{scan_on}
use Rattle.iiod_commands.specs.Client.{IsClient}
use Rattle.iiod_session.specs.Session.{IsReady, stream_by}
use Rattle.iiod_session.specs.Watch.{Heard, scene_of}
use Rattle.iiod_session.specs.declared.going.Going.TheVariants.{On}
use Rattle.iiod_session.proofs.feed.carry_on.Given as goal
use Rattle.iiod_session.specs.Run.{feeding}

abbrev pub invariant-loop-client : goal.invariant-loop-client
invariant-loop-client g l = let iio = g.I.Iio in let makes = g.W.Watch.makes in record {
  kept : iio.kept l.iio ≡ iio.kept l.fn.iio;
  client : IsClient iio.seen (iio.front (iio.kept l.fn.iio)) l.client;
  within : l.at ≤ length l.bytes;
  ready : IsReady On l.lines l.pending;
  fed : Heard makes l.manner (iio.front (iio.kept l.fn.iio))
      (feeding (scene_of iio.seen (iio.told l.fn.iio) l.fn.client l.fn.watch false) (scan_on (stream_by On l.fn.lines l.fn.pending) l.bytes) l.fn.out.items)
      (feeding (scene_of iio.seen (iio.told l.iio) l.client l.watch false) (scan_on (stream_by On l.lines l.pending) (drop l.at l.bytes)) l.out.items);
}

abbrev pub decreases-loop-client : goal.decreases-loop-client
decreases-loop-client g l = (length l.bytes - l.at) + (length l.bytes - l.at) + option_map_or (λ (n : ℕ). 1) l.lines.wanted 0
