use Rattle.std.proofs.Common.{◌≡◌, ◌≤◌, ◌<◌, ◌-◌, [], length, take, IfSome}
use Rattle.iiod_commands.specs.Client.{IsClient}
use Rattle.iiod_commands.specs.declared.manner.Manner.TheVariants.{Server}
use Rattle.iiod_connection.specs.Place.{place_of}
use Rattle.iiod_connection.specs.Talks.{SendsAll}
use Rattle.iiod_connection.proofs.serve.turn.Given as goal

abbrev pub invariant-loop-done : goal.invariant-loop-done
invariant-loop-done g l = record {
  manner : l.session.manner ≡ Server;
  kept : g.B.Iio.kept l.iio ≡ g.B.Iio.kept l.fn.iio;
  client : IsClient g.B.Iio.seen (g.B.Iio.front (g.B.Iio.kept l.iio)) l.session.client;
  look : IfSome l.carried.look (λ k. k.dev < length (g.B.Iio.front (g.B.Iio.kept l.iio)).devices);
  settled : l.session.stream.items ≡ [];
  left : g.L.Link.left l.link ≡ g.L.Link.left l.fn.link;
  faults : g.L.Link.faults l.link ≡ g.L.Link.faults l.fn.link;
  within : l.done ≤ length l.bytes;
  sends : SendsAll (g.B.Iio.front (g.B.Iio.kept l.fn.iio)) (place_of g.B.Iio.seen (g.B.Iio.told l.fn.iio) l.fn.session) (take l.done l.bytes)
      (g.L.Link.written l.fn.link)
      (place_of g.B.Iio.seen (g.B.Iio.told l.iio) l.session) (g.L.Link.written l.link);
}

abbrev pub decreases-loop-done : goal.decreases-loop-done
decreases-loop-done g l = length l.bytes - l.done
