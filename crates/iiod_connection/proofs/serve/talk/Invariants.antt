use Rattle.std.proofs.Common.{◌≡◌, ◌<◌, [], length, IfSome}
use Rattle.iiod_commands.specs.Client.{IsClient}
use Rattle.iiod_commands.specs.declared.manner.Manner.TheVariants.{Server}
use Rattle.iiod_connection.specs.Talks.{SoFar}
use Rattle.iiod_connection.specs.Place.{place_of}
use Rattle.iiod_connection.proofs.serve.talk.Given as goal

abbrev pub invariant-loop : goal.invariant-loop
invariant-loop g l = record {
  manner : l.session.manner ≡ Server;
  kept : g.B.Iio.kept l.iio ≡ g.B.Iio.kept l.fn.iio;
  client : IsClient g.B.Iio.seen (g.B.Iio.front (g.B.Iio.kept l.iio)) l.session.client;
  look : IfSome l.carried.look (λ k. k.dev < length (g.B.Iio.front (g.B.Iio.kept l.iio)).devices);
  settled : l.session.stream.items ≡ [];
  faults : g.L.Link.faults l.link ≡ g.L.Link.faults l.fn.link;
  so_far : SoFar (g.B.Iio.front (g.B.Iio.kept l.fn.iio)) (place_of g.B.Iio.seen (g.B.Iio.told l.fn.iio) l.fn.session) (g.L.Link.left l.fn.link)
      (g.L.Link.written l.fn.link)
      (place_of g.B.Iio.seen (g.B.Iio.told l.iio) l.session) (g.L.Link.left l.link) (g.L.Link.written l.link);
}
