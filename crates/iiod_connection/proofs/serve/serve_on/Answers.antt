use Rattle.std.proofs.Common.{◌≡◌, IfSome, Some, subst}
use Rattle.iiod_commands.specs.Acts.{left_machine}
use Rattle.iiod_commands.specs.Client.{client_of}
use Rattle.iiod_connection.specs.Place.{first_place, place_of}
use Rattle.iiod_connection.proofs.Whole.{closed_by, is_first_place, nothing_heard, served_all}
use Rattle.iiod_connection.proofs.serve.serve_on.Goals as goal

pub returns-in_default-clause-served : goal.returns-in_default-clause-served
returns-in_default-clause-served g c =
    let a = first_place c.args.who (g.B.Iio.told c.args.iio.now) in
    (a, nothing_heard (g.B.Iio.front (g.B.Iio.kept c.args.iio.now)) a (g.L.Link.left c.args.link.now) (g.L.Link.written c.args.link.now), tt)

pub returns-clause-served : goal.returns-clause-served
returns-clause-served g c =
    let last = place_of g.B.Iio.seen (g.B.Iio.told c.talk-end.new.iio) c.talk-end.new.session in
    let told = g.B.Iio.told c.args.iio.now in
    let s = c.talk-end.ensures.served in (
      s.0,
      served_all c.cut_anywhere.ensures.items c.cut_anywhere.ensures.scanner (g.B.Iio.front (g.B.Iio.kept c.args.iio.now)) (first_place c.args.who told)
          (place_of g.B.Iio.seen told c.in-Ok.session) s.0 c.talk-end.result
          (g.L.Link.left c.args.link.now) (g.L.Link.written c.args.link.now) (g.L.Link.left c.talk-end.new.link) (g.L.Link.written c.talk-end.new.link)
          (is_first_place g.B.Iio.seen told c.args.who c.in-Ok.session c.in-Ok.ensures) s.1,
      closed_by (g.B.Iio.front (g.B.Iio.kept c.args.iio.now)) c.talk-end.result s.0 last (g.B.Iio.told c.end.new.iio) s.2
          (subst (λ k. IfSome (g.B.Iio.told c.talk-end.new.iio)
          (λ m. g.B.Iio.told c.end.new.iio ≡ Some (left_machine (g.B.Iio.front k) m (client_of g.B.Iio.seen c.talk-end.new.session.client))))
          c.talk-end.ensures.kept c.end.ensures.told),
    )
