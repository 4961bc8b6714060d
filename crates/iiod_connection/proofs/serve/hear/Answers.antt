use Rattle.std.proofs.Common.{rules, ◌≡◌, Err, ap}
use Rattle.iiod_connection.specs.Place.{place_of}
use Rattle.iiod_connection.proofs.TalkLaws.{once_err, sends_once, turns_on}
use Rattle.iiod_connection.proofs.serve.hear.Goals as goal

pub returns-in_err-going-clause-turns : goal.returns-in_err-going-clause-turns
returns-in_err-going-clause-turns g c =
    let e = c.in_err-going.field-0.0 in
    let is : c.from_residual.result ≡ Err e = search rules in
    rw is (once_err (g.B.Iio.front (g.B.Iio.kept c.args.iio.now)) (place_of g.B.Iio.seen (g.B.Iio.told c.args.iio.now) c.args.session.now)
    (place_of g.B.Iio.seen (g.B.Iio.told c.feed_and_send.new.iio) c.feed_and_send.new.session) c.args.part.now (g.L.Link.written c.args.link.now)
    (g.L.Link.written c.feed_and_send.new.link) e c.in_err-going.ensures.sends)

pub returns-clause-turns : goal.returns-clause-turns
returns-clause-turns g c =
    let front = g.B.Iio.front (g.B.Iio.kept c.args.iio.now) in
    let a = place_of g.B.Iio.seen (g.B.Iio.told c.args.iio.now) c.args.session.now in
    let m = place_of g.B.Iio.seen (g.B.Iio.told c.feed_and_send.new.iio) c.feed_and_send.new.session in
    let b = place_of g.B.Iio.seen (g.B.Iio.told c.settle.new.iio) c.settle.new.session in
    let old = g.L.Link.written c.args.link.now in
    let mid = g.L.Link.written c.feed_and_send.new.link in
    turns_on front (g.B.Iio.front (g.B.Iio.kept c.feed_and_send.new.iio)) a m b c.args.part.now old mid (g.L.Link.written c.settle.new.link) c.settle.result
    (ap g.B.Iio.front c.feed_and_send.ensures.kept)
    (sends_once front a m c.args.part.now old mid c.in_ok-going.going c.in_ok-going.ensures.sends) c.settle.ensures.turns
