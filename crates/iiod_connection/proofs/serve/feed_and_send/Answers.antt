use Rattle.std.proofs.Common.{sym, ◌∙◌}
use Rattle.iiod_connection.specs.Place.{place_of}
use Rattle.iiod_connection.proofs.TalkLaws.{feeds_once, on_err, on_ok, part_of, stands_by}
use Rattle.iiod_connection.proofs.serve.feed_and_send.Goals as goal

pub returns-then-is_err-clause-sends : goal.returns-then-is_err-clause-sends
returns-then-is_err-clause-sends g c =
    let fed =
    feeds_once (g.B.Iio.front (g.B.Iio.kept c.args.iio.now)) c.args.session.now.manner (place_of g.B.Iio.seen (g.B.Iio.told c.args.iio.now) c.args.session.now)
    (place_of g.B.Iio.seen (g.B.Iio.told c.feed.new.iio) c.feed.new.self)
    c.args.bytes.now c.clear.new.self.items c.feed.new.out.items c.deref.result.now c.in-Ok.going c.requires.manner c.clear.ensures.items
    (sym c.deref.ensures.value) c.in-Ok.ensures.feeds in (
      c.deref.result.now,
      c.in-Ok.going,
      fed,
      part_of _ _ _
          (on_err c.send_whole.result _ (sym c.is_err.ensures.value ∙ c.if-is_err.true) c.send_whole.ensures.part),
    )

pub returns-clause-sends : goal.returns-clause-sends
returns-clause-sends g c =
    let fed =
    feeds_once (g.B.Iio.front (g.B.Iio.kept c.args.iio.now)) c.args.session.now.manner (place_of g.B.Iio.seen (g.B.Iio.told c.args.iio.now) c.args.session.now)
    (place_of g.B.Iio.seen (g.B.Iio.told c.feed.new.iio) c.feed.new.self)
    c.args.bytes.now c.clear.new.self.items c.feed.new.out.items c.deref.result.now c.in-Ok.going c.requires.manner c.clear.ensures.items
    (sym c.deref.ensures.value) c.in-Ok.ensures.feeds in (
      c.deref.result.now,
      fed,
      on_ok c.send_whole.result _ (sym c.is_err.ensures.value ∙ c.if-is_err.false) c.send_whole.ensures.whole,
      stands_by _ _ _ _ _
          c.in-Ok.going fed c.in-Ok.ensures.all,
    )
