use Rattle.iio_bench.proofs.ConnectionLaws.{has_heard}
use Rattle.iio_bench.proofs.WatchLaws.{watches}
use Rattle.iio_bench.proofs.connection.hear.Goals as goal

pub returns-clause-heard : goal.returns-clause-heard
returns-clause-heard g c =
    has_heard g.I.Iio.seen _ _ _ c.args.session.now c.feed_watched.new.self c.args.bytes.now _ _ _ c.in_ok-feed_watched.ensures.feeds
    c.in_ok-feed_watched.ensures.all c.in_ok-feed_watched.ensures.manner c.in_ok-feed_watched.ensures.script

pub returns-clause-watches : goal.returns-clause-watches
returns-clause-watches g c =
    watches g.I.Iio.seen g.W.Watch.makes _ _ _ c.args.session.now c.feed_watched.new.self _ _ c.args.bytes.now _ _ _ c.in_ok-feed_watched.ensures.watched
    c.in_ok-feed_watched.ensures.all
