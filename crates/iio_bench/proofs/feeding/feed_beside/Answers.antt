use Rattle.std.proofs.Common.{◌++◌, ap}
use Rattle.iio_bench.specs.Guard.{connections_of}
use Rattle.iio_bench.proofs.SaidLaws.{beside_meets}
use Rattle.iio_bench.proofs.feeding.feed_beside.Goals as goal

pub returns-clause-meets : goal.returns-clause-meets
returns-clause-meets g c =
    beside_meets c.args.connection.now.name c.args.bytes.now _ _ c.args.connection.now.session c.args.out.now.items c.args.watched.now
    (c.args.before.now ++ c.args.after.now) c.new-watch.result c.feed_at.new.watch
    c.new-watch.ensures.meets c.new-watch.ensures.mine c.new-watch.ensures.watched c.new-watch.ensures.own (ap connections_of c.new-watch.ensures.others)
    c.in_ok-feed_at.ensures.watches
