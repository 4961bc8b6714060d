use Rattle.std.proofs.Common.{rules, true, false, sym, refl, append-nil}
use Rattle.iio_bench.proofs.FeedingLaws.{has_fed}
use Rattle.iio_bench.proofs.WatchLaws.{watches_as}
use Rattle.iio_bench.proofs.connection.feed_at.Goals as goal

pub returns-in_ok-end-clause-fed : goal.returns-in_ok-end-clause-fed
returns-in_ok-end-clause-fed g c =
    has_fed g.I.Iio.seen _ _ c.args.bytes.now c.push_feed.new.out.items _ _ c.in-Some.session c.hear.new.session true
    c.clear.ensures.items c.in_ok-ended.ensures.heard (search rules) (search rules) (search rules) (search rules) c.end.ensures.ended

pub returns-else-ended-clause-fed : goal.returns-else-ended-clause-fed
returns-else-ended-clause-fed g c =
    has_fed g.I.Iio.seen _ _ c.args.bytes.now c.push_feed.new.out.items _ _ c.in-Some.session c.hear.new.session false
    c.clear.ensures.items c.in_ok-ended.ensures.heard (search rules) (search rules) (sym (append-nil c.push_feed.new.out.items)) (search rules) refl

pub returns-in_ok-end-clause-watches : goal.returns-in_ok-end-clause-watches
returns-in_ok-end-clause-watches g c =
    watches_as g.I.Iio.seen g.W.Watch.makes (record { front = _; told = _; connection = c.args.connection.now; printed = c.args.out.now.items })
    c.args.bytes.now c.in-Some.session _ _ (search rules) c.in_ok-ended.ensures.watches

pub returns-else-ended-clause-watches : goal.returns-else-ended-clause-watches
returns-else-ended-clause-watches g c =
    watches_as g.I.Iio.seen g.W.Watch.makes (record { front = _; told = _; connection = c.args.connection.now; printed = c.args.out.now.items })
    c.args.bytes.now c.in-Some.session _ _ (search rules) c.in_ok-ended.ensures.watches
