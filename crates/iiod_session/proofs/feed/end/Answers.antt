use Rattle.std.proofs.Common.{refl}
use Rattle.iiod_grammar.specs.Stream.{End}
use Rattle.iiod_session.proofs.HearLaws.{end_feeds}
use Rattle.iiod_session.proofs.feed.end.Goals as goal

pub returns-clause-hears : goal.returns-clause-hears
returns-clause-hears g c manner =
    end_feeds g.I.Iio.seen manner _ _ _ _ _ c.leave.new.client.held.items _ _ _ (c.before-2.ensures (End c.args.error) c.requires.seen) c.in_ok-push_end.ensures
    c.leave.ensures.told c.leave.ensures.left refl c.leave.ensures.none
