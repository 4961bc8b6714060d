use Rattle.std.proofs.Common.{Err}
use Rattle.iiod_grammar.specs.Stream.{Said}
use Rattle.iiod_session.proofs.HearLaws.{at_once_feeds}
use Rattle.iiod_session.proofs.feed.hear_refused.Goals as goal

pub returns-clause-hears : goal.returns-clause-hears
returns-clause-hears g c lines pending is said =
    at_once_feeds _ _ _ _ _ _ pending _ lines _ _ _ is said tt (c.before-2.ensures (Said (Err c.args.why)) tt) c.in_ok-perform_refused.ensures.served
