use Rattle.std.proofs.Common.{Ok, ap}
use Rattle.iiod_commands.specs.Client.{ClientRecord}
use Rattle.iiod_session.proofs.FeedLaws.{feeds_given}
use Rattle.iiod_session.proofs.HearLaws.{waits_by}
use Rattle.iiod_session.proofs.GivenLaws.{seated}
use Rattle.iiod_session.proofs.StreamLaws.{scan_end}
use Rattle.iiod_session.proofs.TellLaws.{feed_tells}
use Rattle.iiod_session.proofs.WatchLaws.{carries_of}
use Rattle.iiod_session.proofs.session.Session.feed_watched.Goals as goal

pub returns-in-Ok-clause-feeds : goal.returns-in-Ok-clause-feeds
returns-in-Ok-clause-feeds g c =
    rw (← c.self.view_is) (feeds_given c.self.inside.manner _ _ _ c.in-Ok.going
    (seated g.I.Iio.seen _ c.self.inside.client (rw (← c.self.view_is) at c.requires))
    (carries_of c.self.inside.manner _ _ _ c.in-Ok.going c.in-Ok.ensures.hears))

pub returns-in-Ok-clause-script : goal.returns-in-Ok-clause-script
returns-in-Ok-clause-script g c =
    rw (← c.self.view_is) (feed_tells c.self.inside.manner _ _ _ (Ok c.in-Ok.going) c.in-Ok.ensures.all
    (carries_of c.self.inside.manner _ _ _ c.in-Ok.going c.in-Ok.ensures.hears))

pub returns-in-Ok-clause-watched : goal.returns-in-Ok-clause-watched
returns-in-Ok-clause-watched g c =
    rw (← c.self.view_is)
    (rw (
      waits_by c.self.inside.lines c.self.inside.pending c.self.inside.left.items c.self.inside.going c.self.invariant,
      waits_by c.hear.new.lines c.hear.new.pending c.hear.new.left.items c.in-Ok.going c.in-Ok.ensures.ready,
    ) c.in-Ok.ensures.hears)

pub returns-in-Err-clause-gone : goal.returns-in-Err-clause-gone
returns-in-Err-clause-gone g c = (c.leave.ensures.none, ap (λ (d : ClientRecord). d.holdings) c.leave.ensures.left, scan_end c.hear.new.left.items)
