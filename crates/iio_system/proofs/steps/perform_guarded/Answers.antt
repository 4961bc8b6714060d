use Rattle.iio_system.proofs.ApartLaws.{apart_same}
use Rattle.iio_system.proofs.GuardedLaws.{met_drop, met_feed, met_other}
use Rattle.iio_system.proofs.PlayLaws.{made_step}
use Rattle.iio_system.proofs.steps.perform_guarded.Goals as goal

pub returns-in-Feed-clause-meets : goal.returns-in-Feed-clause-meets
returns-in-Feed-clause-meets g c =
    met_feed _ c.args.watched.now c.in-Feed.name c.in-Feed.bytes c.bytes.result.now c.args.step.now c.args.bench.now c.args.connections.now.items
    c.feed_guarded.result c.in-Feed.is c.bytes.ensures c.feed_guarded.ensures.meets

pub returns-in-Drop-clause-makes : goal.returns-in-Drop-clause-makes
returns-in-Drop-clause-makes g c =
    made_step _ c.args.step.now c.args.bench.now c.drop_guarded.new.bench c.args.connections.now.items c.drop_guarded.new.connections.items _ _
    c.drop_guarded.result (rw c.in-Drop.is c.drop_guarded.ensures.makes)

pub returns-in-Drop-clause-meets : goal.returns-in-Drop-clause-meets
returns-in-Drop-clause-meets g c =
    met_drop _ c.args.watched.now c.in-Drop.name c.args.step.now c.args.bench.now c.args.connections.now.items c.drop_guarded.result c.in-Drop.is
    c.drop_guarded.ensures.meets

pub returns-in_ok-perform-in_default-clause-meets :
    goal.returns-in_ok-perform-in_default-clause-meets
returns-in_ok-perform-in_default-clause-meets g c =
    met_other _ c.args.watched.now c.args.step.now c.args.bench.now c.args.connections.now.items c.in_default.not-Feed c.in_default.not-Drop

pub returns-in-Drop-clause-apart : goal.returns-in-Drop-clause-apart
returns-in-Drop-clause-apart g c = apart_same c.args.connections.now.items _ c.drop_guarded.ensures.names c.requires.apart
