use Rattle.std.proofs.Common.{◌∙◌}
use Rattle.iio_system.proofs.GuardedLaws.{meets_drop}
use Rattle.iio_system.proofs.connections.drop_guarded.Goals as goal

pub returns-clause-meets : goal.returns-clause-meets
returns-clause-meets g c =
    meets_drop _ c.stance_law.ensures.clients c.args.bench.now c.args.connections.now.items c.args.watched.now c.args.name.now c.may_end-meets.result
    (rw (c.all.ensures ∙ c.deref.ensures.value, c.is.ensures) at c.may_end-meets.ensures)
