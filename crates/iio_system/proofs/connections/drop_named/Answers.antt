use Rattle.std.proofs.Common.{rules}
use Rattle.iio_system.proofs.PlayLaws.{drops_nowhere, drops_there, names_kept}
use Rattle.iio_system.proofs.connections.drop_named.Goals as goal

pub returns-in-Some-clause-names : goal.returns-in-Some-clause-names
returns-in-Some-clause-names g c =
    names_kept c.args.connections.now.items c.in-Some.at c.index_mut.result.now c.lose-was_live.new.connection c.args.name.now
    (rw (c.in-Some.is, c.deref.ensures.value) at c.place.ensures) c.index_mut.ensures.value c.lose-was_live.ensures.name

pub returns-in-Some-clause-makes : goal.returns-in-Some-clause-makes
returns-in-Some-clause-makes g c =
    drops_there _ c.args.bench.now c.lose-was_live.new.bench c.args.connections.now.items c.in-Some.at c.index_mut.result.now c.lose-was_live.new.connection
    c.args.name.now _ _ c.lose-was_live.result c.push_drop.result
    (rw (c.in-Some.is, c.deref.ensures.value) at c.place.ensures) c.index_mut.ensures.value c.lose-was_live.ensures.name c.lose-was_live.ensures.ended
    c.lose-was_live.ensures.live
    c.lose-was_live.ensures.kept c.lose-was_live.ensures.told (search rules)

pub returns-in-None-clause-makes : goal.returns-in-None-clause-makes
returns-in-None-clause-makes g c =
    drops_nowhere _ c.args.bench.now c.args.connections.now.items c.args.name.now _ _ c.push_drop-in-None.result
    (rw (c.in-None.is, c.deref.ensures.value) at c.place.ensures) (search rules)
