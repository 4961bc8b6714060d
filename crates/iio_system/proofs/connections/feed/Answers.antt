use Rattle.iio_system.proofs.ApartLaws.{apart_same}
use Rattle.iio_system.proofs.PlayLaws.{feeds_there, names_kept, names_there, on_ok}
use Rattle.iio_system.proofs.connections.feed.Goals as goal

pub returns-clause-apart : goal.returns-clause-apart
returns-clause-apart g c =
    apart_same c.args.connections.now.items _
    (names_kept c.args.connections.now.items c.in-Some.at c.index_mut.result.now c.feed_unwatched.new.connection c.args.name.now
    (rw (c.in-Some.is, c.deref.ensures.value) at c.place_near.ensures) c.index_mut.ensures.value c.feed_unwatched.ensures.name)
    c.requires.apart

pub returns-clause-names : goal.returns-clause-names
returns-clause-names g c =
    on_ok c.feed_unwatched.result
    (names_there c.args.connections.now.items c.in-Some.at c.index_mut.result.now c.feed_unwatched.new.connection c.args.name.now c.args.bytes.now
    (rw (c.in-Some.is, c.deref.ensures.value) at c.place_near.ensures) c.index_mut.ensures.value c.feed_unwatched.ensures.name)

pub returns-clause-makes : goal.returns-clause-makes
returns-clause-makes g c =
    feeds_there _ c.args.bench.now c.feed_unwatched.new.bench c.args.connections.now.items c.in-Some.at c.index_mut.result.now
    c.feed_unwatched.new.connection c.args.name.now c.args.bytes.now _ _ c.feed_unwatched.result
    (rw (c.in-Some.is, c.deref.ensures.value) at c.place_near.ensures) c.index_mut.ensures.value c.feed_unwatched.ensures.name c.feed_unwatched.ensures.kept
    c.feed_unwatched.ensures.client
    c.feed_unwatched.ensures.fed
