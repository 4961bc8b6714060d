use Rattle.std.proofs.Common.{rules, arith}
use Rattle.std.proofs.lemmas.Grind.{common_steps, elements}
use Rattle.iio_system.proofs.ApartLaws.{apart_same}
use Rattle.iio_system.proofs.GuardedLaws.{meets_between}
use Rattle.iio_system.proofs.PlayLaws.{front_kept, on_ok}
use Rattle.iio_system.proofs.SplitLaws.{StandsAt, feeds_between, kept_between, names_between, owned_between, stands_at, written}
use Rattle.iio_system.proofs.connections.feed_guarded.Goals as goal

pub returns-clause-owned : goal.returns-clause-owned
returns-clause-owned g c =
    let at : StandsAt c.args.name.now c.args.connections.now.items c.split_at_mut-before.result.0.now c.in-Some-split_first_mut.connection.now
    c.in-Some-split_first_mut.after.now =
    stands_at _ _ _ c.split_at_mut-before.result.1.now _ _ c.in-Some.at (search rules) c.in-Some-split_first_mut.ensures.cases.0
    c.split_at_mut-before.ensures.front_len
    (rw (c.in-Some.is, c.deref.ensures.value) at c.place.ensures) in
    owned_between _ _ _ _ _ at _ _ c.feed_beside.new.connection _ (written _ _ _ _ _ at c.args.connections.now.len c.feed_beside.new.connection (search rules))
    (front_kept c.args.bench.now c.feed_beside.new.bench c.feed_beside.ensures.kept) c.requires.owned c.feed_beside.ensures.client

pub returns-clause-names : goal.returns-clause-names
returns-clause-names g c =
    let at : StandsAt c.args.name.now c.args.connections.now.items c.split_at_mut-before.result.0.now c.in-Some-split_first_mut.connection.now
    c.in-Some-split_first_mut.after.now =
    stands_at _ _ _ c.split_at_mut-before.result.1.now _ _ c.in-Some.at (search rules) c.in-Some-split_first_mut.ensures.cases.0
    c.split_at_mut-before.ensures.front_len
    (rw (c.in-Some.is, c.deref.ensures.value) at c.place.ensures) in
    on_ok c.feed_beside.result
    (names_between _ _ _ _ _ at c.feed_beside.new.connection _ c.args.bytes.now
    (written _ _ _ _ _ at c.args.connections.now.len c.feed_beside.new.connection (search rules)) c.feed_beside.ensures.name)

pub returns-clause-makes : goal.returns-clause-makes
returns-clause-makes g c =
    let at : StandsAt c.args.name.now c.args.connections.now.items c.split_at_mut-before.result.0.now c.in-Some-split_first_mut.connection.now
    c.in-Some-split_first_mut.after.now =
    stands_at _ _ _ c.split_at_mut-before.result.1.now _ _ c.in-Some.at (search rules) c.in-Some-split_first_mut.ensures.cases.0
    c.split_at_mut-before.ensures.front_len
    (rw (c.in-Some.is, c.deref.ensures.value) at c.place.ensures) in
    feeds_between _ _ _ _ _ at _ c.args.bench.now c.feed_beside.new.bench c.feed_beside.new.connection _ c.args.bytes.now _ _ c.feed_beside.result
    (written _ _ _ _ _ at c.args.connections.now.len c.feed_beside.new.connection (search rules)) c.feed_beside.ensures.name c.feed_beside.ensures.kept
    c.feed_beside.ensures.client c.feed_beside.ensures.fed

pub returns-clause-meets : goal.returns-clause-meets
returns-clause-meets g c =
    let at : StandsAt c.args.name.now c.args.connections.now.items c.split_at_mut-before.result.0.now c.in-Some-split_first_mut.connection.now
    c.in-Some-split_first_mut.after.now =
    stands_at _ _ _ c.split_at_mut-before.result.1.now _ _ c.in-Some.at (search rules) c.in-Some-split_first_mut.ensures.cases.0
    c.split_at_mut-before.ensures.front_len
    (rw (c.in-Some.is, c.deref.ensures.value) at c.place.ensures) in
    meets_between _ c.stance_law.ensures.clients c.args.bench.now _ _ _ _ c.args.watched.now c.args.name.now c.args.bytes.now
    c.args.out.now.items c.feed_beside.result at
    c.feed_beside.ensures.meets

pub returns-clause-apart : goal.returns-clause-apart
returns-clause-apart g c =
    let at : StandsAt c.args.name.now c.args.connections.now.items c.split_at_mut-before.result.0.now c.in-Some-split_first_mut.connection.now
    c.in-Some-split_first_mut.after.now =
    stands_at _ _ _ c.split_at_mut-before.result.1.now _ _ c.in-Some.at (search rules) c.in-Some-split_first_mut.ensures.cases.0
    c.split_at_mut-before.ensures.front_len
    (rw (c.in-Some.is, c.deref.ensures.value) at c.place.ensures) in
    apart_same c.args.connections.now.items _
    (kept_between _ _ _ _ _ at c.feed_beside.new.connection _
    (written _ _ _ _ _ at c.args.connections.now.len c.feed_beside.new.connection (search rules)) c.feed_beside.ensures.name)
    c.requires.apart

pub feed_beside-requires : goal.feed_beside-requires
feed_beside-requires g c = grind (arith, elements)

pub returns-clause-few : goal.returns-clause-few
returns-clause-few g c = grind (arith, common_steps)
