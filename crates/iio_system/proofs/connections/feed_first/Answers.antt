use Rattle.std.proofs.Common.{rules, ◌≡◌, [], ◌∷◌, ◌++◌, length, sym, ◌∙◌, subst, ℕ}
use Rattle.iio_system.specs.Standing.{IsNew}
use Rattle.iio_system.proofs.ApartLaws.{apart_more}
use Rattle.iio_system.proofs.PlayLaws.{feeds_new, front_kept, more_fit, more_owned, names_new, on_ok}
use Rattle.iio_system.proofs.connections.feed_first.Goals as goal

pub returns-clause-owned : goal.returns-clause-owned
returns-clause-owned g c =
    let items : c.push_reserved.new.self.items ≡ c.args.connections.now.items ++ c.feed_unwatched-fed.new.connection ∷ [] = search rules in
    rw items (more_owned _ _ c.args.connections.now.items c.feed_unwatched-fed.new.connection
    (front_kept c.args.bench.now c.feed_unwatched-fed.new.bench c.feed_unwatched-fed.ensures.kept) c.requires.owned c.feed_unwatched-fed.ensures.client)

pub returns-clause-few : goal.returns-clause-few
returns-clause-few g c =
    let items : c.push_reserved.new.self.items ≡ c.args.connections.now.items ++ c.feed_unwatched-fed.new.connection ∷ [] = search rules in
    rw items (more_fit c.args.connections.now.items c.feed_unwatched-fed.new.connection c.args.name.now (sym c.requires.absent) c.requires.taken)

pub returns-clause-names : goal.returns-clause-names
returns-clause-names g c =
    let items : c.push_reserved.new.self.items ≡ c.args.connections.now.items ++ c.feed_unwatched-fed.new.connection ∷ [] = search rules in
    rw items
    (on_ok c.feed_unwatched-fed.result
    (names_new c.args.connections.now.items c.feed_unwatched-fed.new.connection c.args.name.now c.args.bytes.now (sym c.requires.absent)
    (c.feed_unwatched-fed.ensures.name ∙ c.in_ok-connection.ensures.name_is)))

pub returns-clause-makes : goal.returns-clause-makes
returns-clause-makes g c =
    let items : c.push_reserved.new.self.items ≡ c.args.connections.now.items ++ c.feed_unwatched-fed.new.connection ∷ [] = search rules in
    let many : c.len.result ≡ length c.args.connections.now.items = search rules in
    rw items
    (feeds_new _ c.args.bench.now c.feed_unwatched-fed.new.bench c.args.connections.now.items c.in_ok-connection.connection
    c.feed_unwatched-fed.new.connection c.args.name.now c.args.bytes.now _ _ c.feed_unwatched-fed.result
    (sym c.requires.absent) (subst (λ (n : ℕ). IsNew c.args.name.now n c.in_ok-connection.connection) many c.in_ok-connection.ensures)
    c.feed_unwatched-fed.ensures.name c.feed_unwatched-fed.ensures.kept c.feed_unwatched-fed.ensures.client c.feed_unwatched-fed.ensures.fed)

pub returns-clause-apart : goal.returns-clause-apart
returns-clause-apart g c =
    let items : c.push_reserved.new.self.items ≡ c.args.connections.now.items ++ c.feed_unwatched-fed.new.connection ∷ [] = search rules in
    rw items
    (apart_more c.args.connections.now.items c.feed_unwatched-fed.new.connection c.args.name.now (sym c.requires.absent)
    (c.feed_unwatched-fed.ensures.name ∙ c.in_ok-connection.ensures.name_is) c.requires.apart)
