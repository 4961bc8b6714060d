use Rattle.std.proofs.Common.{◌≡◌, rules}
use Rattle.iio_device.proofs.SoundLemmas.{same_tables_for}
use Rattle.iio_device.proofs.roster.remake_for.Goals as goal

pub returns-then-eq-clause-remade : goal.returns-then-eq-clause-remade
returns-then-eq-clause-remade c =
    let same : c.args.active ≡ c.args.before = search rules in
    rw same (same_tables_for c.args.shape.now c.args.before c.args.groups.now.items c.requires.made)

pub remake_all-requires-clause-size : goal.remake_all-requires-clause-size
remake_all-requires-clause-size c = rw c.in-Some.is at c.requires.size.is
