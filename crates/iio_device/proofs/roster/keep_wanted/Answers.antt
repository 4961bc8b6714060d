use Rattle.std.proofs.Common.{sym, ◌∙◌}
use Rattle.iio_device.specs.Members.{is_wanted}
use Rattle.iio_device.proofs.WantedLemmas.{dropped_is, shared_is}
use Rattle.iio_device.proofs.roster.keep_wanted.Goals as goal

pub returns-then-is_wanted-clause-kept : goal.returns-then-is_wanted-clause-kept
returns-then-is_wanted-clause-kept g c =
    sym (shared_is (λ mask. is_wanted c.args.members.now mask) c.args.gone.bits c.args.groups.now.items c.requires
    (sym c.is_wanted.ensures ∙ c.if-is_wanted.true))

pub returns-clause-kept : goal.returns-clause-kept
returns-clause-kept g c =
    c.drop_group.ensures.kept
    ∙ dropped_is (λ mask. is_wanted c.args.members.now mask) c.args.gone.bits c.args.groups.now.items c.requires
    (sym c.is_wanted.ensures ∙ c.if-is_wanted.false)
