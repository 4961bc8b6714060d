use Rattle.std.proofs.Common.{rules, ◌==◌, not}
use Rattle.std.proofs.lemmas.Fn.{filter_same}
use Rattle.iio_device.specs.Groups.{GroupRecord}
use Rattle.iio_device.proofs.roster.drop_group.Goals as goal

pub returns-clause-kept : goal.returns-clause-kept
returns-clause-kept c = filter_same _ (λ (x : GroupRecord). not (x.mask == c.args.gone.bits)) _ (λ x b f' k. search rules) _ _ c.retain.ensures.filtered
