use Rattle.std.proofs.Common.{◌∙◌}
use Rattle.iio_gen.proofs.TallyLaws.{counted_by, never_refused, short_by}
use Rattle.iio_gen.proofs.summary.count.Goals as goal

pub tally-requires : goal.tally-requires
tally-requires c = short_by c.args.n c.deref.result.now (c.deref.ensures.value ∙ c.in_ok-text.ensures)

pub returns-in-Ok : goal.returns-in-Ok
returns-in-Ok c = counted_by c.args.n c.deref.result.now c.in-Ok.counted (c.deref.ensures.value ∙ c.in_ok-text.ensures) c.in-Ok.ensures

pub unreachable-requires : goal.unreachable-requires
unreachable-requires c =
    never_refused c.args.n c.deref.result.now c.in-Err-Refused.field-0 c.in-Err-Refused.field-0-0 c.in-Err-Refused.field-0-1
    (c.deref.ensures.value ∙ c.in_ok-text.ensures) c.in-Err-Refused.ensures c.in-Err-Refused.field-0-is
