use Rattle.iio_script.proofs.TallyLaws.{alone, described, refused}
use Rattle.iio_script.proofs.stop.tally.Goals as goal

pub returns-in-Ok-Described : goal.returns-in-Ok-Described
returns-in-Ok-Described c =
    described c.args.text.now c.in-Ok-Described.desc c.in-Ok-Described.first c.open.new.lines _ c.tally_steps.result c.open.ensures.hand
    (rw c.in-Ok-Described.field-0-is at c.in-Ok-Described.ensures.opening) (c.tally_steps.ensures c.args.text.now)

pub returns-in-Ok-Alone : goal.returns-in-Ok-Alone
returns-in-Ok-Alone c =
    alone c.args.text.now c.in-Ok-Alone.desc c.tally_alone.result (rw c.in-Ok-Alone.field-0-is at c.in-Ok-Alone.ensures.opening) c.tally_alone.ensures

pub returns-in-Ok-Refused : goal.returns-in-Ok-Refused
returns-in-Ok-Refused c =
    refused c.args.text.now c.in-Ok-Refused.line c.in-Ok-Refused.why _ (rw c.in-Ok-Refused.field-0-is at c.in-Ok-Refused.ensures.opening)
