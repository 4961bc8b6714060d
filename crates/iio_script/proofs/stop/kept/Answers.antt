use Rattle.iio_script.proofs.stop.kept.Goals as goal

pub returns-in-Ok-Text : goal.returns-in-Ok-Text
returns-in-Ok-Text g c = rw c.in-Ok-Text.field-0-is at c.in-Ok-Text.ensures.keeps

pub returns-in-Ok-Refused : goal.returns-in-Ok-Refused
returns-in-Ok-Refused g c = rw c.in-Ok-Refused.field-0-is at c.in-Ok-Refused.ensures.keeps
