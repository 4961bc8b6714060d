use Rattle.iio_script.proofs.RunLaws.{end_failed, end_sent}
use Rattle.iio_script.proofs.ends.end_with.Goals as goal

pub returns-in-Ok-clause-prints : goal.returns-in-Ok-clause-prints
returns-in-Ok-clause-prints g c = λ outcome f. end_sent outcome c.args.status c.args.kept.now.items _ _ f c.in-Ok.ensures.whole

pub returns-in-Err-clause-prints : goal.returns-in-Err-clause-prints
returns-in-Err-clause-prints g c =
    λ outcome f. end_failed outcome c.args.status c.in-Err.fault c.args.kept.now.items _ _ f c.in-Err.ensures.err c.in-Err.ensures.part
