use Rattle.iio_script.proofs.FollowLaws.{takes_at_most}
use Rattle.iio_script.proofs.keeping.keep_described.Goals as goal

pub returns-in_default-clause-keeps : goal.returns-in_default-clause-keeps
returns-in_default-clause-keeps g c =
    λ input front more follows looked. (tt, takes_at_most input front c.args.lines.now (g.S.Source.left c.args.input.now) c.requires.hand follows)

pub returns-in_default-new-clause-keeps : goal.returns-in_default-new-clause-keeps
returns-in_default-new-clause-keeps g c =
    λ input front more follows looked. (tt, takes_at_most input front c.args.lines.now (g.S.Source.left c.args.input.now) c.requires.hand follows)

pub returns-clause-keeps : goal.returns-clause-keeps
returns-clause-keeps g c =
    λ input front more follows looked. c.keep_steps.ensures.keeps _ input front more c.in-Ok-new.ensures.stands c.in-Ok.ensures follows looked
