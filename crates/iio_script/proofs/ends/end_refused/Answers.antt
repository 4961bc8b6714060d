use Rattle.std.proofs.Common.{subst, List, ℕ}
use Rattle.iio_history.specs.Outcome.{only_ending}
use Rattle.iio_history.specs.Script.{Refused}
use Rattle.iio_script.specs.Ends.{Finishes}
use Rattle.iio_script.proofs.RunLaws.{end_none}
use Rattle.iio_script.proofs.ends.end_refused.Goals as goal

pub returns-in-Ok-clause-prints : goal.returns-in-Ok-clause-prints
returns-in-Ok-clause-prints g c =
    c.end_with.ensures.prints (only_ending (Refused c.args.line c.args.why))
    (subst (λ (b : List ℕ). Finishes (only_ending (Refused c.args.line c.args.why)) c.in-Ok.status b c.push_refused.new.out.items) c.new-kept.ensures.items
    c.in-Ok.ensures.ends)

pub returns-clause-prints : goal.returns-clause-prints
returns-clause-prints g c = end_none (only_ending (Refused c.args.line c.args.why)) _
