use Rattle.std.proofs.Common.{arith}
use Rattle.std.proofs.lemmas.Bool.Decides.{nat_tests}
use Rattle.iiod_serve.proofs.WordLaws.{no_period}
use Rattle.iiod_serve.proofs.words.read_period.Goals as goal
use Rattle.iiod_serve.proofs.words.read_period.Goals.{then-n-lt-MIN_PERIOD-via-then-n-lt-MIN_PERIOD, then-n-lt-MIN_PERIOD-via-else-n-lt-MIN_PERIOD+then-n-gt-MAX_PERIOD}

pub returns-then-n-lt-MIN_PERIOD-clause-none : goal.returns-then-n-lt-MIN_PERIOD-clause-none
returns-then-n-lt-MIN_PERIOD-clause-none c = λ is_none n one most is.
    no_period c.args.text.now c.in-Some.n n c.in-Some.ensures.found
    (λ a b.
    elim c.then-n-lt-MIN_PERIOD.branch [
      | then-n-lt-MIN_PERIOD-via-then-n-lt-MIN_PERIOD w ↦ grind (arith, nat_tests, w.if-n-lt-MIN_PERIOD.true)
      | then-n-lt-MIN_PERIOD-via-else-n-lt-MIN_PERIOD+then-n-gt-MAX_PERIOD w ↦ grind (arith, nat_tests, w.if-n-gt-MAX_PERIOD.true)
    ]) one most is
