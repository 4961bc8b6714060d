-- Counts that stay at a bound, and sums that wrap.
use Rattle.std.proofs.Common.{◌≡◌, ℕ, ◌+◌, ◌≤◌, ◌%◌, min, sym, ◌∙◌, arith}
use Rattle.std.proofs.lemmas.Bool.Decides.{nat_tests}

-- a count that stayed at the bound stays there
pub most_more : (m a b : ℕ) → min (min a m + b) m ≡ min (a + b) m
most_more m a b = omega arith

pub most_both : (m a b : ℕ) → min (min a m + min b m) m ≡ min (a + b) m
most_both m a b = omega arith

pub most_twice : (m a : ℕ) → min (min a m) m ≡ min a m
most_twice m a = omega arith
