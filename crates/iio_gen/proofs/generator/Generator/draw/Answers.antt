use Rattle.std.proofs.Common.{◌≡◌, ℕ, ◌+◌, ◌*◌, ◌/◌, ◌%◌, ap, arith}
use Rattle.iio_gen.specs.Generator.{next_state}
use Rattle.iio_gen.proofs.generator.Generator.draw.Goals as goal

-- the remainder may also be taken after the product
same_state : (x : ℕ) → (x * 6364136223846793005 % 18446744073709551616 + 1442695040888963407) % 18446744073709551616 ≡ next_state x
unfolding next_state
same_state x = omega arith

pub returns-clause-number : goal.returns-clause-number
returns-clause-number c = ap (λ y. y / 8589934592 % c.args.limit) (same_state c.args.self.now.state)

pub returns-clause-state : goal.returns-clause-state
returns-clause-state c = same_state c.args.self.now.state
