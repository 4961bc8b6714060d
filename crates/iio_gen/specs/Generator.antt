-- Numbers that are drawn from a state: a linear congruential generator, with the multiplier and the increment of Knuth's
-- MMIX. (That a number is made of the upper 31 bits of the state is this project's own.)
use Rattle.std.specs.Prelude.{ℕ, ◌+◌, ◌*◌, ◌/◌, ◌%◌, ◌^◌}
use Rattle.iio_gen.specs.declared.generator.TheConstants.{MULTIPLIER, INCREMENT}

-- the state after the next draw
unfoldable pub next_state : ℕ → ℕ
next_state x = (x * MULTIPLIER + INCREMENT) % 2 ^ 64

-- the result of draws and the state after them, by the state before them
abbrev pub Drawn : Type 0 → Type 0
Drawn A = ℕ → A × ℕ

-- a number below k
abbrev pub draw : ℕ → Drawn ℕ
draw k x = (next_state x / 2 ^ 33 % k, next_state x)

-- a result that needs no draw
abbrev pub given : {A : Type 0} → A → Drawn A
given a x = (a, x)

infixl 10 ◌>>=◌
-- `next` draws from the state after the first draws
abbrev pub ◌>>=◌ : {A B : Type 0} → Drawn A → (A → Drawn B) → Drawn B
(first >>= next) x = next (first x).0 (first x).1
