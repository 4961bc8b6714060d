-- A source and a sink in memory, as contracts see them. (This project's own.)
use Rattle.std.specs.Prelude.{◌≡◌, ℕ, ◌+◌, ◌<◌, ◌-◌, ◌^◌, List, length, Contains, min}

-- a source in memory: the bytes that it has left, the most that it gives a call, the calls that fail (counted
-- from 1), the calls so far and the calls that failed so far
pub record Feed : Type 0 where
  pub left : List ℕ
  pub piece : ℕ
  pub fails : List ℕ
  pub calls : ℕ
  pub faults : ℕ

-- a sink in memory: the bytes written so far, the most that it takes in all, the calls that fail, the calls so
-- far and the calls that failed so far
pub record Store : Type 0 where
  pub written : List ℕ
  pub room : ℕ
  pub fails : List ℕ
  pub calls : ℕ
  pub faults : ℕ

-- no room is left
abbrev pub IsFull : Store → Type 0
IsFull s = length s.written ≡ s.room

-- after `calls` calls the next one is listed among `fails`. Numbers of calls are of 64 bits
abbrev pub IsListed : List ℕ → ℕ → Type 0
IsListed fails calls = (calls + 1 < 2 ^ 64) × Contains fails (calls + 1)

-- with another call. The count stays at its type's end
abbrev pub one_more : ℕ → ℕ
one_more calls = min (calls + 1) (2 ^ 64 - 1)
