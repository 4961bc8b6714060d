-- What one read takes from the bytes that are left, and one write adds to the bytes written. (This
-- project's own: the outside is a list of bytes left, a list of bytes written and a count of faults.)
use Rattle.std.specs.Prelude.{◌≡◌, ℕ, ◌≤◌, ◌<◌, List, ◌++◌, length, take, drop, Option, Some}

-- a read gave `count` bytes, at the front of `into`: the next of the `before` that were left. `after` are left then
pub record Takes (before into : List ℕ) (count : ℕ) (after : Option (List ℕ)) : Type 0 where
  pub enough : count ≤ length before
  pub bytes : take count into ≡ take count before
  pub rest : after ≡ Some (drop count before)

-- `items` are the bytes `before` up to `most` of them, and these were taken. `after` are left then
pub record TakesUpTo (before : List ℕ) (most : ℕ) (items : List ℕ) (after : Option (List ℕ)) : Type 0 where
  pub bytes : items ≡ take most before
  pub rest : after ≡ Some (drop most before)

-- at most `most` of the bytes `before` were taken, from their front. `after` are left then
pub record TakesAtMost (before : List ℕ) (most : ℕ) (after : Option (List ℕ)) : Type 0 where
  pub count : ℕ
  pub within : count ≤ most
  pub rest : after ≡ Some (drop count before)

-- a front part of `bytes`, but not all of it, was appended to `before`. `after` is what is written then
pub record WritesPart (before bytes : List ℕ) (after : Option (List ℕ)) : Type 0 where
  pub count : ℕ
  pub short : count < length bytes
  pub appended : after ≡ Some (before ++ take count bytes)
