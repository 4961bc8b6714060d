-- What a door hands out, and a ticker; and how calls of the outside are counted. (This project's own: connections are
-- known by their number, moments by their list.)
use Rattle.std.specs.Prelude.{◌≡◌, ◌↔◌, ℕ, ◌+◌, ◌-◌, ◌≤◌, List, [], ◌∷◌, take, drop, Option, Some, Result, IfOk, OnErr, IsErr, MatchResult}
use Rattle.iio_io.specs.declared.traits.Failed.{Failed}
use Rattle.iio_io.specs.Memory.{IsListed, one_more}

-- a count of faults rises by one if the call failed, and stays otherwise
abbrev pub CountsFault : {A : Type 0} → Result A Failed → ℕ → ℕ → Type 0
CountsFault result before after = MatchResult result (λ _. after ≡ before) (λ _. after ≡ before + 1)

-- one of the `before` that were left was given. `after` are left then
pub record TakesOne (before : ℕ) (after : Option ℕ) : Type 0 where
  pub some : 1 ≤ before
  pub rest : after ≡ Some (before - 1)

-- `first` is the first of those that were left, and was given. `after` are left then
pub record TakesFirst {A : Type 0} (before : List A) (first : A) (after : Option (List A)) : Type 0 where
  pub given : take 1 before ≡ first ∷ []
  pub rest : after ≡ Some (drop 1 before)

-- a door over a list, as contracts see it: the links that are left, the calls that fail (counted from 1), the calls
-- so far and the calls that failed so far
pub record Links (L : Type 0) : Type 0 where
  pub left : List L
  pub fails : List ℕ
  pub calls : ℕ
  pub faults : ℕ

-- a call at a door over a list: it fails exactly if it is listed, and then leaves the links as they are
pub record CallsDoor {L : Type 0} {A : Type 0} (old : Links L) (result : Result A Failed) (new : Links L) : Type 0 where
  pub fails : IsErr result ↔ IsListed old.fails old.calls
  pub ok : IfOk result (λ _. new ≡ record old { left = new.left; calls = one_more old.calls })
  pub err : OnErr result (new ≡ record old { calls = one_more old.calls; faults = old.faults + 1 })

-- a ticker by the clock: the nanoseconds from tick to tick, and the number of the tick that was given last
pub record Ticks : Type 0 where
  pub period : ℕ
  pub ticks : ℕ
