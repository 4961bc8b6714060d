-- The place of a device's row among rows in the order of devices. No public clause cites this file: it's what the trigger's own
-- look-ups answer.
use Rattle.std.specs.Prelude.{◌≡◌, ℕ, ◌≤◌, ◌<◌, List, [], ◌∷◌, length, slice_index_or, nat_lt}
use Rattle.std.specs.List.{prefix_len}

module _ {X : Type 0} (dev_of : X → ℕ) where
  -- the number of rows of devices before this one
  abbrev pub rank : ℕ → List X → ℕ
  rank dev xs = prefix_len (λ x. nat_lt (dev_of x) dev) xs

  -- a row of another device, and rows that are all of other devices
  abbrev pub IsOther : ℕ → X → Type 0
  IsOther dev x = dev_of x ≡ dev → ⊥

  abbrev pub AllOther : ℕ → List X → Type 0
  AllOther dev [] = Unit {0}
  AllOther dev (x ∷ xs) = IsOther dev x × AllOther dev xs

  -- the device's row is at place `i`, after the rows of devices before it
  pub record StandsAt (dev : ℕ) (xs : List X) (i : ℕ) : Type 0 where
    pub within : i < length xs
    pub ranked : rank dev xs ≡ i
    pub same : (d : X) → dev_of (slice_index_or xs i d) ≡ dev

  -- no row is the device's, and `i` is where it would be inserted
  pub record WouldStandAt (dev : ℕ) (xs : List X) (i : ℕ) : Type 0 where
    pub ranked : rank dev xs ≡ i
    pub within : i ≤ length xs
    pub others : AllOther dev xs
