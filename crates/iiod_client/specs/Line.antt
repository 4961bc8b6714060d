-- The lines of an answer. (libiio 0.25's iiod: numbers in decimal, an error as a negative number; the limits are this
-- project's own.)
use Rattle.std.specs.Prelude.{◌≡◌, ◌≢◌, ℕ, zero, suc, ◌≤◌, ◌==◌, if◌then◌else◌, List, [], ◌∷◌, ◌++◌, length, Option, Some, None}
use Rattle.std.specs.List.{AllByRecursion}
use Rattle.iio_text.specs.Numbers.{number_of}
use Rattle.iiod_client.specs.declared.line.TheConstants.{MAX_LINE}

-- a line with its LF
abbrev pub line_text : List ℕ → List ℕ
line_text line = line ++ 10 ∷ []

-- no LF is among the bytes
abbrev pub HasNoLf : List ℕ → Type 0
HasNoLf bytes = AllByRecursion (λ b. b ≢ 10) bytes

-- a line that may still end: no LF has come yet, and it isn't too long
pub record IsBegunLine (bytes : List ℕ) : Type 0 where
  pub few : length bytes ≤ MAX_LINE
  pub no_lf : HasNoLf bytes

-- a line without an LF that became too long with its last byte
pub record IsLongLine (bytes : List ℕ) : Type 0 where
  pub one_more : length bytes ≡ suc MAX_LINE
  pub no_lf : HasNoLf bytes

-- a number that isn't 0
abbrev pub unless_zero : Option ℕ → Option ℕ
unless_zero None = None
unless_zero (Some zero) = None
unless_zero (Some (suc n)) = Some (suc n)

-- the number n of a negative number line -n
abbrev pub refusal_of : List ℕ → Option ℕ
refusal_of [] = None
refusal_of (b ∷ bs) = if b == 45 then unless_zero (number_of bs) else None

-- the line `0`
abbrev pub zero_line : List ℕ
zero_line = 48 ∷ []
