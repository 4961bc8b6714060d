-- Masks of bytes that are looked at at once. Cited by private functions alone.
use Rattle.std.specs.Prelude.{ℕ, ◌==◌, if◌then◌else◌}
use Rattle.std.specs.Int.{w64, trailing_zeros}

-- the place of the lowest bit of a mask of sixteen bits, or sixteen if none is set
abbrev pub first_set : ℕ → ℕ
first_set mask = if mask == 0 then 16 else trailing_zeros w64 mask
