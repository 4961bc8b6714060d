-- Counts of faults. An outside object, such as a source of bytes, counts its own failures. The count never
-- falls, so that it rose within a call shows that the object failed in that call. (This project's own.)
use Rattle.std.specs.Prelude.{ℕ, ◌<◌}

-- the count was `before` when the call began, and is higher at its return
abbrev pub Rose : ℕ → ℕ → Type 0
Rose before after = before < after
