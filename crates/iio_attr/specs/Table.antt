-- The table of attributes as the code has it: rows with the attribute beside them. No public clause cites this file.
use Rattle.std.specs.Prelude.{ℕ, Bool, ◌&&◌, if◌then◌else◌, List, [], ◌∷◌, Option, Some, None, bytes_eq}
use Rattle.iio_attr.specs.declared.attributes.Attr.{Attr}
use Rattle.iio_attr.specs.declared.attributes.Scope.{Scope}
use Rattle.iio_attr.specs.declared.attributes.Row.{Row}
use Rattle.iio_attr.specs.Attributes.{same_scope}

-- whether a row is the one of that name in that scope
abbrev pub is_row : Row → Scope → List ℕ → Bool
is_row row scope name = same_scope row.1 scope && bytes_eq row.2.now name

-- the attribute of the first such row
abbrev pub find_row : List Row → Scope → List ℕ → Option Attr
find_row [] scope name = None
find_row (row ∷ rows) scope name = if is_row row scope name then Some row.0 else find_row rows scope name
