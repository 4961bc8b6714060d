-- The mask that a sensor is asked under for the masks of its device's members. (Kernel, driver-api/iio: one active scan mask
-- serves all buffers of a device.)
use Rattle.std.specs.Prelude.{ℕ, Bool, List, [], ◌∷◌, Option, None, is_none}
use Rattle.iio_mask.specs.Mask.{union_of, union_of_all}
use Rattle.iio_layout.specs.Active.{active_of}
use Rattle.iio_layout.specs.Shape.{ShapeRecord}

-- if there is no member, there is no mask to ask under
abbrev pub active_for : ShapeRecord → List ℕ → Option ℕ
active_for shape [] = None
active_for shape (mask ∷ masks) = active_of shape (union_of_all (mask ∷ masks))

-- the mask for members of these masks and another one of that mask
abbrev pub active_beside : ShapeRecord → List ℕ → ℕ → Option ℕ
active_beside shape masks mask = active_of shape (union_of mask (union_of_all masks))

-- whether no mask serves them all
abbrev pub is_without_union : ShapeRecord → List ℕ → ℕ → Bool
is_without_union shape masks mask = is_none (active_beside shape masks mask)
