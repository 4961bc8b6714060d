-- A description with the names of another.
use Rattle.std.specs.Prelude.{◌≡◌, ℕ, List, length}
use Rattle.iio_desc.specs.Description.{Description, find_device, find_trigger, heads_of}

-- the one finds the same triggers and devices by their names as the other, and has the same number of them
pub record FindsSame (one other : Description) : Type 0 where
  pub triggers : (name : List ℕ) → find_trigger one name ≡ find_trigger other name
  pub devices : (name : List ℕ) → find_device one name ≡ find_device other name
  pub trigger_count : length one.triggers ≡ length other.triggers
  pub device_count : length (heads_of one) ≡ length (heads_of other)
