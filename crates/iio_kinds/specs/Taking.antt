-- What an input device's inner members take of a capture. Only this crate's private functions cite this file.
use Rattle.std.specs.Prelude.{◌≡◌, ℕ, true, false, ◌∷◌, List, [], map, drop, is_some, if◌then◌else◌}
use Rattle.std.specs.List.{AllByRecursion}
use Rattle.iio_device.specs.Site.{is_empty}
use Rattle.iio_core.specs.Machine.{Member, Station}
use Rattle.iio_kinds.specs.declared.in_device.Inner.{Inner}
use Rattle.iio_kinds.specs.Inner.{inner_at}

-- an inner member without its first scan
abbrev pub with_taken : List Inner → Member → Member
with_taken inners x = if is_some (inner_at inners x.number) then record x { scans = drop 1 x.scans } else x

abbrev pub all_taken : List Inner → Station → Station
all_taken inners st = record st { members = map (with_taken inners) st.members }

-- the room has what the inner members took, if all took the same scan
abbrev pub AreWaiting : List Inner → List Member → (scan : List ℕ) → Type 0
AreWaiting inners members scan = AllByRecursion (λ (x : Member). is_some (inner_at inners x.number) ≡ true → x.scans ≡ scan ∷ []) members

abbrev pub IsTakenOf : List Inner → List Member → (room : List ℕ) → Type 0
IsTakenOf inners members room = (scan : List ℕ) → AreWaiting inners members scan → is_empty inners ≡ false → room ≡ scan
