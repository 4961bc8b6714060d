-- The number of items that bytes make whole.
use Rattle.std.proofs.Common.{ℕ, ◌≤◌, List, [], ◌∷◌, length, arith, rules}
use Rattle.iiod_grammar.specs.Stream.{Scanner, after_byte, items_from}
use Rattle.iio_history.specs.Bench.{Every}
use Rattle.iio_history.specs.BenchLaw.{CanJoinMore}
use Rattle.iio_history.specs.Told.{Station}

pub items_few : (s : Scanner) (bytes : List ℕ) → length (items_from s bytes) ≤ length bytes
items_few s [] = omega arith
items_few s (b ∷ bs) = search (rules, items_few (after_byte s b).next bs)

-- ---- room for fewer members

pub room_less : (a b : ℕ) (sts : List Station) → a ≤ b → Every (CanJoinMore b) sts → Every (CanJoinMore a) sts
room_less a b [] less room = tt
room_less a b (st ∷ sts) less room = (omega (arith, less, room.0), room_less a b sts less room.1)
