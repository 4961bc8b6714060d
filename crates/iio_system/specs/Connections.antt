-- The connections of a script.
use Rattle.std.specs.Prelude.{◌≡◌, ℕ, ◌<◌, All, false, List, length, slice_index_or}
use Rattle.std.specs.Str.{bytes_eq}
use Rattle.iio_core.specs.Front.{Front}
use Rattle.iiod_commands.specs.Seat.{SeatRecord}
use Rattle.iio_bench.specs.declared.connection.Connection.{Connection}
use Rattle.iio_bench.specs.Feeding.{IsOwning}

-- no two connections have the same name
abbrev pub AreApart : {S : Type 0} → List (Connection S) → Type 0
AreApart {S} connections =
    (i k : ℕ) (d : Connection S) → k < i → i < length connections
    → bytes_eq (slice_index_or connections k d).name (slice_index_or connections i d).name ≡ false

module _ {S : Type 0} (seen : S → SeatRecord) where
  -- what the sessions of all connections hold is owned
  abbrev pub AreOwning : Front → List (Connection S) → Type 0
  AreOwning front connections = All (λ c. IsOwning seen front c.session) connections
