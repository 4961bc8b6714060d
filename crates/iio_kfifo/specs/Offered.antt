-- What an answer to an offer counts. (This project's own, after the kernel's bounded buffer: a full one takes nothing.)
use Rattle.std.specs.Prelude.{◌≡◌, ℕ, ◌+◌}
use Rattle.iio_kfifo.specs.declared.tail.Offered.{Offered}
use Rattle.iio_kfifo.specs.declared.tail.Offered.TheVariants.{Taken, Lost}

-- a scan taken in adds one to the first number alone, and a scan lost one to the second alone
abbrev pub CountsOne : Offered → ℕ → ℕ → ℕ → ℕ → Type 0
CountsOne Taken taken lost taken' lost' = (taken' ≡ taken + 1) × (lost' ≡ lost)
CountsOne Lost taken lost taken' lost' = (taken' ≡ taken) × (lost' ≡ lost + 1)
