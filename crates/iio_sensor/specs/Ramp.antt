-- A ramp as a driver. (This project's own.)
use Rattle.std.specs.Prelude.{ℕ, ◌+◌, ◌*◌, List, [], ℤ, pos, ◌+ℤ◌, Option}
use Rattle.std.specs.Int.{int_rem_euclid}
use Rattle.iio_sensor.specs.Driver.{Driver, bias_in}

-- the number for element k of channel c: the moment modulo 1000, which is never negative, plus 1000 for each channel before,
-- and 1 for each element before
abbrev pub number_at : ℕ → ℕ → ℤ → ℤ
number_at c k t = int_rem_euclid t (pos 1000) +ℤ pos (1000 * c + k)

-- what a ramp has been told and asked
pub record RampRecord : Type 0 where
  pub biases : List ℤ
  pub asked : ℕ
  pub last : Option (ℤ × ℕ)

-- the ramp as a driver: no ask fails
abbrev pub driver_of : RampRecord → Driver
driver_of r = record {
  sample = λ shape c k t. number_at c k t;
  bias = bias_in r.biases;
  asked = r.asked;
  last = r.last;
  fails = [];
  faults = 0;
}
