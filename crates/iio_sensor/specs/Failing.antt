-- A ramp that fails some of its asks, as a driver. (This project's own.)
use Rattle.std.specs.Prelude.{ℕ, List}
use Rattle.iio_sensor.specs.Driver.{Driver}
use Rattle.iio_sensor.specs.Ramp.{RampRecord}
use Rattle.iio_sensor.specs.Ramp as ramp

-- the ramp, the numbers of the asks that fail, and the number of those that have failed
pub record FailingRecord : Type 0 where
  pub ramp : RampRecord
  pub fails : List ℕ
  pub faults : ℕ

abbrev pub driver_of : FailingRecord → Driver
driver_of f = record (ramp.driver_of f.ramp) { fails = f.fails; faults = f.faults }
