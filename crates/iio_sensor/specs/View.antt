-- Drivers as contracts see them.
use Rattle.iio_layout.specs.Rows.{IsRecording}
use Rattle.iio_sensor.specs.declared.failing.Failing.TheInside as failing
use Rattle.iio_sensor.specs.declared.ramp.Ramp.TheInside as ramp
use Rattle.iio_sensor.specs.declared.recorded.Recorded.TheInside as recorded
use Rattle.iio_sensor.specs.Failing.{FailingRecord}
use Rattle.iio_sensor.specs.Held.{IsHeld}
use Rattle.iio_sensor.specs.Ramp.{RampRecord}
use Rattle.iio_sensor.specs.Recorded.{RecordedRecord}

abbrev pub recorded_of : recorded.Inside → RecordedRecord
recorded_of a = record { rows = a.rows; biases = a.asks.biases; asked = a.asks.asked; last = a.asks.last }

-- the rows are a recording, and what is held is a scan of one of them
pub record IsSound (a : recorded.Inside) : Type 0 where
  pub recording : IsRecording a.rows
  pub held : IsHeld a.rows a.asks.biases a.held

abbrev pub ramp_of : ramp.Inside → RampRecord
ramp_of a = record { biases = a.asks.biases; asked = a.asks.asked; last = a.asks.last }

abbrev pub failing_of : failing.Inside → FailingRecord
failing_of a = record { ramp = a.ramp; fails = a.fails.items; faults = a.faults }
