-- A look at a device's thresholds: the channels that are watched, one after another. (This project's own, modelled on the
-- kernel's events.)
use Rattle.std.specs.Prelude.{ℕ, zero, suc, ◌+◌, ◌||◌, not, Bool, true, false, length, if◌then◌else◌, ℤ, Result, Ok, Err}
use Rattle.iio_layout.specs.Shape.{ShapeRecord}
use Rattle.iio_sensor.specs.Driver.{Driver, value_of, ask_fails, after_ask}
use Rattle.iio_sensor.specs.declared.sensor.Fault.{Fault}
use Rattle.iio_event.specs.declared.watch.Watched.{Watched}
use Rattle.iio_event.specs.Monitor.{MonitorRecord, channel_at, fired_events, after_value}
use Rattle.iio_device.specs.Site.{Site}

-- whether a value of the channel is asked for
abbrev pub is_watched : Watched → Bool
is_watched w = w.rising.enabled || w.falling.enabled

-- the state of a look: it ends at the first ask that fails
pub record Sensed (Who : Type 0) : Type 0 where
  pub driver : Driver
  pub monitor : MonitorRecord Who
  pub count : ℕ
  pub fault : Bool

module _ {Who : Type 0} where
  -- a value of channel c is asked for if it is watched and no ask has failed
  abbrev pub channel_sensed : ShapeRecord → ℤ → ℕ → Sensed Who → Sensed Who
  channel_sensed shape t c x =
      if x.fault then x
      else if not (is_watched (channel_at c x.monitor)) then x
      else if ask_fails x.driver then record x { driver = after_ask x.driver; fault = true }
      else (
      let v = value_of x.driver shape t c 0 in
      record {
        driver = after_ask x.driver;
        monitor = after_value c v t x.monitor;
        count = x.count + length (fired_events v t (channel_at c x.monitor));
        fault =
            false;
      })

  abbrev pub channels_sensed : ShapeRecord → ℤ → ℕ → Sensed Who → Sensed Who
  channels_sensed shape t zero x = x
  channels_sensed shape t (suc c) x = channel_sensed shape t c (channels_sensed shape t c x)

  -- the state before the first channel
  abbrev pub begun : Driver → MonitorRecord Who → Sensed Who
  begun driver monitor = record { driver = driver; monitor = monitor; count = 0; fault = false }

  abbrev pub sense_result : Sensed Who → Result ℕ Fault
  sense_result x = if x.fault then Err (record {}) else Ok x.count

  abbrev pub sensed : ShapeRecord → ℤ → Site Who → Sensed Who
  sensed shape t site = channels_sensed shape t (length shape.channels) (begun site.driver site.monitor)

  abbrev pub with_sensed : Sensed Who → Site Who → Site Who
  with_sensed x site = record site { driver = x.driver; monitor = x.monitor }
