-- A device's site: what stands at it besides its shape and its members, and what each thing that happens to it makes of that.
-- (Kernel ABI, sysfs-bus-iio: the attributes. Kernel, driver-api/iio: a device is attached to its trigger while its buffer is
-- enabled. That attachments have numbers, and what an unplugged device is, are this project's own.)
use Rattle.std.specs.Prelude.{ℕ, zero, suc, ◌+◌, ◌==◌, ◌&&◌, not, Bool, true, false, List, [], ◌∷◌, fold, length, replicate, Option, Some, None, unwrap_or, if◌then◌else◌, ℤ, pos}
use Rattle.iio_text.specs.declared.values.Fixed.{Fixed}
use Rattle.iio_text.specs.declared.values.Form.TheVariants.{Int}
use Rattle.iio_text.specs.Fixed.{fixed_int}
use Rattle.iio_attr.specs.declared.attributes.Attr.{Attr}
use Rattle.iio_attr.specs.declared.attributes.Attr.TheVariants as attr
use Rattle.iio_attr.specs.declared.values.Value.{Value}
use Rattle.iio_attr.specs.declared.values.Value.TheVariants.{Number}
use Rattle.iio_attr.specs.Attributes.{first_value, whole_value}
use Rattle.iio_layout.specs.Shape.{ShapeRecord}
use Rattle.iio_sensor.specs.Driver.{Driver, after_ask, after_bias, after_capture}
use Rattle.iio_desc.specs.declared.description.AttrDesc.{AttrDesc}
use Rattle.iio_event.specs.declared.event.Edge.TheVariants.{Rising, Falling}
use Rattle.iio_event.specs.Monitor.{MonitorRecord, new_monitor, set_threshold, switch_edge}
use Rattle.iio_device.specs.declared.stored.ChannelValues.{ChannelValues}

-- `Who` is the type of what identifies the holder of the events
pub record Site (Who : Type 0) : Type 0 where
  pub plugged : Bool
  pub trigger : Option ℕ
  -- the number of times that a first member has joined; it is the number of the present attachment
  pub attachment : ℕ
  pub driver : Driver
  pub sampling_frequency : Fixed
  pub values : List ChannelValues
  pub monitor : MonitorRecord Who

-- ---- values

-- the value of an attribute before any is written
abbrev pub at_first : Attr → Fixed
at_first a = unwrap_or (first_value a) (whole_value Int 0)

abbrev pub first_values : ChannelValues
first_values = record { scale = at_first attr.Scale; offset = at_first attr.Offset; calibscale = at_first attr.Calibscale }

abbrev pub is_empty : {A : Type 0} → List A → Bool
is_empty [] = true
is_empty (x ∷ xs) = false

-- the list with the element at one place changed
abbrev pub at_place : {A : Type 0} → ℕ → (A → A) → List A → List A
at_place k f [] = []
at_place zero f (x ∷ xs) = f x ∷ xs
at_place (suc k) f (x ∷ xs) = x ∷ at_place k f xs

abbrev pub with_value : Attr → Fixed → ChannelValues → ChannelValues
with_value attr.Scale v x = record x { scale = v }
with_value attr.Offset v x = record x { offset = v }
with_value attr.Calibscale v x = record x { calibscale = v }
with_value a v x = x

-- the value in an attribute line of a description
abbrev pub number_in : Value → Fixed
number_in (Number v) = v
number_in value = whole_value Int 0

module _ {Who : Type 0} where
  -- what a write of a threshold attribute of channel c makes of the thresholds
  abbrev pub monitor_written : ℕ → Attr → Fixed → MonitorRecord Who → MonitorRecord Who
  monitor_written c attr.ThreshRisingValue v m = set_threshold c Rising (fixed_int v) m
  monitor_written c attr.ThreshFallingValue v m = set_threshold c Falling (fixed_int v) m
  monitor_written c attr.ThreshRisingEn v m = switch_edge c Rising (v.whole == 1) m
  monitor_written c attr.ThreshFallingEn v m = switch_edge c Falling (v.whole == 1) m
  monitor_written c a v m = m

  -- the site after a write of a value, to the device or to a channel
  abbrev pub site_written : Option ℕ → Attr → Fixed → Site Who → Site Who
  site_written None attr.SamplingFrequency v site = record site { sampling_frequency = v }
  site_written (Some c) attr.Calibbias v site = record site { driver = after_bias site.driver c (fixed_int v) }
  site_written (Some c) a v site = record site {
    values = at_place c (with_value a v) site.values;
    monitor = monitor_written c a v site.monitor;
  }
  site_written None a v site = site

  -- ---- a new device

  -- the attribute lines are writes that come before the first step
  abbrev pub with_attr : Site Who → AttrDesc → Site Who
  with_attr site a = site_written a.channel a.attr (number_in a.value) site

  abbrev pub new_site : ShapeRecord → Option ℕ → Driver → Site Who
  new_site shape trigger driver = record {
    plugged = true;
    trigger = trigger;
    attachment = 0;
    driver = driver;
    sampling_frequency = at_first attr.SamplingFrequency;
    values = replicate (length shape.channels) first_values;
    monitor = new_monitor shape;
  }

  -- the site of a device of that shape, trigger and driver, after the writes of its description
  abbrev pub first_site : ShapeRecord → Option ℕ → Driver → List AttrDesc → Site Who
  first_site shape trigger driver attrs = fold with_attr (new_site shape trigger driver) attrs

  -- ---- what happens to it

  -- after a joining: that of the first member is a new attachment
  abbrev pub attached : (is_first : Bool) → Site Who → Site Who
  attached is_first site = if is_first then record site { attachment = site.attachment + 1 } else site

  -- the sensor is asked once, for a capture under the active mask
  abbrev pub captured : (moment : ℤ) → (active : Option ℕ) → Site Who → Site Who
  captured moment active site = record site { driver = after_capture site.driver moment (unwrap_or active 0) }

  -- the sensor is asked once, for a sample
  abbrev pub sampled : Site Who → Site Who
  sampled site = record site { driver = after_ask site.driver }

  abbrev pub with_monitor : (MonitorRecord Who → MonitorRecord Who) → Site Who → Site Who
  with_monitor change site = record site { monitor = change site.monitor }

-- stands in place of a driver that was dropped
abbrev pub no_driver : Driver
no_driver = record { sample = λ shape c k t. pos 0; bias = λ c. pos 0; asked = 0; last = None; fails = []; faults = 0 }

-- an unplugged device: its driver is gone too
abbrev pub unplugged : {Who : Type 0} → Site Who → Site Who
unplugged site = record site { plugged = false; driver = no_driver }

-- whether an entry is current: it is of the present attachment, there is a member, and the device is plugged
abbrev pub is_current : (attachment present : ℕ) → {A : Type 0} → (members : List A) → (plugged : Bool) → Bool
is_current attachment present members plugged = attachment == present && not (is_empty members) && plugged
