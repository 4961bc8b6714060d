-- What a device keeps of its attributes, as part of its site, and what is read of them. (Kernel ABI, sysfs-bus-iio.)
use Rattle.std.specs.Prelude.{ℕ, if◌then◌else◌, Bool, List, Option, Some, None, slice_get, unwrap_or, pos}
use Rattle.iio_text.specs.declared.values.Fixed.{Fixed}
use Rattle.iio_attr.specs.declared.attributes.Attr.{Attr}
use Rattle.iio_attr.specs.declared.attributes.Attr.TheVariants as attr
use Rattle.iio_attr.specs.declared.values.Value.{Value}
use Rattle.iio_attr.specs.declared.values.Value.TheVariants.{Number, Int, Text}
use Rattle.iio_sensor.specs.Driver.{Driver}
use Rattle.iio_event.specs.declared.event.Edge.TheVariants.{Rising, Falling}
use Rattle.iio_event.specs.Monitor.{watch_at}
use Rattle.iio_device.specs.declared.stored.ChannelValues.{ChannelValues}
use Rattle.iio_device.specs.declared.stored.Stored.{Stored}
use Rattle.iio_device.specs.Site.{Site, first_values}

-- the site of a device that keeps this besides that driver
abbrev pub site_with : (plugged : Bool) → (trigger : Option ℕ) → (attachment : ℕ) → Driver → Stored → Site ℕ
site_with plugged trigger attachment driver stored = record {
  plugged = plugged;
  trigger = trigger;
  attachment = attachment;
  driver = driver;
  sampling_frequency = stored.sampling_frequency;
  values = stored.values.items;
  monitor = stored.monitor;
}

-- ---- reading

-- the value of an attribute that is only kept
abbrev pub kept_value : Attr → ChannelValues → Fixed
kept_value attr.Scale x = x.scale
kept_value attr.Offset x = x.offset
kept_value a x = x.calibscale

-- the value of a switch: 1 if it is on
abbrev pub switch_value : Bool → Value
switch_value on = Int (if on then pos 1 else pos 0)

module _ {Who : Type 0} where
  -- the kept values of channel c
  abbrev pub values_at : Site Who → ℕ → ChannelValues
  values_at site c = unwrap_or (slice_get site.values c) first_values

  -- the value of an attribute of channel c; `raw` isn't kept
  abbrev pub channel_value : Attr → ℕ → Site Who → Value
  channel_value attr.Calibbias c site = Int (site.driver.bias c)
  channel_value attr.ThreshRisingValue c site = Int (watch_at c Rising site.monitor).threshold
  channel_value attr.ThreshFallingValue c site = Int (watch_at c Falling site.monitor).threshold
  channel_value attr.ThreshRisingEn c site = switch_value (watch_at c Rising site.monitor).enabled
  channel_value attr.ThreshFallingEn c site = switch_value (watch_at c Falling site.monitor).enabled
  channel_value a c site = Number (kept_value a (values_at site c))

  -- the value of an attribute of a device of that name, or of a channel of it
  abbrev pub attr_value : (name : List ℕ) → Option ℕ → Attr → Site Who → Value
  attr_value name None attr.SamplingFrequency site = Number site.sampling_frequency
  attr_value name None a site = Text name
  attr_value name (Some c) a site = channel_value a c site
