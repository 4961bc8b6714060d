-- The texts of the values that stand at a device. (Kernel ABI, sysfs-bus-iio. What READ and WRITE name there is said in iiod_commands.)
use Rattle.std.specs.Prelude.{ℕ, List, Option}
use Rattle.iio_attr.specs.declared.attributes.Attr.{Attr}
use Rattle.iio_device.specs.Site.{Site}
use Rattle.iio_device.specs.Stored.{attr_value}
use Rattle.iiod_commands.specs.Attributes.{text_of_value}
use Rattle.iio_history.specs.Who.{Who}

-- the text of an attribute of a device of that name, or of one of its channels; `raw` isn't kept
abbrev pub value_text : List ℕ → Option ℕ → Attr → Site Who → List ℕ
value_text name channel a site = text_of_value (attr_value name channel a site)
