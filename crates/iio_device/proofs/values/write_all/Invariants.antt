use Rattle.std.proofs.Common.{◌≡◌, ℕ, Bool, Option, fold, length, take}
use Rattle.iio_device.specs.Site.{with_attr}
use Rattle.iio_device.specs.Stored.{site_with}
use Rattle.iio_device.proofs.values.write_all.Given as goal

abbrev pub invariant-loop-a : goal.invariant-loop-a
invariant-loop-a g l = record {
  site : (plugged : Bool) (trigger : Option ℕ) (attachment : ℕ)
      → site_with plugged trigger attachment (g.P.Sensor.driver l.plug) l.stored
      ≡ fold with_attr (site_with plugged trigger attachment (g.P.Sensor.driver l.fn.plug) l.fn.stored) (take l.a-index l.attrs);
  inputs : length l.stored.values.items ≡ length l.fn.stored.values.items;
}
