use Rattle.std.proofs.Common.{map}
use Rattle.iio_device.specs.declared.plug.Plug.TheVariants.{Given}
use Rattle.iio_device.specs.Plug.{driver_of}
use Rattle.iiod_bank.proofs.FirstLemmas.{parts_fit}
use Rattle.iiod_bank.proofs.first.parts_of.Goals as goal

pub returns-clause-fits : goal.returns-clause-fits
returns-clause-fits g c =
    parts_fit (driver_of (λ p. (g.dyn-1.0.entry p.vtable).1.driver p.value))
    (map (λ d. driver_of (λ p. (g.dyn-1.0.entry p.vtable).1.driver p.value) (Given d)) c.args.drivers.items) c.args.desc _ c.made_of.result
    c.requires c.made_of.ensures.front c.made_of.ensures.devices c.made_of.ensures.triggers
