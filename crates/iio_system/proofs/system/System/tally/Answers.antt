use Rattle.std.proofs.Common.{◌∙◌}
use Rattle.iio_device.specs.Plug.{driver_of}
use Rattle.iio_system.proofs.TallyLaws.{tally_told}
use Rattle.iio_system.proofs.system.System.tally.Goals as goal

pub returns : goal.returns
returns g c s h stands =
    c.tally.ensures ∙ tally_told (driver_of (λ b. (g.dyn-1.0.entry b.vtable).1.driver b.value)) s h c.args.self.now stands
