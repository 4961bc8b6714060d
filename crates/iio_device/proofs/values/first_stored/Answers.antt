use Rattle.std.proofs.Common.{◌∙◌, ap, ℕ, true, fold}
use Rattle.iio_device.specs.Site.{with_attr}
use Rattle.iio_device.proofs.values.first_stored.Goals as goal

pub returns-clause-site : goal.returns-clause-site
returns-clause-site g c trigger =
    c.write_all.ensures.site true trigger 0
    ∙ ap (λ site. fold (with_attr {Who = ℕ}) site c.args.attrs.now) (c.in_ok-stored.ensures.site trigger (g.P.Sensor.driver c.args.plug.now))
