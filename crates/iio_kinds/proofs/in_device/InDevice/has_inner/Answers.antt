use Rattle.std.proofs.Common.{rules, ◌≡◌, ◌∙◌, is_some}
use Rattle.iio_device.specs.Plug.{driver_of}
use Rattle.iio_kinds.specs.Inner.{number_by}
use Rattle.iio_kinds.specs.Station.{station_by}
use Rattle.iio_kinds.proofs.InnerLemmas.{there_told}
use Rattle.iio_kinds.proofs.InnerLeaves.{any_inner, number_any}
use Rattle.iio_kinds.proofs.in_device.InDevice.has_inner.Goals as goal

pub returns : goal.returns
returns g c =
    let drive = driver_of (λ b. (g.dyn-1.0.entry b.vtable).1.driver b.value) in
    let own = c.args.self.now in
    let told : c.is_some.result ≡ is_some (number_by c.args.average own.inners.items) = search rules in
    told ∙ number_any own.inners.items c.args.average
    ∙ any_inner own.inners.items c.args.average (station_by drive own.device).members
    (there_told own.device.core.roster.members.items own.inners.items own.sound.there) own.sound.once
