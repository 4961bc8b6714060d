use Rattle.iio_device.specs.Plug.{driver_of}
use Rattle.iio_kinds.specs.Station.{station_by}
use Rattle.std.proofs.Common.{sym, ◌∙◌}
use Rattle.iio_desc.specs.Kind.{Input}
use Rattle.iio_kinds.proofs.InnerLemmas.{hosted_named, hosts_named}
use Rattle.iio_kinds.proofs.InnerJoins.{served_alone}
use Rattle.iio_kinds.proofs.in_device.InDevice.host.Goals as goal

pub host_input-requires-clause-hosted : goal.host_input-requires-clause-hosted
host_input-requires-clause-hosted g c =
    let drive = driver_of (λ b. (g.dyn-1.0.entry b.vtable).1.driver b.value) in
    sym (hosted_named c.args.self.now.inners.items _ (station_by drive c.args.self.now.device)) ∙ c.requires.hosted

pub returns-clause-hosts : goal.returns-clause-hosts
returns-clause-hosts g c =
    let drive = driver_of (λ b. (g.dyn-1.0.entry b.vtable).1.driver b.value) in
    hosts_named c.args.self.now.inners.items c.args.triggers.now Input c.args.self.now.device.core.number c.args.self.now.device.core.roster.shape
    (station_by drive c.args.self.now.device) c.args.mask.bits c.host_input.result c.host_input.ensures

pub returns-clause-full : goal.returns-clause-full
returns-clause-full g c = λ input whole.
    let own = c.args.self.now in
    served_alone own.device.core.roster.shape own.device.core.roster.captures own.device.core.roster.next own.inners.items own.device.core.roster.members.items
    c.args.mask.bits own.device.core.roster.sound.each whole
