use Rattle.std.proofs.Common.{rules, ◌≡◌, Some, of_z, to_z, w64}
use Rattle.iio_device.specs.Plug.{driver_of}
use Rattle.iio_device.specs.Device.{view_of}
use Rattle.iiod_bank.proofs.JobLemmas.{kept_read, read_along}
use Rattle.iiod_bank.proofs.attributes.ReadWorkWork.run.Goals as goal

pub returns-in-Some-clause-does : goal.returns-in-Some-clause-does
returns-in-Some-clause-does g c =
    let whole : to_z w64 (of_z w64 c.args.self.t) ≡ c.args.self.t = search rules in
    read_along c.args.self.t (to_z w64 (of_z w64 c.args.self.t)) c.args.self.channel (Some c.in-Some.c) c.args.self.attr
    (view_of (driver_of (λ p. (g.dyn-1.0.entry p.vtable).1.driver p.value)) c.args.device.now)
    (view_of (driver_of (λ p. (g.dyn-1.0.entry p.vtable).1.driver p.value)) c.read_channel.new.device) _ whole c.in-Some.is c.read_channel.ensures

pub returns-in-Some-clause-kept : goal.returns-in-Some-clause-kept
returns-in-Some-clause-kept g c = kept_read (Some c.in-Some.c) c.args.self.attr _ _ c.read_channel.ensures.1
