use Rattle.iio_device.specs.Plug.{driver_of}
use Rattle.iio_device.specs.Device.{view_of}
use Rattle.iio_kinds.specs.Station.{station_of}
use Rattle.std.proofs.Common.{ap}
use Rattle.iio_kinds.proofs.LookLemmas.{unplug_keeps_all}
use Rattle.iio_kinds.proofs.InnerLemmas.{facts_same, named}
use Rattle.iio_kinds.proofs.KeepLemmas.{keeps_captures}
use Rattle.iio_kinds.proofs.in_device.InDevice.unplug.Goals as goal

pub returns-clause-station : goal.returns-clause-station
returns-clause-station g c =
    let drive = driver_of (λ b. (g.dyn-1.0.entry b.vtable).1.driver b.value) in
    ap (λ v. named c.args.self.now.inners.items (station_of v)) c.unplug.ensures.state

pub returns-clause-keeps : goal.returns-clause-keeps
returns-clause-keeps g c =
    let drive = driver_of (λ b. (g.dyn-1.0.entry b.vtable).1.driver b.value) in
    keeps_captures drive _ _ (unplug_keeps_all (view_of drive c.args.self.now.device) (view_of drive c.unplug.new.self) c.unplug.ensures.state)

pub invariant_of-self : goal.invariant_of-self
invariant_of-self g c =
    let drive = driver_of (λ b. (g.dyn-1.0.entry b.vtable).1.driver b.value) in
    record {
      sound =
          facts_same c.args.self.now.device.core.roster.shape c.unplug.new.self.core.roster.shape c.args.self.now.inners.items c.args.self.now.room.items
          c.args.self.now.device.core.roster.members.items c.unplug.new.self.core.roster.members.items
          (unplug_keeps_all (view_of drive c.args.self.now.device) (view_of drive c.unplug.new.self) c.unplug.ensures.state).device.shape
          (ap (λ v. (station_of v).members) c.unplug.ensures.state) c.args.self.now.sound;
    }
