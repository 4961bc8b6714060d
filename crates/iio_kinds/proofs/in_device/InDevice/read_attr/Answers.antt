use Rattle.iio_device.specs.Plug.{driver_of}
use Rattle.iio_kinds.specs.Station.{station_by}
use Rattle.std.proofs.Common.{w64}
use Rattle.std.proofs.lemmas.Int.{to_z-of_z}
use Rattle.iio_kinds.specs.Station.{in_head}
use Rattle.iio_kinds.proofs.InnerLemmas.{facts_same, reads_named, reads_stay}
use Rattle.iio_kinds.proofs.KeepLemmas.{keeps_captures}
use Rattle.iio_kinds.proofs.in_device.InDevice.read_attr.Goals as goal

pub returns-clause-reads : goal.returns-clause-reads
returns-clause-reads g c =
    let drive = driver_of (λ b. (g.dyn-1.0.entry b.vtable).1.driver b.value) in
    reads_named c.args.self.now.inners.items (in_head c.args.self.now) c.args.t c.args.channel c.args.attr c.read_attr.result
    (station_by drive c.args.self.now.device) (station_by drive c.read_attr.new.device) (rw (to_z-of_z w64 c.args.t c.ranges.t) at c.read_attr.ensures.reads)

pub returns-clause-keeps : goal.returns-clause-keeps
returns-clause-keeps g c =
    let drive = driver_of (λ b. (g.dyn-1.0.entry b.vtable).1.driver b.value) in
    keeps_captures drive _ _ c.read_attr.ensures.keeps

pub invariant_of-self : goal.invariant_of-self
invariant_of-self g c =
    let drive = driver_of (λ b. (g.dyn-1.0.entry b.vtable).1.driver b.value) in
    record {
      sound =
          facts_same c.args.self.now.device.core.roster.shape c.read_attr.new.device.core.roster.shape c.args.self.now.inners.items c.args.self.now.room.items
          c.args.self.now.device.core.roster.members.items c.read_attr.new.device.core.roster.members.items
          c.read_attr.ensures.keeps.device.shape
          (reads_stay c.args.self.now.inners.items (in_head c.args.self.now) c.args.t c.args.channel c.args.attr c.read_attr.result
          (station_by drive c.args.self.now.device) (station_by drive c.read_attr.new.device)
          (rw (to_z-of_z w64 c.args.t c.ranges.t) at c.read_attr.ensures.reads)) c.args.self.now.sound;
    }
