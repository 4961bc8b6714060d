use Rattle.iio_device.specs.Plug.{driver_of}
use Rattle.iio_device.specs.Device.{view_of}
use Rattle.iio_kinds.specs.Station.{station_by}
use Rattle.std.proofs.Common.{ap, ◌∙◌, w64}
use Rattle.std.proofs.lemmas.Int.{to_z-of_z}
use Rattle.iio_kinds.proofs.LookLemmas.{sense_keeps_all, sense_station}
use Rattle.iio_kinds.proofs.InnerLemmas.{facts_same, named, sensed_named, sensed_stay}
use Rattle.iio_kinds.proofs.KeepLemmas.{keeps_captures}
use Rattle.iio_kinds.proofs.in_device.InDevice.sense.Goals as goal

pub returns-clause-station : goal.returns-clause-station
returns-clause-station g c =
    let drive = driver_of (λ b. (g.dyn-1.0.entry b.vtable).1.driver b.value) in
    ap (named c.args.self.now.inners.items)
    (sense_station c.args.t (view_of drive c.args.self.now.device) (view_of drive c.sense.new.self)
    (rw (to_z-of_z w64 c.args.t c.ranges.t) at c.sense.ensures.state))
    ∙ sensed_named c.args.self.now.inners.items c.args.self.now.device.core.roster.shape c.args.t (station_by drive c.args.self.now.device)

pub returns-clause-keeps : goal.returns-clause-keeps
returns-clause-keeps g c =
    let drive = driver_of (λ b. (g.dyn-1.0.entry b.vtable).1.driver b.value) in
    keeps_captures drive _ _
    (sense_keeps_all c.args.t (view_of drive c.args.self.now.device) (view_of drive c.sense.new.self)
    (rw (to_z-of_z w64 c.args.t c.ranges.t) at c.sense.ensures.state))

pub invariant_of-self : goal.invariant_of-self
invariant_of-self g c =
    let drive = driver_of (λ b. (g.dyn-1.0.entry b.vtable).1.driver b.value) in
    record {
      sound =
          facts_same c.args.self.now.device.core.roster.shape c.sense.new.self.core.roster.shape c.args.self.now.inners.items c.args.self.now.room.items
          c.args.self.now.device.core.roster.members.items c.sense.new.self.core.roster.members.items
          (sense_keeps_all c.args.t (view_of drive c.args.self.now.device) (view_of drive c.sense.new.self)
          (rw (to_z-of_z w64 c.args.t c.ranges.t) at c.sense.ensures.state)).device.shape
          (ap (λ st. st.members) (sense_station c.args.t (view_of drive c.args.self.now.device) (view_of drive c.sense.new.self)
          (rw (to_z-of_z w64 c.args.t c.ranges.t) at c.sense.ensures.state))
          ∙ sensed_stay c.args.self.now.device.core.roster.shape c.args.t (station_by drive c.args.self.now.device)) c.args.self.now.sound;
    }
