use Rattle.iio_device.specs.Plug.{driver_of}
use Rattle.iio_device.specs.Device.{view_of}
use Rattle.iio_kinds.specs.Station.{station_by}
use Rattle.std.proofs.Common.{ap, refl, sym, ◌∙◌}
use Rattle.iio_kinds.specs.Inner.{inner_at}
use Rattle.iio_kinds.proofs.InnerLemmas.{left_named, named, nobody_leaves, none_there, place_left_named, place_stays}
use Rattle.iio_kinds.proofs.InnerJoins.{left_facts}
use Rattle.iio_kinds.proofs.KeepLemmas.{keeps_captures}
use Rattle.iio_kinds.proofs.LeaveLemmas.{left_is, left_place, leaves_keep}
use Rattle.iio_kinds.proofs.in_device.InDevice.leave.Goals as goal

pub returns-then-is_inner-clause-station : goal.returns-then-is_inner-clause-station
returns-then-is_inner-clause-station g c =
    let drive = driver_of (λ b. (g.dyn-1.0.entry b.vtable).1.driver b.value) in
    nobody_leaves c.args.self.now.inners.items c.args.number (sym c.is_inner.ensures ∙ c.if-is_inner.true) (station_by drive c.args.self.now.device)
    c.args.self.now.device.core.roster.members.items refl

pub returns-then-is_inner-clause-trigger : goal.returns-then-is_inner-clause-trigger
returns-then-is_inner-clause-trigger g c =
    let drive = driver_of (λ b. (g.dyn-1.0.entry b.vtable).1.driver b.value) in
    place_stays c.args.self.now.device.core.number (named c.args.self.now.inners.items (station_by drive c.args.self.now.device)) c.args.trigger.now

pub returns-clause-station : goal.returns-clause-station
returns-clause-station g c =
    let drive = driver_of (λ b. (g.dyn-1.0.entry b.vtable).1.driver b.value) in
    ap (named c.args.self.now.inners.items)
    (left_is c.args.number c.leave-tail.result (view_of drive c.args.self.now.device) (view_of drive c.leave-tail.new.self) c.args.trigger.now
    c.leave-tail.new.trigger c.leave-tail.ensures)
    ∙ left_named c.args.self.now.inners.items c.args.number
    (none_there (inner_at c.args.self.now.inners.items c.args.number) (sym c.is_inner.ensures ∙ c.if-is_inner.false)) (station_by drive c.args.self.now.device)
    c.args.self.now.device.core.roster.members.items refl

pub returns-clause-trigger : goal.returns-clause-trigger
returns-clause-trigger g c =
    let drive = driver_of (λ b. (g.dyn-1.0.entry b.vtable).1.driver b.value) in
    left_place c.args.number c.leave-tail.result (view_of drive c.args.self.now.device) (view_of drive c.leave-tail.new.self) c.args.trigger.now
    c.leave-tail.new.trigger c.leave-tail.ensures
    ∙ sym (place_left_named c.args.self.now.inners.items c.args.self.now.device.core.number (station_by drive c.args.self.now.device)
    (station_by drive c.leave-tail.new.self) c.args.trigger.now)

pub returns-clause-keeps : goal.returns-clause-keeps
returns-clause-keeps g c =
    let drive = driver_of (λ b. (g.dyn-1.0.entry b.vtable).1.driver b.value) in
    keeps_captures drive _ _
    (leaves_keep c.args.number c.leave-tail.result (view_of drive c.args.self.now.device) (view_of drive c.leave-tail.new.self) c.args.trigger.now
    c.leave-tail.new.trigger c.leave-tail.ensures)

pub invariant_of-self : goal.invariant_of-self
invariant_of-self g c =
    let drive = driver_of (λ b. (g.dyn-1.0.entry b.vtable).1.driver b.value) in
    record {
      sound =
          left_facts c.args.self.now.device.core.roster.shape c.leave-tail.new.self.core.roster.shape c.args.self.now.inners.items c.args.self.now.room.items
          c.args.self.now.device.core.roster.members.items c.leave-tail.new.self.core.roster.members.items
          c.args.number (leaves_keep c.args.number c.leave-tail.result (view_of drive c.args.self.now.device) (view_of drive c.leave-tail.new.self)
          c.args.trigger.now c.leave-tail.new.trigger c.leave-tail.ensures).device.shape
          (ap (λ st. st.members) (left_is c.args.number c.leave-tail.result (view_of drive c.args.self.now.device) (view_of drive c.leave-tail.new.self)
          c.args.trigger.now c.leave-tail.new.trigger c.leave-tail.ensures))
          (none_there (inner_at c.args.self.now.inners.items c.args.number) (sym c.is_inner.ensures ∙ c.if-is_inner.false)) c.args.self.now.sound;
    }
