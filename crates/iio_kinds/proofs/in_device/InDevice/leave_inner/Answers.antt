use Rattle.std.proofs.Common.{ap, refl, sym, ◌∙◌}
use Rattle.iio_device.specs.Plug.{driver_of}
use Rattle.iio_device.specs.Device.{view_of}
use Rattle.iio_kinds.specs.Inner.{inners_without, number_by}
use Rattle.iio_kinds.specs.Station.{station_by}
use Rattle.iio_kinds.proofs.InnerLemmas.{named, place_stays, there_told}
use Rattle.iio_kinds.proofs.InnerLeaves.{gone_facts, nobody_inner, numbers_told, one_gone, place_between}
use Rattle.iio_kinds.proofs.KeepLemmas.{keeps_captures}
use Rattle.iio_kinds.proofs.LeaveLemmas.{left_is, left_place, leaves_keep}
use Rattle.iio_kinds.proofs.in_device.InDevice.leave_inner.Goals as goal

pub returns-in_default-clause-station : goal.returns-in_default-clause-station
returns-in_default-clause-station g c =
    let drive = driver_of (λ b. (g.dyn-1.0.entry b.vtable).1.driver b.value) in
    nobody_inner c.args.self.now.inners.items c.args.average (station_by drive c.args.self.now.device)
    (ap (number_by c.args.average) (sym c.deref.ensures.value) ∙ sym c.number_of.ensures ∙ c.in_default.is)
    (there_told c.args.self.now.device.core.roster.members.items c.args.self.now.inners.items c.args.self.now.sound.there) c.args.self.now.sound.once

pub returns-in_default-clause-trigger : goal.returns-in_default-clause-trigger
returns-in_default-clause-trigger g c =
    let drive = driver_of (λ b. (g.dyn-1.0.entry b.vtable).1.driver b.value) in
    place_stays c.args.self.now.device.core.number (named c.args.self.now.inners.items (station_by drive c.args.self.now.device)) c.args.trigger.now

pub returns-clause-station : goal.returns-clause-station
returns-clause-station g c =
    let drive = driver_of (λ b. (g.dyn-1.0.entry b.vtable).1.driver b.value) in
    rw c.drop_inner.ensures (ap (named (inners_without c.args.average c.args.self.now.inners.items))
    (left_is c.in-Some.number c.leave-tail.result (view_of drive c.args.self.now.device) (view_of drive c.leave-tail.new.self) c.args.trigger.now
    c.leave-tail.new.trigger c.leave-tail.ensures)
    ∙ one_gone c.args.average c.in-Some.number c.args.self.now.inners.items
    (ap (number_by c.args.average) (sym c.deref.ensures.value) ∙ sym c.number_of.ensures ∙ c.in-Some.is) c.args.self.now.sound.apart c.args.self.now.sound.once
    (station_by drive c.args.self.now.device) c.args.self.now.device.core.roster.members.items refl refl
    (numbers_told c.args.self.now.device.core.roster.members.items c.args.self.now.device.core.roster.sound.numbers))

pub returns-clause-trigger : goal.returns-clause-trigger
returns-clause-trigger g c =
    let drive = driver_of (λ b. (g.dyn-1.0.entry b.vtable).1.driver b.value) in
    rw c.drop_inner.ensures (left_place c.in-Some.number c.leave-tail.result (view_of drive c.args.self.now.device) (view_of drive c.leave-tail.new.self)
    c.args.trigger.now c.leave-tail.new.trigger c.leave-tail.ensures
    ∙ sym (place_between c.args.self.now.inners.items (inners_without c.args.average c.args.self.now.inners.items) c.args.self.now.device.core.number
    (station_by drive c.args.self.now.device) (station_by drive c.leave-tail.new.self) c.args.trigger.now))

pub returns-clause-keeps : goal.returns-clause-keeps
returns-clause-keeps g c =
    let drive = driver_of (λ b. (g.dyn-1.0.entry b.vtable).1.driver b.value) in
    keeps_captures drive _ _
    (leaves_keep c.in-Some.number c.leave-tail.result (view_of drive c.args.self.now.device) (view_of drive c.leave-tail.new.self) c.args.trigger.now
    c.leave-tail.new.trigger c.leave-tail.ensures)

pub invariant_of-self : goal.invariant_of-self
invariant_of-self g c =
    let drive = driver_of (λ b. (g.dyn-1.0.entry b.vtable).1.driver b.value) in
    record {
      sound =
          rw c.drop_inner.ensures (gone_facts c.args.average c.in-Some.number c.args.self.now.inners.items
          (ap (number_by c.args.average) (sym c.deref.ensures.value) ∙ sym c.number_of.ensures ∙ c.in-Some.is) c.args.self.now.sound.apart
          c.args.self.now.sound.once
          c.args.self.now.device.core.roster.shape c.leave-tail.new.self.core.roster.shape c.args.self.now.room.items
          c.args.self.now.device.core.roster.members.items c.leave-tail.new.self.core.roster.members.items
          (leaves_keep c.in-Some.number c.leave-tail.result (view_of drive c.args.self.now.device) (view_of drive c.leave-tail.new.self) c.args.trigger.now
          c.leave-tail.new.trigger c.leave-tail.ensures).device.shape
          (ap (λ st. st.members) (left_is c.in-Some.number c.leave-tail.result (view_of drive c.args.self.now.device) (view_of drive c.leave-tail.new.self)
          c.args.trigger.now c.leave-tail.new.trigger c.leave-tail.ensures)) c.args.self.now.sound);
    }
